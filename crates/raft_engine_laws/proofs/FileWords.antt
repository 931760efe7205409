-- Records in files below a number.
use Rattle.raft_engine_laws.proofs.Common.{ℕ, ◌<◌, List, Option, Some, None, arith, AllByRecursion, EntryIndex, place_seq, Step, Run, Put, IsSeqFrom}

-- the file of a place, if there is one, has a number below this one
abbrev pub IsSeqBelow : ℕ → Option ℕ → Type 0
IsSeqBelow n None = ⊥
IsSeqBelow n (Some seq) = seq < n

-- each entry's place is in a file below the number
abbrev pub AreBelow : ℕ → List EntryIndex → Type 0
AreBelow n es = AllByRecursion (λ (e : EntryIndex). IsSeqBelow n (place_seq e.entries)) es

-- what a step puts is in files below the number
abbrev pub IsStepBelow : ℕ → Step → Type 0
IsStepBelow n (Run run) = AreBelow n run
IsStepBelow n (Put key value file) = file.seq < n
IsStepBelow n _ = Unit {0}

-- no number is below this one and from it on
pub seq_clash : (n : ℕ) (o : Option ℕ) → IsSeqBelow n o → IsSeqFrom n o → ⊥
seq_clash n None h k = absurd h
seq_clash n (Some m) h k = omega (arith, h, k)
