-- What the calls of this library say.
use Rattle.std.specs.Prelude.{◌≡◌, ◌≢◌, ℕ, Option, Some, None, Bool, true, false}
use Rattle.raft_base.specs.declared.errors.Error.{Error}
use Rattle.raft_base.specs.declared.errors.Error.TheVariants as errors
use Rattle.raft_base.specs.declared.pipe_log.LogQueue.{LogQueue}
use Rattle.raft_base.specs.declared.pipe_log.LogQueue.TheVariants.{Append, Rewrite}
use Rattle.raft_base.specs.declared.pipe_log.FileId.{FileId}
use Rattle.raft_base.specs.declared.pipe_log.LogFileContext.{LogFileContext}
use Rattle.raft_base.specs.declared.pipe_log.Version.{Version}
use Rattle.raft_base.specs.declared.pipe_log.Version.TheVariants.{V1, V2}
use Rattle.raft_ffi.specs.declared.status.File.{File}

-- the queue that a flag names
abbrev pub queue_of : Bool → LogQueue
queue_of false = Append
queue_of true = Rewrite

-- the file of a queue with a number
abbrev pub id_of : Bool → ℕ → FileId
id_of is_rewrite seq = record { queue = queue_of is_rewrite; seq = seq }

-- the version that a flag names
abbrev pub version_of : Bool → Version
version_of false = V1
version_of true = V2

-- the file that its number and its flags name
abbrev pub file_of : File → LogFileContext
file_of file = record { id = id_of file.is_rewrite file.seq; version = version_of file.is_signed }

-- the number of an error; 0 is none's
abbrev pub code_of : Error → ℕ
code_of (errors.InvalidArgument text) = 1
code_of (errors.Corruption text) = 2
code_of (errors.Io e) = 3
code_of (errors.Codec e) = 4
code_of (errors.Message e) = 5
code_of (errors.TryAgain text) = 6
code_of errors.EntryCompacted = 7
code_of errors.EntryNotFound = 8
code_of errors.Full = 9
code_of (errors.Other text) = 10
code_of errors.Memory = 11
code_of errors.Failed = 12

-- the number of an error that has this reason
abbrev pub IsCodeOf : (Error → Type 0) → ℕ → Type 0
IsCodeOf IsFault code = (e : Error) × IsFault e × (code ≡ code_of e)

-- a handle holds what this says
abbrev pub Holds : {V : Type 0} → (V → Type 0) → Option V → Type 0
Holds P None = ⊥
Holds P (Some v) = P v

-- a number is that of an error for which what a handle holds is refused
abbrev pub IsCodeFor : {V : Type 0} → (V → Error → Type 0) → Option V → ℕ → Type 0
IsCodeFor IsFault held code = Holds (λ v. IsCodeOf (IsFault v) code) held

-- what there is was found, if the flag says so, and is as this says
abbrev pub IsFound : {X : Type 0} → (X → Type 0) → Option X → Bool → Type 0
IsFound P None found = found ≡ false
IsFound P (Some x) found = (found ≡ true) × P x

-- two handles hold what this says of the two
abbrev pub BothHold : {V W : Type 0} → (V → W → Type 0) → Option V → Option W → Type 0
BothHold P (Some v) (Some w) = P v w
BothHold P _ _ = ⊥

-- a number is that of an error for which what two handles hold is refused
abbrev pub IsCodeForBoth : {V W : Type 0} → (V → W → Error → Type 0) → Option V → Option W → ℕ → Type 0
IsCodeForBoth IsFault one other code = BothHold (λ v w. IsCodeOf (IsFault v w) code) one other

-- three handles hold what this says of the three
abbrev pub AllHold : {U V W : Type 0} → (U → V → W → Type 0) → Option U → Option V → Option W → Type 0
AllHold P (Some u) (Some v) (Some w) = P u v w
AllHold P _ _ _ = ⊥

-- what a handle holds, and where the next batch begins
abbrev pub next_shown : {V : Type 0} → Option V → ℕ → Option (V × ℕ)
next_shown None next = None
next_shown (Some v) next = Some (v, next)

-- what a handle holds is so, and stays
pub record IsRead {V : Type 0} (P : V → Type 0) (old new : Option V) : Type 0 where
  pub found : Holds P old
  pub same : new ≡ old

-- what a handle holds is so where the number is 0; else there was no memory to read it, which has the number 11. It stays
pub record IsReadIfMemory {V : Type 0} (code : ℕ) (P : V → Type 0) (old new : Option V) : Type 0 where
  pub ok : code ≡ 0 → Holds P old
  pub memory : code ≢ 0 → code ≡ 11
  pub same : new ≡ old

-- what a handle holds is so where the number is 0; else the number is that of an error for which it is refused. It stays
pub record IsReadOrRefused {V : Type 0} (code : ℕ) (P : V → Type 0) (IsFault : V → Error → Type 0) (old new : Option V) : Type 0 where
  pub ok : code ≡ 0 → Holds P old
  pub fault : code ≢ 0 → IsCodeFor IsFault old code
  pub same : new ≡ old

-- a handle holds this where the number is 0; else nothing, for want of memory, which has the number 11
pub record IsMadeIfMemory {V : Type 0} (code : ℕ) (v : V) (new : Option V) : Type 0 where
  pub ok : code ≡ 0 → new ≡ Some v
  pub err : code ≢ 0 → new ≡ None
  pub memory : code ≢ 0 → code ≡ 11

-- what a handle holds has changed so where the number is 0; else it stays, for want of memory, which has the number 11
pub record IsChangedIfMemory {V : Type 0} (code : ℕ) (P : V → V → Type 0) (old new : Option V) : Type 0 where
  pub ok : code ≡ 0 → BothHold P old new
  pub err : code ≢ 0 → new ≡ old
  pub memory : code ≢ 0 → code ≡ 11

-- what a handle holds has changed so where the number is 0; else it stays, and the number is that of an error for which it is refused
pub record IsChangedOrRefused {V : Type 0} (code : ℕ) (P : V → V → Type 0) (IsFault : V → Error → Type 0) (old new : Option V) : Type 0 where
  pub ok : code ≡ 0 → BothHold P old new
  pub err : code ≢ 0 → new ≡ old
  pub fault : code ≢ 0 → IsCodeFor IsFault old code
