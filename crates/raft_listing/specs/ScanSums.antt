-- What the numbers of a scan say of all that it has met.
use Rattle.std.specs.Prelude.{◌≡◌, ◌⊎◌, ℕ, ◌+◌, ◌-◌, ◌^◌, ◌≤◌, min, List, [], ◌∷◌, ◌++◌, filter, length, Bool, true, false, None, Some}
use Rattle.std.specs.List.{AllByRecursion}
use Rattle.raft_records.specs.FilePart.{Part}
use Rattle.raft_listing.specs.Walks.{Met, batch, damage}
use Rattle.raft_listing.specs.declared.scan.FileScan.{FileScan}

-- a batch is met
abbrev pub is_batch : Met → Bool
is_batch (batch items next) = true
is_batch (damage next e) = false

-- damage is met
abbrev pub IsDamage : Met → Type 0
IsDamage (batch items next) = ⊥
IsDamage (damage next e) = Unit {0}

-- damage is met past which no header leads
abbrev pub IsDeadEnd : Met → Type 0
IsDeadEnd (batch items next) = ⊥
IsDeadEnd (damage None e) = Unit {0}
IsDeadEnd (damage (Some next) e) = ⊥

-- The numbers of a scan, once it has met all this in a part, each with its byte: how many batches were met, at most 2^64 - 1; the least of the bytes at which damage was met, or what was
-- said before; and how many bytes of the file come from damage on past which no header leads, with which a walk ends.
pub record IsSummedUp (part : Part) (met : List (ℕ × Met)) (old new : FileScan) : Type 0 where
  pub batches : new.batches ≡ min (old.batches + length (filter (λ (m : ℕ × Met). is_batch m.1) met)) (2 ^ 64 - 1)
  pub no_more : new.read ≤ old.read
  pub least : (before after : List (ℕ × Met)) (m : ℕ × Met) → met ≡ before ++ m ∷ after → IsDamage m.1 → new.read ≤ part.offset + m.0
  pub reached : (new.read ≡ old.read) ⊎ ((before after : List (ℕ × Met)) × (m : ℕ × Met) × (met ≡ before ++ m ∷ after) × IsDamage m.1 × (new.read ≡ part.offset + m.0))
  pub unseen : (before : List (ℕ × Met)) (m : ℕ × Met) → met ≡ before ++ m ∷ [] → IsDeadEnd m.1 → new.unseen ≡ old.len - (part.offset + m.0)
  pub all_seen : AllByRecursion (λ (m : ℕ × Met). ¬ (IsDeadEnd m.1)) met → new.unseen ≡ old.unseen
