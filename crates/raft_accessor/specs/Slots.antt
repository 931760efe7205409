-- Values under regions' ids in slots, and as one map.
use Rattle.std.specs.Prelude.{◌≡◌, ◌≢◌, ℕ, suc, List, [], ◌∷◌, ◌++◌, None}
use Rattle.std.specs.Ordering.{nat_cmp}
use Rattle.std.specs.FinMap as finite
use Rattle.raft_accessor.specs.Accessor.{slot_of}

-- the values of all slots, one slot after the other
abbrev pub slot_entries : {V : Type 0} → List (finite.FinMap nat_cmp V) → List (ℕ × V)
slot_entries [] = []
slot_entries (m ∷ ms) = finite.entries m ++ slot_entries ms

-- the values of all slots as one map
unfoldable pub together : {V : Type 0} → List (finite.FinMap nat_cmp V) → finite.FinMap nat_cmp V
together slots = finite.from_entries (slot_entries slots)

-- a slot has no value of another slot's region
abbrev pub IsSlot : {V : Type 0} → ℕ → finite.FinMap nat_cmp V → Type 0
IsSlot k m = (id : ℕ) → slot_of id ≢ k → finite.get m id ≡ None

-- slots from this number on
abbrev pub AreSlots : {V : Type 0} → ℕ → List (finite.FinMap nat_cmp V) → Type 0
AreSlots k [] = Unit {0}
AreSlots k (m ∷ ms) = IsSlot k m × AreSlots (suc k) ms
