-- One slot of an accessor that threads share: the tables of the regions whose hash has the slot's number.
use Rattle.std.specs.Prelude.{◌≡◌, ◌≢◌, ℕ, suc, ◌==◌, List, [], ◌∷◌, filter, Some, None}
use Rattle.std.specs.List.{AllByRecursion}
use Rattle.std.specs.FinMap as finite
use Rattle.raft_history.specs.RegionSteps.{Tables}
use Rattle.raft_table.specs.Table.{Table}
use Rattle.raft_accessor.specs.Accessor.{Accessor, slot_of, AreCountsOf}
use Rattle.raft_accessor.specs.SlotTables.{IsSlotTaken, counts_of, with_all_deleted}

-- a slot's number, and what it holds, as an accessor does: the tables of its regions, those that were cleaned in order, and the counts
pub record Slot : Type 0 where
  pub number : ℕ
  pub content : Accessor

-- a table that may stand under an id in the slot of this number
pub record IsSlotTable (number id : ℕ) (t : Table) : Type 0 where
  pub own : t.region_id ≡ id
  pub slot : slot_of id ≡ number

-- what a slot's lock keeps: every table stands under its own id, which is of this slot; the counts are those of the tables; every cleaned region is of this slot
pub record HoldsOwnTables (s : Slot) : Type 0 where
  pub tables : (id : ℕ) (t : Table) → finite.get s.content.tables id ≡ Some t → IsSlotTable s.number id t
  pub counted : AreCountsOf s.content.tables s.content.counts
  pub cleaned : AllByRecursion (λ id. slot_of id ≡ s.number) s.content.cleaned

-- the tables that an accessor had of a slot's regions stand in the slot, are no longer in the accessor, and are counted in the slot alone; the lists of cleaned regions stay
pub record AreTablesTaken (old new : Slot) (source rest : Accessor) : Type 0 where
  pub number : new.number ≡ old.number
  pub tables : IsSlotTaken old.number source.tables rest.tables new.content.tables
  pub counts : new.content.counts ≡ counts_of new.content.tables
  pub rest_counts : rest.counts ≡ with_all_deleted new.content.tables source.counts
  pub cleaned : new.content.cleaned ≡ old.content.cleaned
  pub rest_cleaned : rest.cleaned ≡ source.cleaned

-- a slot of this number has the tables of its regions, and lists those of its regions that were cleaned, in order
pub record HasShare (all : Tables) (ids : List ℕ) (k : ℕ) (s : Slot) : Type 0 where
  pub number : s.number ≡ k
  pub tables : (id : ℕ) → slot_of id ≡ k → finite.get s.content.tables id ≡ finite.get all id
  pub cleaned : s.content.cleaned ≡ filter (λ id. slot_of id == k) ids

-- slots from this number on, each with its share of the tables and of the cleaned regions
abbrev pub HaveShares : Tables → List ℕ → ℕ → List Slot → Type 0
HaveShares all ids k [] = Unit {0}
HaveShares all ids k (s ∷ slots) = HasShare all ids k s × HaveShares all ids (suc k) slots

-- a slot's tables were added to those of an accessor: all of them stand there, no region without a table got one, and the tables of other slots' regions stay
pub record AreSlotTablesAdded (s : Slot) (old new : Tables) : Type 0 where
  pub added : (id : ℕ) (t : Table) → finite.get s.content.tables id ≡ Some t → finite.get new id ≡ Some t
  pub none : (id : ℕ) → finite.get s.content.tables id ≡ None → finite.get old id ≡ None → finite.get new id ≡ None
  pub others : (id : ℕ) → slot_of id ≢ s.number → finite.get new id ≡ finite.get old id
