-- A slot's fields as its contracts see them. That a table has its own region's id is known by `RegionTables`.
use Rattle.std.specs.Prelude.{◌≡◌, ◌<◌, ℕ, Some}
use Rattle.std.specs.List.{AllByRecursion}
use Rattle.std.specs.FinMap as finite
use Rattle.raft_table.specs.Table.{Table}
use Rattle.raft_history.specs.RegionSteps.{Tables}
use Rattle.raft_shared.specs.declared.slot.Slot.TheInside.{Inside}
use Rattle.raft_accessor.specs.Accessor.{slot_of, AreCountsOf}
use Rattle.raft_shared.specs.Slot.{Slot}

-- a slot's number, and its tables, cleaned regions and counts
abbrev pub slot_shown : Inside → Slot
slot_shown a = record { number = a.number; content = record { tables = a.tables; cleaned = a.cleaned.items; counts = a.stats } }

-- tables of regions of one slot
abbrev pub AreOf : ℕ → Tables → Type 0
AreOf number m = (id : ℕ) (t : Table) → finite.get m id ≡ Some t → slot_of id ≡ number

-- the slot is one of 128, the tables and the cleaned regions are of this slot, and the counts are those of the tables
pub record IsSlotKept (a : Inside) : Type 0 where
  pub bound : a.number < 128
  pub regions : AreOf a.number a.tables
  pub counted : AreCountsOf a.tables a.stats
  pub cleaned : AllByRecursion (λ id. slot_of id ≡ a.number) a.cleaned.items
