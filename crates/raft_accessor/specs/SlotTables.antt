-- The tables of one slot, taken out of those of all regions.
use Rattle.std.specs.Prelude.{◌≡◌, ◌≢◌, ℕ, Some, None}
use Rattle.std.specs.FinMap as finite
use Rattle.raft_base.specs.declared.pipe_log.LogQueue.TheVariants.{Append, Rewrite}
use Rattle.raft_history.specs.RegionSteps.{Tables}
use Rattle.raft_table.specs.Counts.{Counts, with_deleted}
use Rattle.raft_table.specs.Table.{Table}
use Rattle.raft_accessor.specs.Accessor.{slot_of, live_in_all}

-- the tables of this slot's regions are taken out, and all others stay
pub record IsSlotTaken (number : ℕ) (old new slot : Tables) : Type 0 where
  pub taken : (id : ℕ) → slot_of id ≡ number → finite.get slot id ≡ finite.get old id
  pub own : (id : ℕ) (t : Table) → finite.get slot id ≡ Some t → slot_of id ≡ number
  pub gone : (id : ℕ) → slot_of id ≡ number → finite.get new id ≡ None
  pub others : (id : ℕ) → slot_of id ≢ number → finite.get new id ≡ finite.get old id

-- the counts of some tables, none of whose records was deleted
abbrev pub counts_of : Tables → Counts
counts_of tables = record { append = live_in_all Append tables; written = live_in_all Rewrite tables; deleted = 0 }

-- the records of some tables no longer counted
abbrev pub with_all_deleted : Tables → Counts → Counts
with_all_deleted tables counts = with_deleted Rewrite (live_in_all Rewrite tables) (with_deleted Append (live_in_all Append tables) counts)
