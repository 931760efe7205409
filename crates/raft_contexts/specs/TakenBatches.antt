-- Batches that tell what the append queue takes away of rewritten tables.
use Rattle.std.specs.Prelude.{◌≡◌, ℕ, List, ◌++◌, Option, flat_map, IsPermutation}
use Rattle.std.specs.FinMap as finite
use Rattle.raft_records.specs.Item.{Item}
use Rattle.raft_records.specs.LogBatch.{Batch, empty_batch, is_open}
use Rattle.raft_table.specs.Marks.{Mark}
use Rattle.raft_table.specs.Table.{Table}
use Rattle.raft_history.specs.MarkedRegions.{MarkedRegions}
use Rattle.raft_history.specs.RegionSteps.{Tables}
use Rattle.raft_contexts.specs.TakenAway.{items_of_steps, items_of_table, steps_at_once, steps_later}
use Rattle.raft_contexts.specs.declared.taken_away.TakenAway.{TakenAway}

-- a batch with more items
abbrev pub with_items : Batch → List Item → Batch
with_items batch items = record batch { items = batch.items ++ items }

-- both batches are open
pub record AreOpen (taken : TakenAway) : Type 0 where
  pub at_once : taken.at_once.stage ≡ is_open
  pub later : taken.later.stage ≡ is_open

-- both batches with more items
abbrev pub with_both : TakenAway → List Item → List Item → TakenAway
with_both taken at_once later = record { at_once = with_items taken.at_once at_once; later = with_items taken.later later }

-- with what is told of a rewritten table under a region mark, where the appended entries begin at this index, if there are some
abbrev pub with_mark_told : Mark → Option ℕ → Table → TakenAway → TakenAway
with_mark_told m first t taken = with_both taken (items_of_steps t.region_id (steps_at_once m first t)) (items_of_steps t.region_id (steps_later m first t))

-- with what is told of a rewritten table under its region's mark
abbrev pub with_table_told : MarkedRegions → Table → TakenAway → TakenAway
with_table_told append t taken = with_both taken (items_of_table steps_at_once append t) (items_of_table steps_later append t)

-- what region marks of the append queue take away of rewritten tables, these in any order, as open batches that tell it, at once or later
pub record IsTakenAway (append : MarkedRegions) (rewritten : Tables) (taken : TakenAway) : Type 0 where
  pub tables : List Table
  pub all : IsPermutation tables (finite.values rewritten)
  pub at_once : taken.at_once ≡ record empty_batch { items = flat_map (items_of_table steps_at_once append) tables }
  pub later : taken.later ≡ record empty_batch { items = flat_map (items_of_table steps_later append) tables }
