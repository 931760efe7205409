-- Kept tables: those of an engine, beside the batches of the append files and of the rewrite files that are left, and the steps that the rewrite queue hasn't been told.
use Rattle.std.specs.Prelude.{ℕ, List, []}
use Rattle.std.specs.FinMap as finite
use Rattle.raft_base.specs.declared.entry_index.EntryIndex.{EntryIndex}
use Rattle.raft_base.specs.declared.pipe_log.LogQueue.TheVariants.{Append, Rewrite}
use Rattle.raft_table.specs.Steps.{table_of}
use Rattle.raft_history.specs.Batches.{Event, batches}
use Rattle.raft_history.specs.Effects.{steps_of}
use Rattle.raft_history.specs.Histories.{IsSoundIn, Apart, IsOneReading}
use Rattle.raft_history.specs.RegionSteps.{RegionStep, Tables, steps_on}
use Rattle.raft_engine_laws.specs.KeptRegions.{IsRegionKept}

-- both histories can be read, the effects of the rewrite queue's are apart, and each region's table is kept beside what the rewrite files alone give
pub record AreKept (content : EntryIndex → List ℕ) (append rewrite : List Event) (untold : List RegionStep) (tables : Tables) : Type 0 where
  pub append_sound : IsSoundIn Append append
  pub rewrite_sound : IsSoundIn Rewrite rewrite
  pub apart : Apart rewrite
  pub rewritten : Tables
  pub read : IsOneReading Rewrite rewrite rewritten []
  pub each : (r : ℕ) → IsRegionKept content r (steps_of r (batches append)) (steps_on r untold) (table_of r (finite.get rewritten r)) (table_of r (finite.get tables r))
