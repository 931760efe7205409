-- What steps make of the counts.
use Rattle.std.specs.Prelude.{◌≡◌, List, [], ◌∷◌, Option, Some}
use Rattle.std.specs.FinMap as finite
use Rattle.raft_base.specs.declared.pipe_log.LogQueue.{LogQueue}
use Rattle.raft_history.specs.RegionSteps.{RegionStep, Tables, with_table}
use Rattle.raft_table.specs.Counts.{Counts}
use Rattle.raft_table.specs.Steps.{table_of, after_step}
use Rattle.raft_table.specs.Table.{Table}
pub use Rattle.raft_table.specs.TakenSteps.{counts_after_step}

-- nothing was counted
abbrev pub no_counts : Counts
no_counts = record { append = 0; written = 0; deleted = 0 }

-- what steps make of the counts, one after another, each at the tables after the steps in front of it
abbrev pub AreCountsAfterSteps : LogQueue → Tables → List RegionStep → Counts → Counts → Type 0
AreCountsAfterSteps queue tables [] old new = new ≡ old
AreCountsAfterSteps queue tables (s ∷ steps) old new =
    (t : Option Table) → after_step queue (table_of s.region (finite.get tables s.region)) s.step ≡ Some t
    → AreCountsAfterSteps queue (with_table tables s.region t) steps (counts_after_step queue (table_of s.region (finite.get tables s.region)) s.step old) new
