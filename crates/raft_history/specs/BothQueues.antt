-- What both queues give together: the tables of a history of the append queue over those of one of the rewrite queue.
use Rattle.std.specs.Prelude.{◌≡◌, ℕ, List, [], if◌then◌else◌}
use Rattle.std.specs.FinMap as finite
use Rattle.raft_base.specs.declared.pipe_log.LogQueue.TheVariants.{Append, Rewrite}
use Rattle.raft_table.specs.Overlay.{overlaid_table}
use Rattle.raft_history.specs.Batches.{Event, batches}
use Rattle.raft_history.specs.Effects.{steps_of, is_named}
use Rattle.raft_history.specs.Histories.{IsOneReading}
use Rattle.raft_history.specs.RegionSteps.{Tables}

-- the tables are those that one reading of each history gives, put over each other: a region that the append queue names has the overlay by its steps there, any other its rewritten table; and the cleaned regions are those of the append queue
pub record IsReadingOfBoth (rewrite append : List Event) (tables : Tables) (cleaned : List ℕ) : Type 0 where
  pub rewritten : Tables
  pub appended : Tables
  pub rewrite_read : IsOneReading Rewrite rewrite rewritten []
  pub append_read : IsOneReading Append append appended cleaned
  pub overlaid : (r : ℕ) → finite.get tables r ≡ (if is_named r (batches append) then overlaid_table r (steps_of r (batches append)) (finite.get appended r) (finite.get rewritten r) else finite.get rewritten r)
