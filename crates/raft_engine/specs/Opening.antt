-- What is told of the files that an engine is opened over, at once or later.
use Rattle.std.specs.Prelude.{◌≡◌, ℕ, List}
use Rattle.std.specs.FinMap as finite
use Rattle.raft_base.specs.declared.pipe_log.LogQueue.TheVariants.{Append, Rewrite}
use Rattle.raft_base.specs.declared.pipe_log.Version.{Version}
use Rattle.raft_records.specs.LogBatch.{Batch, empty_batch}
use Rattle.raft_table.specs.Steps.{table_of}
use Rattle.raft_table.specs.TableEntries.{AreTableEntries}
use Rattle.raft_history.specs.Batches.{Event, batches}
use Rattle.raft_history.specs.BothQueues.{IsReadingOfBoth}
use Rattle.raft_history.specs.Effects.{steps_of}
use Rattle.raft_history.specs.Histories.{Apart, IsSoundIn}
use Rattle.raft_history.specs.RegionSteps.{steps_of_items, steps_on}
use Rattle.raft_accessor.specs.Accessor.{Accessor}
use Rattle.raft_files.specs.Asks.{NumberedBytes}
use Rattle.raft_recover.specs.Files.{FilesHold}
use Rattle.raft_engine_laws.specs.GroupsInRows.{AreGroupsInRows}
use Rattle.raft_engine_laws.specs.MarksTold.{IsToldByMark, IsToldNowOrLater}
use Rattle.raft_engine_laws.specs.Telling.{AreAllSteps, TakeAway}

-- batches of which each group stands in a row
pub record AreInRows (Held : List Event → Type 0) : Type 0 where
  pub batches : List Event
  pub held : Held batches
  pub rows : AreGroupsInRows batches

-- What a recovery gives of the files of both queues, of which each group stands in a row: tables that are a reading of the
-- batches that the files hold; what the rewrite queue is to be told at once, and what it may be told later, each an open batch that
-- puts nothing; each item that is told at once is a step of its region. Of each region they say what its mark says, and that is enough.
pub record AreRecovered (version : Version) (append rewrite : List NumberedBytes) (accessor : Accessor) (told untold : Batch) : Type 0 where
  pub appended : List Event
  pub rewritten : List Event
  pub append_held : FilesHold Append version append appended
  pub rewrite_held : FilesHold Rewrite version rewrite rewritten
  pub append_sound : IsSoundIn Append appended
  pub rewrite_sound : IsSoundIn Rewrite rewritten
  pub apart : Apart rewritten
  pub rows : AreGroupsInRows rewritten
  pub reading : IsReadingOfBoth rewritten appended accessor.tables accessor.cleaned
  pub runs : (r : ℕ) → AreTableEntries (table_of r (finite.get accessor.tables r)).entries
  pub told_open : told ≡ record empty_batch { items = told.items }
  pub untold_open : untold ≡ record empty_batch { items = untold.items }
  pub told_away : TakeAway told.items
  pub told_steps : AreAllSteps told.items
  pub untold_away : TakeAway untold.items
  pub tells : (r : ℕ) → IsToldByMark (steps_of r (batches appended)) (steps_on r (steps_of_items told.items)) (steps_on r (steps_of_items untold.items))
      (table_of r (finite.get reading.appended r)) (table_of r (finite.get reading.rewritten r))
  pub says : (r : ℕ) → IsToldNowOrLater (steps_of r (batches appended)) (steps_on r (steps_of_items told.items)) (steps_on r (steps_of_items untold.items))
      (table_of r (finite.get reading.rewritten r)) (table_of r (finite.get accessor.tables r))
