-- What is promised of recovery: for every list of segments of one queue, for 1 to 256 workers and whatever their turns, `recover` gives
-- the tables, places, key values, cleaned regions and live counts of reading all batches in order, and it returns an error exactly where
-- that reading does; of histories that are small and whose effects are apart. The least files follow from the tables.
use Rattle.std.specs.Prelude.{ℕ, List, Vec}
use Rattle.std.specs.Global.{Global}
use Rattle.raft_base.specs.declared.pipe_log.LogQueue.{LogQueue}
use Rattle.raft_base.specs.declared.pipe_log.LogQueue.TheVariants.{Append, Rewrite}
use Rattle.raft_records.specs.FilePart.{Part}
use Rattle.raft_history.specs.Batches.{Event}
use Rattle.raft_history.specs.Histories.{IsSmall, IsSoundIn, Apart, IsOneReading}
use Rattle.raft_history.specs.BothQueues.{IsReadingOfBoth}
use Rattle.raft_accessor.specs.Accessor.{Accessor, AreCountsOf}
use Rattle.raft_replay.specs.Segments.{MayReplay}

-- what recovery gives of the batches that are read: the live counts are those of the tables; where the batches name fewer than 2^63 entries, key values and deletions together, they are a history of the queue that can be read, and, where effects are apart, tables and cleaned regions are those of one reading of it
pub record IsRecovered (queue : LogQueue) (IsHistory : List Event → Type 0) (accessor : Accessor) : Type 0 where
  pub history : List Event
  pub held : IsHistory history
  pub sound : IsSmall history → IsSoundIn queue history
  pub one_reading : IsSmall history → Apart history → IsOneReading queue history accessor.tables accessor.cleaned
  pub exact_counts : AreCountsOf accessor.tables accessor.counts

-- so many workers may replay these segments of both queues
abbrev pub MayReplayBoth : ℕ → List (Vec Part Global) → List (Vec Part Global) → Type 0
MayReplayBoth workers rewrite append = MayReplay Rewrite workers rewrite × MayReplay Append workers append

-- what recovery gives of the batches that are read of both queues: the live counts are those of the tables; where the batches of a queue name fewer than 2^63 entries, key values and deletions together, they are a history of it that can be read; and where those of both do and the effects of the rewrite queue are apart, tables and cleaned regions are those of one reading of each, put over each other
pub record AreBothRecovered (IsRewritten IsAppended : List Event → Type 0) (accessor : Accessor) : Type 0 where
  pub rewrite : List Event
  pub append : List Event
  pub rewrite_held : IsRewritten rewrite
  pub append_held : IsAppended append
  pub rewrite_sound : IsSmall rewrite → IsSoundIn Rewrite rewrite
  pub append_sound : IsSmall append → IsSoundIn Append append
  pub reading : IsSmall rewrite → IsSmall append → Apart rewrite → IsReadingOfBoth rewrite append accessor.tables accessor.cleaned
  pub exact_counts : AreCountsOf accessor.tables accessor.counts
