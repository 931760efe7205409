-- An engine that was opened over found files.
use Rattle.std.specs.Prelude.{◌≡◌, true, List, ◌++◌}
use Rattle.raft_base.specs.declared.pipe_log.LogQueue.TheVariants.{Append, Rewrite}
use Rattle.raft_base.specs.declared.pipe_log.Version.{Version}
use Rattle.raft_records.specs.LogBatch.{Batch}
use Rattle.raft_history.specs.Batches.{Event}
use Rattle.raft_history.specs.BothQueues.{IsReadingOfBoth}
use Rattle.raft_history.specs.Histories.{Apart, IsSoundIn}
use Rattle.raft_accessor.specs.Accessor.{Accessor}
use Rattle.raft_files.specs.Asks.{Ask, NumberedBytes, acts_on}
use Rattle.raft_files.specs.Disk.{begun}
use Rattle.raft_recover.specs.Files.{FilesHold}
use Rattle.raft_engine_prefixes.specs.TornTails.{FilesHoldTorn}
use Rattle.raft_engine.specs.KeptEngine.{KeptEngine}
use Rattle.raft_engine.specs.OpeningAsks.{AreWanted}
use Rattle.raft_engine.specs.StoredFound.{found_asks}

-- The tables are a reading of the batches that found files hold, but for a torn tail of each queue; of these files is asked
-- what an opening asks, and nothing else, and the append files hold the same batches still. What may be told later is untold.
pub record AreRead (version : Version) (append rewrite : List NumberedBytes) (asks : List Ask) (accessor : Accessor) (untold : Batch) : Type 0 where
  pub wanted : List Ask
  pub are_wanted : AreWanted version append rewrite accessor untold wanted
  pub asked : asks ≡ wanted ++ found_asks append rewrite
  pub appended : List Event
  pub rewritten : List Event
  pub append_held : FilesHoldTorn Append version append appended
  pub rewrite_held : FilesHoldTorn Rewrite version rewrite rewritten
  pub append_sound : IsSoundIn Append appended
  pub rewrite_sound : IsSoundIn Rewrite rewritten
  pub apart : Apart rewritten
  pub reading : IsReadingOfBoth rewritten appended accessor.tables accessor.cleaned
  pub append_stays : FilesHold Append version (begun (acts_on Append asks)) appended

-- an intact engine with such tables, and what the rewrite queue isn't told yet
pub record IsOpened (version : Version) (append rewrite : List NumberedBytes) (engine : KeptEngine) : Type 0 where
  pub of_version : engine.version ≡ version
  pub intact : engine.intact ≡ true
  pub read : AreRead version append rewrite engine.asks engine.accessor engine.untold
