-- What the reading of found files gives, before anything is asked of them.
use Rattle.std.specs.Prelude.{◌≡◌, ◌≢◌, ◌<◌, ◌^◌, List, []}
use Rattle.raft_base.specs.declared.pipe_log.LogQueue.TheVariants.{Append, Rewrite}
use Rattle.raft_base.specs.declared.pipe_log.Version.{Version}
use Rattle.raft_records.specs.LogBatch.{Batch, encoded, encoded_length}
use Rattle.raft_files.specs.Asks.{Ask, NumberedBytes}
use Rattle.raft_engine.specs.CutTails.{IsTailTold, tail_of}
use Rattle.raft_engine.specs.FoundFiles.{AreReadyBy}
use Rattle.raft_engine.specs.FoundQueues.{IsReadyQueue}
use Rattle.raft_engine.specs.Opening.{AreRecovered}
use Rattle.raft_engine.specs.OpeningAsks.{missing_asks, opening_asks}
use Rattle.raft_engine.specs.QueueFilesOf.{AreOf}
use Rattle.raft_engine.specs.StoredAsks.{IsWritableBatch}
use Rattle.raft_engine.specs.Unopened.{Refusal}
use Rattle.raft_engine.specs.declared.reading.Reading.{Reading}
use Rattle.raft_engine.specs.declared.reading.Ready.{Ready}
use Rattle.raft_engine.specs.declared.recovery_mode.RecoveryMode.{RecoveryMode}

-- newest first, what is to be asked once found files are read
abbrev pub reading_asks : Version → Reading → List Ask
reading_asks version r = opening_asks version (missing_asks Append r.append_missing) (missing_asks Rewrite r.rewrite_missing) r.rewrite.seq r.told

-- what the rewrite queue is to be told at once is encoded, in so many bytes, and the last rewrite file has room for it
pub record IsToBeTold (r : Reading) : Type 0 where
  pub encoded : r.told.stage ≡ encoded
  pub len : r.told_len ≡ encoded_length r.told.items r.told.entry_bytes
  pub short : r.told_len < 2 ^ 56
  pub room : r.rewrite.len < 2 ^ 63

-- the found files of both queues are ready once what is missing was asked, and are these files then, with what is known of them; of these the tables are recovered, what the rewrite queue is to be told at once, and what may be told later
pub record AreReadFound (version : Version) (append rewrite : List NumberedBytes) (r : Reading) : Type 0 where
  pub append_left : List NumberedBytes
  pub rewrite_left : List NumberedBytes
  pub append_ready : AreReadyBy Append version (missing_asks Append r.append_missing) append append_left
  pub rewrite_ready : AreReadyBy Rewrite version (missing_asks Rewrite r.rewrite_missing) rewrite rewrite_left
  pub append_of : AreOf append_left r.append
  pub rewrite_of : AreOf rewrite_left r.rewrite
  pub told : Batch
  pub recovered : AreRecovered version append_left rewrite_left r.accessor told r.untold
  pub writable : told.items ≢ [] → IsWritableBatch told
  pub made : r.told ≡ record told { stage = encoded }
  pub to_be_told : IsToBeTold r
  pub append_told : IsTailTold Append version append (tail_of r.append_missing)
  pub rewrite_told : IsTailTold Rewrite version rewrite (tail_of r.rewrite_missing)

-- the found files of both queues are ready in a mode once what is missing was asked
pub record AreReadyFiles (mode : RecoveryMode) (version : Version) (append_files rewrite_files : List NumberedBytes) (r : Ready) : Type 0 where
  pub append : IsReadyQueue mode Append version append_files r.append
  pub rewrite : IsReadyQueue mode Rewrite version rewrite_files r.rewrite

-- no recovery refuses the files
abbrev pub IsNoRefusal : Refusal
IsNoRefusal append rewrite e = ⊥
