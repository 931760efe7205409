-- Files of which nothing is lost or cut off.
use Rattle.std.specs.Prelude.{ℕ, List, None}
use Rattle.raft_base.specs.declared.pipe_log.FileId.{FileId}
use Rattle.raft_base.specs.declared.pipe_log.LogQueue.TheVariants.{Append, Rewrite}
use Rattle.raft_base.specs.declared.pipe_log.Version.{Version}
use Rattle.raft_accessor.specs.Accessor.{Accessor}
use Rattle.raft_files.specs.Asks.{NumberedBytes}
use Rattle.raft_reading.specs.declared.queue_files.FileSize.{FileSize}
use Rattle.raft_survey.specs.SoundFiles.{AreSoundFiles}
use Rattle.raft_engine.specs.CutTails.{IsTailTold}
use Rattle.raft_engine.specs.Unopened.{AreBothAccepted}
use Rattle.raft_engine.specs.declared.recovery_mode.RecoveryMode.TheVariants.{TolerateTornTail}
use Rattle.raft_inspect.specs.Openings.{AreTablesOf, HoldsOfRead}

-- an opening accepts the bytes of both queues, cuts nothing off from them, and an engine has tables of them then
pub record IsUncut (version : Version) (append rewrite : List NumberedBytes) : Type 0 where
  pub accepted : AreBothAccepted TolerateTornTail version append rewrite
  pub append_uncut : IsTailTold Append version append None
  pub rewrite_uncut : IsTailTold Rewrite version rewrite None
  pub tables : Accessor
  pub are_tables : AreTablesOf version tables append rewrite

-- Files of both queues are sound: an opening cuts nothing off from them, and each entry of theirs can be read. Each of the three is said of the bytes that some
-- reads gave: they are the same bytes where nobody writes to the files meanwhile.
pub record AreSound (Gives : FileId → ℕ → List ℕ → Type 0) (version : Version) (append rewrite : List FileSize) : Type 0 where
  pub uncut : HoldsOfRead Gives append rewrite (IsUncut version)
  pub append_sound : AreSoundFiles Gives Append version append
  pub rewrite_sound : AreSoundFiles Gives Rewrite version rewrite
