-- What engines put into the files of a queue.
use Rattle.std.specs.Prelude.{List}
use Rattle.raft_base.specs.declared.pipe_log.LogQueue.{LogQueue}
use Rattle.raft_base.specs.declared.pipe_log.Version.{Version}
use Rattle.raft_files.specs.Asks.{Act}
use Rattle.raft_engine_prefixes.specs.EntryPlaces.{WrittenEndWithin}
use Rattle.raft_engine.specs.OfVersion.{NoneIsOther}
use Rattle.raft_engine.specs.SoundBlocks.{NoneIsUnsound}

-- what was asked of a queue is well put: no crash leaves a last file of the other version, or a last rewrite file with an unsound entry block; and the entries of all batches end within their blocks, where those do that were found
pub record AreWellPut (queue : LogQueue) (version : Version) (acts : List Act) : Type 0 where
  pub of_version : NoneIsOther queue version acts
  pub within : WrittenEndWithin queue version acts
  pub sealed : NoneIsUnsound queue version acts
