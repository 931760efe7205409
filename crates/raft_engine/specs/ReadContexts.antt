-- Contexts that read the batches of files.
use Rattle.std.specs.Prelude.{List}
use Rattle.raft_base.specs.declared.pipe_log.LogQueue.TheVariants.{Append, Rewrite}
use Rattle.raft_base.specs.declared.pipe_log.Version.{Version}
use Rattle.raft_history.specs.Batches.{Event}
use Rattle.raft_history.specs.Histories.{Apart, IsOfQueue, IsSmall}
use Rattle.raft_contexts.specs.RecoverContext.{HasRead, HasReadExactly, RecoverContext}
use Rattle.raft_files.specs.Asks.{NumberedBytes}
use Rattle.raft_recover.specs.Files.{FilesHold}
use Rattle.raft_engine_prefixes.specs.TornTails.{FilesHoldTorn}
use Rattle.raft_engine_laws.specs.GroupsInRows.{AreGroupsInRows}

-- a context has read these batches, where they name few records, and exactly where their effects are apart
abbrev pub HasReadAll : RecoverContext → List Event → Type 0
HasReadAll context h = IsSmall h → HasRead context h × (Apart h → HasReadExactly context h)

-- the contexts of both queues have read the batches that files hold, but for a torn tail of each queue
pub record HaveReadFound (version : Version) (append rewrite : List NumberedBytes) (appended rewritten : RecoverContext) : Type 0 where
  pub append_batches : List Event
  pub rewrite_batches : List Event
  pub append_held : FilesHoldTorn Append version append append_batches
  pub rewrite_held : FilesHoldTorn Rewrite version rewrite rewrite_batches
  pub append_read : HasReadAll appended append_batches
  pub rewrite_read : HasReadAll rewritten rewrite_batches

-- the contexts of both queues have read the batches that files which are ready hold, few records, each group of the rewrite queue in a row
pub record AreReadBy (version : Version) (append rewrite : List NumberedBytes) (appended rewritten : RecoverContext) : Type 0 where
  pub append_batches : List Event
  pub rewrite_batches : List Event
  pub append_held : FilesHold Append version append append_batches
  pub rewrite_held : FilesHold Rewrite version rewrite rewrite_batches
  pub append_of : IsOfQueue Append append_batches
  pub rewrite_of : IsOfQueue Rewrite rewrite_batches
  pub append_small : IsSmall append_batches
  pub rewrite_small : IsSmall rewrite_batches
  pub append_read : HasReadAll appended append_batches
  pub rewrite_read : HasReadAll rewritten rewrite_batches
  pub rows : AreGroupsInRows rewrite_batches
