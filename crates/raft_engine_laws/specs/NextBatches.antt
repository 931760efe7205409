-- A batch more in a queue.
use Rattle.std.specs.Prelude.{◌≡◌, ◌≤◌, List, [], ◌∷◌, ◌++◌, Some}
use Rattle.raft_base.specs.declared.pipe_log.LogQueue.TheVariants.{Append, Rewrite}
use Rattle.raft_history.specs.Batches.{Event}
use Rattle.raft_history.specs.Histories.{Apart, AreInFile, HaveStatus, last_from}
use Rattle.raft_history.specs.RegionSteps.{Tables}
use Rattle.raft_accessor.specs.Writes.{Appending, after_items}

-- a batch that is written to the append queue, and to tables, which take it
pub record IsWrittenNext (append : List Event) (tables : Tables) (e : Event) (new : Tables) : Type 0 where
  pub queue : e.file.queue ≡ Append
  pub follows : last_from 0 append ≤ e.file.seq
  pub in_file : AreInFile e.file e.items
  pub taken : after_items Appending tables e.items ≡ Some new

-- a batch that is written to the rewrite queue; what takes effect with it is apart from all before it
pub record IsRewrittenNext (rewrite : List Event) (e : Event) : Type 0 where
  pub queue : e.file.queue ≡ Rewrite
  pub follows : last_from 0 rewrite ≤ e.file.seq
  pub in_file : AreInFile e.file e.items
  pub status : HaveStatus Rewrite e.items
  pub apart : Apart (rewrite ++ e ∷ [])
