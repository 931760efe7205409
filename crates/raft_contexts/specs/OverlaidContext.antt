-- A recovery context of the rewrite queue that takes in the context of the append queue.
use Rattle.std.specs.Prelude.{◌≡◌, ◌≢◌, ◌⊎◌, ◌+◌, ◌≤◌, ◌^◌, List}
use Rattle.std.specs.FinMap as finite
use Rattle.raft_base.specs.declared.errors.Error.{Error}
use Rattle.raft_base.specs.declared.errors.Error.TheVariants as errors
use Rattle.raft_base.specs.declared.pipe_log.LogQueue.TheVariants.{Append, Rewrite}
use Rattle.raft_history.specs.Batches.{Event}
use Rattle.raft_history.specs.BothQueues.{IsReadingOfBoth}
use Rattle.raft_history.specs.Contexts.{Context, Suits}
use Rattle.raft_history.specs.Joins.{AreOverlaid}
use Rattle.raft_history.specs.Records.{all_records}
use Rattle.raft_history.specs.RegionSteps.{Tables}
use Rattle.raft_contexts.specs.RecoverContext.{RecoverContext}
use Rattle.raft_contexts.specs.declared.context_stage.ContextStage.TheVariants.{Reading, Overlaid}

-- the one context is of the rewrite queue, the other of the append queue; without a batch a context is of both
pub record AreOfBothQueues (rewrite append : Context) : Type 0 where
  pub rewrite_suits : Suits Rewrite rewrite.files
  pub append_suits : Suits Append append.files

-- a context of the rewrite queue with these tables and the cleaned regions of the append queue; no region mark is left, and no group waits
abbrev pub overlaid_with : Context → Context → Tables → Context
overlaid_with rewrite append tables = record { regions = record { tables = tables; marks = finite.empty }; groups = finite.empty; cleaned = append.cleaned; files = rewrite.files }

-- the context of the append queue was taken in
pub record IsOverlaidWith (append old new : RecoverContext) : Type 0 where
  pub rewrite_before : old.stage ≡ Reading
  pub append_before : append.stage ≡ Reading
  pub queues : AreOfBothQueues old.context append.context
  pub tables : AreOverlaid append.context.regions old.context.regions.tables new.context.regions.tables
  pub overlaid : new.context ≡ overlaid_with old.context append.context new.context.regions.tables
  pub after : new.stage ≡ Overlaid

-- the context has taken in that of the append queue, and has what one reading of a history of each queue gives, without a region mark or a group
pub record IsOfBothExactly (c : RecoverContext) (rewrite append : List Event) : Type 0 where
  pub stage : c.stage ≡ Overlaid
  pub reading : IsReadingOfBoth rewrite append c.context.regions.tables c.context.cleaned
  pub no_marks : c.context.regions.marks ≡ finite.empty
  pub no_groups : c.context.groups ≡ finite.empty

-- why the context of the append queue isn't taken in, by the error: one of the two is of the other queue; both are of theirs, and the records would be 2^64 or more; one of the two doesn't read on; or want of memory
abbrev pub IsMergeAppendFault : RecoverContext → RecoverContext → Error → Type 0
IsMergeAppendFault rewrite append (errors.InvalidArgument text) = AreOfBothQueues rewrite.context append.context → ⊥
IsMergeAppendFault rewrite append errors.Full = AreOfBothQueues rewrite.context append.context × (2 ^ 64 ≤ all_records rewrite.context.regions.tables + all_records append.context.regions.tables)
IsMergeAppendFault rewrite append errors.Failed = (rewrite.stage ≢ Reading) ⊎ (append.stage ≢ Reading)
IsMergeAppendFault rewrite append errors.Memory = Unit {0}
IsMergeAppendFault rewrite append _ = ⊥
