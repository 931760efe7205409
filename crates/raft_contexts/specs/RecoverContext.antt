-- A recovery context: what it holds of the batches that it has read, and whether it reads on.
use Rattle.std.specs.Prelude.{◌≡◌, ◌≢◌, ◌⊎◌, ◌+◌, ◌≤◌, ◌^◌, true, false, List, [], ◌∷◌, ℕ, Some, None}
use Rattle.raft_base.specs.declared.errors.Error.{Error}
use Rattle.raft_base.specs.declared.errors.Error.TheVariants as errors
use Rattle.raft_base.specs.declared.pipe_log.LogQueue.{LogQueue}
use Rattle.raft_history.specs.Batches.{Event, batch_of}
use Rattle.raft_history.specs.Contexts.{Context, new_context, Suits, files_of, follows, StandsFor, IsExactFor, completed_steps, taken_in, merged_with, AreMerged, AreRegionsRefused}
use Rattle.raft_history.specs.Histories.{AreInFile, HaveStatus, records_in}
use Rattle.raft_history.specs.Records.{all_records, waiting_records}
use Rattle.raft_accessor.specs.Accessor.{live_in_all}
use Rattle.raft_table.specs.Counts.{Counts}
use Rattle.raft_contexts.specs.StepCounts.{no_counts, AreCountsAfterSteps}
use Rattle.raft_contexts.specs.declared.context_stage.ContextStage.{ContextStage}
use Rattle.raft_contexts.specs.declared.context_stage.ContextStage.TheVariants.{Reading, Overlaid, Failed}

-- what a context holds, whether it reads on, and what it has counted
pub record RecoverContext : Type 0 where
  pub stage : ContextStage
  pub context : Context
  pub counts : Counts

-- a context that reads on and holds this, with nothing counted
abbrev pub reading_on : Context → RecoverContext
reading_on c = record { stage = Reading; context = c; counts = no_counts }

-- a context that has read nothing
abbrev pub blank_context : RecoverContext
blank_context = reading_on new_context

-- the context reads on, and stands for the history
pub record HasRead (c : RecoverContext) (h : List Event) : Type 0 where
  pub stage : c.stage ≡ Reading
  pub stands : StandsFor c.context h

-- the context reads on, and stands for the history exactly
pub record HasReadExactly (c : RecoverContext) (h : List Event) : Type 0 where
  pub stage : c.stage ≡ Reading
  pub exact : IsExactFor c.context h

-- what a refused call makes of a context that reads on; it leaves any other
abbrev pub refused_stage : ContextStage → ContextStage
refused_stage Reading = Failed
refused_stage Overlaid = Overlaid
refused_stage Failed = Failed

-- the records of all tables and of the groups that wait
abbrev pub records_held : Context → ℕ
records_held c = all_records c.regions.tables + waiting_records c.groups

-- ---- one more batch

-- a batch may come next: its file is of the context's queue, and not below the last one; its items are such as may stand in that file, and its group markers have a status
pub record MayFollow (c : Context) (e : Event) : Type 0 where
  pub queue : Suits e.file.queue c.files
  pub files : follows c.files (files_of (e ∷ [])) ≡ true
  pub items : AreInFile e.file e.items
  pub markers : HaveStatus e.file.queue e.items

-- the batch was taken in
pub record IsBatchTaken (e : Event) (old new : RecoverContext) : Type 0 where
  pub before : old.stage ≡ Reading
  pub next : MayFollow old.context e
  pub taken : taken_in old.context e ≡ Some new.context
  pub after : new.stage ≡ Reading

-- the steps that take effect with the batch are counted
abbrev pub IsBatchCounted : Event → Context → Counts → Counts → Type 0
IsBatchCounted e c old new = AreCountsAfterSteps e.file.queue c.regions.tables (completed_steps c.groups (batch_of e) (batch_of e).marker) old new

-- why a batch is refused, by the error: it may not come next, or a step that takes effect with it is refused; the live records and those of these steps are 2^64 or more; the context doesn't read on; or want of memory
abbrev pub IsBatchFault : RecoverContext → Event → Error → Type 0
IsBatchFault c e (errors.Corruption text) = (MayFollow c.context e → ⊥) ⊎ (taken_in c.context e ≡ None)
IsBatchFault c e errors.Full = MayFollow c.context e × (2 ^ 64 ≤ live_in_all e.file.queue c.context.regions.tables + records_in (completed_steps c.context.groups (batch_of e) (batch_of e).marker))
IsBatchFault c e errors.Failed = c.stage ≢ Reading
IsBatchFault c e errors.Memory = Unit {0}
IsBatchFault c e _ = ⊥

-- ---- two neighbors

-- both are of this queue
abbrev pub AreBothOfQueue : LogQueue → Context → Context → Type 0
AreBothOfQueue queue c d = Suits queue c.files × Suits queue d.files

-- both are of this queue, and the newer one's first file isn't below the older one's last
pub record AreNeighbors (queue : LogQueue) (c d : Context) : Type 0 where
  pub older : Suits queue c.files
  pub newer : Suits queue d.files
  pub files : follows c.files d.files ≡ true

-- the newer neighbor was taken in
pub record IsMergedWith (queue : LogQueue) (newer old new : RecoverContext) : Type 0 where
  pub older_before : old.stage ≡ Reading
  pub newer_before : newer.stage ≡ Reading
  pub neighbors : AreNeighbors queue old.context newer.context
  pub regions : AreMerged queue old.context newer.context new.context.regions
  pub merged : new.context ≡ merged_with old.context newer.context new.context.regions
  pub after : new.stage ≡ Reading

-- why a newer neighbor is refused, by the error: one of the two is of another queue; both are of this one, and the newer one's first file is below the older one's last, or a region's join is refused; the records would be 2^64 or more; one of the two doesn't read on; or want of memory
abbrev pub IsNeighborFault : LogQueue → RecoverContext → RecoverContext → Error → Type 0
IsNeighborFault queue c d (errors.InvalidArgument text) = AreBothOfQueue queue c.context d.context → ⊥
IsNeighborFault queue c d (errors.Corruption text) = AreBothOfQueue queue c.context d.context × ((follows c.context.files d.context.files ≡ false) ⊎ AreRegionsRefused queue c.context d.context)
IsNeighborFault queue c d errors.Full = AreNeighbors queue c.context d.context × (2 ^ 64 ≤ records_held c.context + records_held d.context)
IsNeighborFault queue c d errors.Failed = (c.stage ≢ Reading) ⊎ (d.stage ≢ Reading)
IsNeighborFault queue c d errors.Memory = Unit {0}
IsNeighborFault queue c d _ = ⊥
