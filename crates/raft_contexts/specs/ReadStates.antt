-- What was read of a queue's batches, as a plain value.
use Rattle.std.specs.Prelude.{◌≡◌, ◌≤◌, List, Option, Some, None, Result, IfErr}
use Rattle.std.specs.Result.{OnOk}
use Rattle.raft_base.specs.declared.errors.Error.{Error}
use Rattle.raft_base.specs.declared.pipe_log.LogQueue.TheVariants.{Append, Rewrite}
use Rattle.raft_history.specs.Batches.{Event}
use Rattle.raft_history.specs.Contexts.{Context, FileRange, StandsFor, taken_in}
use Rattle.raft_history.specs.Joins.{StandForSteps}
use Rattle.raft_history.specs.MarkedRegions.{Marks, MarkedRegions, regions_after}
use Rattle.raft_history.specs.RegionSteps.{RegionStep, Tables}
use Rattle.raft_history.specs.WaitingGroup.{WholeGroup}
use Rattle.raft_table.specs.Queues.{other}
use Rattle.raft_accessor.specs.Accessor.{live_in_all}
use Rattle.raft_contexts.specs.FileRanges.{ranges_shown}
use Rattle.raft_contexts.specs.MarkedTables.{regions_in, AreStepsOfQueue, IsStepsFault}
use Rattle.raft_contexts.specs.RecoverContext.{reading_on, MayFollow, IsBatchCounted, IsBatchFault}
use Rattle.raft_contexts.specs.declared.marked_tables.MarkedTables.{MarkedTables}
use Rattle.raft_contexts.specs.declared.read_state.ReadState.{ReadState}

-- what a read state holds, as a context with these region marks
abbrev pub shown_with : Marks → ReadState → Context
shown_with marks s = record { regions = record { tables = s.regions.accessor.tables; marks = marks }; groups = s.groups; cleaned = s.regions.accessor.cleaned; files = ranges_shown s.files }

-- what a read state holds, as a context
abbrev pub context_in : ReadState → Context
context_in s = shown_with (regions_in s.regions).marks s

-- with files of a queue, the tables have no record of the other queue
abbrev pub AreAlone : Option FileRange → Tables → Type 0
AreAlone None tables = Unit {0}
AreAlone (Some files) tables = live_in_all (other files.queue) tables ≡ 0

-- with files of a queue, the region mark and the table of each region stand for some steps
abbrev pub AreOfSteps : Option FileRange → MarkedRegions → Type 0
AreOfSteps None rs = Unit {0}
AreOfSteps (Some files) rs = StandForSteps files.queue rs

-- the context was read from some history, its tables are of that history's queue, and they and the region marks are those of some steps
pub record IsOfHistory (c : Context) : Type 0 where
  pub history : List Event
  pub stands : StandsFor c history
  pub alone : AreAlone c.files c.regions.tables
  pub steps : AreOfSteps c.files c.regions

-- a batch was taken in, or refused
pub record IsTakenIn (e : Event) (r : Result Unit Error) (old new : ReadState) : Type 0 where
  pub next : OnOk r (MayFollow (context_in old) e)
  pub taken : OnOk r (taken_in (context_in old) e ≡ Some (context_in new))
  pub counts : OnOk r (IsBatchCounted e (context_in old) old.regions.accessor.counts new.regions.accessor.counts)
  pub history : OnOk r (IsOfHistory (context_in new))
  pub fault : IfErr r (IsBatchFault (reading_on (context_in old)) e)

-- the steps of whole groups were taken in, or refused; they clean no region, and the append queue has no more records than before
pub record AreWholesTaken (steps : List RegionStep) (r : Result Unit Error) (old new : MarkedTables) : Type 0 where
  pub taken : OnOk r (regions_after Rewrite (regions_in old) steps ≡ Some (regions_in new))
  pub cleaned : OnOk r (new.accessor.cleaned ≡ old.accessor.cleaned)
  pub fault : IfErr r (IsStepsFault Rewrite (regions_in old) steps)
  pub other : OnOk r (live_in_all Append new.accessor.tables ≤ live_in_all Append old.accessor.tables)

-- a group that is whole, as it can take effect: its steps are such as replays into the rewrite queue ask for, and the numbers of its files are in order
pub record CanTakeEffect (w : WholeGroup) : Type 0 where
  pub steps : AreStepsOfQueue Rewrite w.steps
  pub seqs : w.first_seq ≤ w.last_seq

-- a group, if there is one, can take effect
abbrev pub CanTakeEffectIfAny : Option WholeGroup → Type 0
CanTakeEffectIfAny None = Unit {0}
CanTakeEffectIfAny (Some w) = CanTakeEffect w
