-- The tables of all regions beside their region marks, with steps taken in.
use Rattle.std.specs.Prelude.{◌≡◌, ℕ, ◌+◌, ◌<◌, ◌≤◌, ◌^◌, Bool, true, false, List, [], ◌∷◌, ◌++◌, Option, Some, None, Result, IfErr}
use Rattle.std.specs.List.{AllByRecursion}
use Rattle.std.specs.Result.{OnOk}
use Rattle.raft_base.specs.declared.errors.Error.{Error}
use Rattle.raft_base.specs.declared.errors.Error.TheVariants as errors
use Rattle.raft_base.specs.declared.pipe_log.LogQueue.{LogQueue}
use Rattle.raft_base.specs.declared.entry_index.EntryIndex.{EntryIndex}
use Rattle.raft_history.specs.Histories.{IsStepOfQueue, records_in}
use Rattle.raft_history.specs.MarkedRegions.{MarkedRegions, regions_after}
use Rattle.raft_history.specs.RegionSteps.{RegionStep, cleaned_by_steps}
use Rattle.raft_table.specs.Queues.{other}
use Rattle.raft_table.specs.Steps.{Step, Put}
use Rattle.raft_accessor.specs.Accessor.{live_in_all}
use Rattle.raft_contexts.specs.ImpliedMarks.{all_marks}
use Rattle.raft_contexts.specs.StepCounts.{AreCountsAfterSteps}
use Rattle.raft_contexts.specs.declared.marked_tables.MarkedTables.{MarkedTables}

-- the tables, and the region marks that are kept or implied, without the counts
abbrev pub regions_in : MarkedTables → MarkedRegions
regions_in m = record { tables = m.accessor.tables; marks = all_marks m.accessor.tables m.marks }

-- each step is such as replays into tables of this queue ask for
abbrev pub AreStepsOfQueue : LogQueue → List RegionStep → Type 0
AreStepsOfQueue queue steps = AllByRecursion (λ (s : RegionStep). IsStepOfQueue queue s.step) steps

-- whether a step puts a key
abbrev pub is_put : Step → Bool
is_put (Put key value file) = true
is_put _ = false

-- one step on a region
abbrev pub one_step : ℕ → Step → List RegionStep
one_step id s = record { region = id; step = s } ∷ []

-- the first index of a run, if it has an entry
abbrev pub first_index : List EntryIndex → Option ℕ
first_index [] = None
first_index (e ∷ run) = Some e.index

-- why steps are refused: one reading refuses one of them, the tables have a record of the other queue, the live records and those of the steps are 2^64 or more, or want of memory
abbrev pub IsStepsFault : LogQueue → MarkedRegions → List RegionStep → Error → Type 0
IsStepsFault queue rs steps (errors.Corruption text) = regions_after queue rs steps ≡ None
IsStepsFault queue rs steps (errors.InvalidArgument text) = 0 < live_in_all (other queue) rs.tables
IsStepsFault queue rs steps errors.Full = 2 ^ 64 ≤ live_in_all queue rs.tables + records_in steps
IsStepsFault queue rs steps errors.Memory = Unit {0}
IsStepsFault queue rs steps _ = ⊥

-- steps are taken into the region marks and the tables, or refused
pub record AreStepsTaken (queue : LogQueue) (steps : List RegionStep) (r : Result Unit Error) (old new : MarkedTables) : Type 0 where
  pub ok : OnOk r (regions_after queue (regions_in old) steps ≡ Some (regions_in new))
  pub cleaned : OnOk r (new.accessor.cleaned ≡ old.accessor.cleaned ++ cleaned_by_steps queue steps)
  pub counts : OnOk r (AreCountsAfterSteps queue old.accessor.tables steps old.accessor.counts new.accessor.counts)
  pub fault : IfErr r (IsStepsFault queue (regions_in old) steps)
