-- What a plain reading has of the batches that were read.
use Rattle.std.specs.Prelude.{◌≡◌, ℕ, List, map}
use Rattle.raft_base.specs.declared.pipe_log.LogQueue.{LogQueue}
use Rattle.raft_base.specs.declared.pipe_log.LogQueue.TheVariants.{Append}
use Rattle.raft_history.specs.Batches.{Event, batches}
use Rattle.raft_history.specs.Effects.{steps_of}
use Rattle.raft_history.specs.Histories.{IsSmall, IsSoundIn, IsOneReading, cleaned_in, last_from}
use Rattle.raft_history.specs.RegionStepShown.{region_step_shown}
use Rattle.raft_history.specs.RegionSteps.{RegionStep, steps_on, cleaned_by_steps}
use Rattle.raft_plain.specs.Groups.{AreOpenAfter}
use Rattle.raft_plain.specs.Plain.{tables_shown}
use Rattle.raft_plain.specs.Waits.{stretches_shown}
use Rattle.raft_plain.specs.declared.reading.Reading.{Reading}

-- the steps are those of a history of the append queue, on each region, and clean the regions that it cleans
pub record AreStepsOf (h : List Event) (steps : List RegionStep) : Type 0 where
  pub each : (r : ℕ) → steps_on r steps ≡ steps_of r (batches h)
  pub cleaned : cleaned_by_steps Append steps ≡ cleaned_in Append h

-- the reading is that of the history
pub record HasRead (queue : LogQueue) (reading : Reading) (h : List Event) : Type 0 where
  pub sound : IsSoundIn queue h
  pub one_reading : IsOneReading queue h (tables_shown reading.regions) (cleaned_in queue h)
  pub last : reading.last ≡ last_from 0 h
  pub waiting : AreOpenAfter (batches h) (stretches_shown reading.waiting)
  pub steps : queue ≡ Append → AreStepsOf h (map region_step_shown reading.steps.items)

-- the reading is that of a history which is held
pub record IsReadOf (queue : LogQueue) (IsHistory : List Event → Type 0) (reading : Reading) : Type 0 where
  pub history : List Event
  pub held : IsHistory history
  pub read : IsSmall history → HasRead queue reading history
