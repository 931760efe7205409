-- Items that wait, as the steps that they are.
use Rattle.std.specs.Prelude.{List, map}
use Rattle.raft_history.specs.RegionStepShown.{region_step_shown}
use Rattle.raft_history.specs.RegionSteps.{RegionStep}
use Rattle.raft_contexts.specs.declared.waiting_items.WaitingItems.TheInside.{Inside}

-- the steps, in order
abbrev pub steps_shown : Inside → List RegionStep
steps_shown a = map region_step_shown a.steps.items
