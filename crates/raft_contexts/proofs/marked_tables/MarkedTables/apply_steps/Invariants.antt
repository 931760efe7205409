use Rattle.raft_contexts.proofs.Common.{◌≡◌, length, map, Result, into_iter_items, into_iter_len, Error, region_step_shown, AreStepsOfQueue, AreStepsTaken, MarkedTables}
use Rattle.raft_contexts.proofs.marked_tables.MarkedTables.apply_steps.Given as goal

abbrev pub invariant-loop-step : goal.invariant-loop-step
invariant-loop-step l =
    AreStepsOfQueue l.queue (map region_step_shown (into_iter_items l.step-iterator))
    × (into_iter_len l.step-iterator ≡ length (into_iter_items l.step-iterator))
    × ((r : Result Unit Error) (c : MarkedTables) → AreStepsTaken l.queue (map region_step_shown (into_iter_items l.step-iterator)) r l.self c →
    AreStepsTaken l.queue (map region_step_shown (into_iter_items l.initial.step-iterator)) r l.fn.self c)
