use Rattle.raft_contexts.proofs.Common.{◌≡◌, length, map, Result, into_iter_items, into_iter_len, Error, item_of, steps_of_items, AreStepsOfQueue, AreStepsTaken, MarkedTables}
use Rattle.raft_contexts.proofs.marked_tables.MarkedTables.apply_each_item.Given as goal

abbrev pub invariant-loop-item : goal.invariant-loop-item
invariant-loop-item l =
    AreStepsOfQueue l.queue (steps_of_items (map item_of (into_iter_items l.item-iterator)))
    × (into_iter_len l.item-iterator ≡ length (into_iter_items l.item-iterator))
    × ((r : Result Unit Error) (c : MarkedTables) → AreStepsTaken l.queue (steps_of_items (map item_of (into_iter_items l.item-iterator))) r l.self
    c → AreStepsTaken l.queue (steps_of_items (map item_of (into_iter_items l.initial.item-iterator))) r l.fn.self c)
