use Rattle.raft_contexts.proofs.Common.{◌≡◌, ◌++◌, length, map, into_iter_items, into_iter_len, item_of, region_step_shown, steps_of_items}
use Rattle.raft_contexts.proofs.waiting_items.WaitingItems.of_items.Given as goal

abbrev pub invariant-loop-item : goal.invariant-loop-item
invariant-loop-item l =
    (map region_step_shown l.steps.items ++ steps_of_items (map item_of (into_iter_items l.item-iterator)) ≡ steps_of_items (map item_of (into_iter_items l.initial.item-iterator)))
    × (into_iter_len l.item-iterator ≡ length (into_iter_items l.item-iterator))
