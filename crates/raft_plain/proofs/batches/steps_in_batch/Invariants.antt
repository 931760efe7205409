use Rattle.raft_plain.proofs.Common.{◌≡◌, ◌++◌, map, item_of, region_step_shown, steps_of_items}
use Rattle.raft_plain.proofs.batches.steps_in_batch.Given as goal

abbrev pub invariant-loop-item : goal.invariant-loop-item
invariant-loop-item l = map region_step_shown l.steps.items ++ steps_of_items (map item_of l.item-iterator.rest.items) ≡ steps_of_items l.fn.batch
