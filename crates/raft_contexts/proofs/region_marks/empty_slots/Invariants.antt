use Rattle.raft_contexts.proofs.Common.{◌≡◌, replicate}
use Rattle.std.specs.FinMap as finite
use Rattle.raft_contexts.proofs.region_marks.empty_slots.Given as goal

abbrev pub invariant-loop : goal.invariant-loop
invariant-loop l = l.slots.items ≡ replicate l.counter finite.empty
