use Rattle.raft_contexts.proofs.Common.{◌≡◌, ◌++◌, map, joined_groups, whole_groups, whole_shown}
use Rattle.std.specs.FinMap as finite
use Rattle.raft_contexts.proofs.waiting_groups.WaitingGroups.join.Given as goal

abbrev pub invariant-loop-id : goal.invariant-loop-id
invariant-loop-id l = record {
  known : joined_groups l.self l.rest ≡ joined_groups l.fn.self l.fn.newer;
  wholes : map whole_shown l.wholes.items ++ whole_groups l.self l.rest ≡ whole_groups l.fn.self l.fn.newer;
}

abbrev pub decreases-loop-id : goal.decreases-loop-id
decreases-loop-id l = finite.len l.rest
