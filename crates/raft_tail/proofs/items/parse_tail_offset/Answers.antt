use Rattle.raft_tail.proofs.Common.{◌≤◌, ◌<◌, ◌⊎◌, ◌^◌, arith, inl, inr, no_tail}
use Rattle.raft_tail.proofs.items.parse_tail_offset.Goals as goal
use Rattle.raft_tail.proofs.items.parse_tail_offset.Goals.{then-tail-from-via-then-tail-from, then-tail-from-via-else-tail-from+then-tail-from-2}

pub returns-then-tail-from-clause-tail : goal.returns-then-tail-from-clause-tail
returns-then-tail-from-clause-tail c =
    let out : (c.in_ok-tail.tail < c.args.offset) ⊎ (2 ^ 32 ≤ c.in_ok-tail.tail) = elim c.then-tail-from.branch
    [ then-tail-from-via-then-tail-from w ↦ inl (omega arith) | then-tail-from-via-else-tail-from+then-tail-from-2 w ↦ inr (omega arith) ] in
    no_tail c.args.bytes.now c.in_ok-tail.rest.now c.args.index c.args.offset c.in_ok-tail.tail c.in_ok-tail.ensures out
