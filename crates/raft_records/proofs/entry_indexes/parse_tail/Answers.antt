use Rattle.raft_records.proofs.Common.{◌≤◌, ◌<◌, ◌⊎◌, ◌^◌, arith, inl, inr, at_exit}
use Rattle.raft_records.proofs.EntryLemmas.{no_tail}
use Rattle.raft_records.proofs.entry_indexes.parse_tail.Goals as goal
use Rattle.raft_records.proofs.entry_indexes.parse_tail.Goals.{then-tail-from-via-then-tail-from, then-tail-from-via-else-tail-from+then-tail-from-2}

pub returns-in_err-format-2-clause-refused : goal.returns-in_err-format-2-clause-refused
returns-in_err-format-2-clause-refused c =
    let out : (c.in_ok-tail.tail < c.args.offset) ⊎ (2 ^ 32 ≤ c.in_ok-tail.tail) = elim c.then-tail-from.branch
    [ then-tail-from-via-then-tail-from w ↦ inl (omega arith) | then-tail-from-via-else-tail-from+then-tail-from-2 w ↦ inr (omega arith) ] in
    at_exit _ c.from_residual-in_err-format-2.ensures.1 (λ _ _. no_tail c.args.bytes.now c.in_ok-tail.rest.now c.args.index c.args.offset c.in_ok-tail.tail c.in_ok-tail.ensures.ok out)

pub returns-then-tail-from-clause-refused : goal.returns-then-tail-from-clause-refused
returns-then-tail-from-clause-refused c =
    let out : (c.in_ok-tail.tail < c.args.offset) ⊎ (2 ^ 32 ≤ c.in_ok-tail.tail) = elim c.then-tail-from.branch
    [ then-tail-from-via-then-tail-from w ↦ inl (omega arith) | then-tail-from-via-else-tail-from+then-tail-from-2 w ↦ inr (omega arith) ] in
    no_tail c.args.bytes.now c.in_ok-tail.rest.now c.args.index c.args.offset c.in_ok-tail.tail c.in_ok-tail.ensures.ok out
