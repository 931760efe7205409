use Rattle.raft_engine.proofs.Common.{inl, inr, subst, StopsAt}
use Rattle.raft_engine.proofs.FoundQueueLemmas.{is_tail}
use Rattle.raft_engine.proofs.found.tail_of.Goals as goal

pub returns-in_default-clause-ok : goal.returns-in_default-clause-ok
returns-in_default-clause-ok c =
    let ends = rw c.in_default.is at c.readable_front-at.ensures.whole in
    subst (StopsAt c.args.file.now) ends (record { batches = c.readable_front-at.ensures.readable; stops = inl ends })

pub returns-clause-ok : goal.returns-clause-ok
returns-clause-ok c =
    is_tail c.args.file.now _ _ _ c.from.ensures
    (record { batches = c.readable_front-at.ensures.readable; stops = inr ((rw c.in-Some.is at c.readable_front-at.ensures.refused) c.in_ok-unless_memory.ensures.ok) })
    (rw c.in-Some.is at c.readable_front-at.ensures.whole) (rw c.in-Some.is at c.readable_front-at.ensures.fault) c.in_ok-unless_memory.ensures.ok
