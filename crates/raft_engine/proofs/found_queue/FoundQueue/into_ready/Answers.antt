use Rattle.raft_engine.proofs.Common.{err_from_is_err_and, sym, subst, AreWholeFiles}
use Rattle.raft_engine.proofs.FoundQueueLemmas.{is_ready}
use Rattle.raft_engine.proofs.found_queue.FoundQueue.into_ready.Goals as goal

pub find_missing-requires : goal.find_missing-requires
find_missing-requires c =
    let r = c.requires in (r.0, r.1, r.2, subst (AreWholeFiles r.0 r.1 r.2) (sym c.as_slice.ensures.value) r.3.whole, r.4)

pub returns-in_err-missing-clause-fault : goal.returns-in_err-missing-clause-fault
returns-in_err-missing-clause-fault c = λ queue version files f told.
    let p = err_from_is_err_and c.from_residual.result c.from_residual.ensures.1 in
    rw (p.1, p.2) (c.in_err-missing.ensures.fault queue version files (subst (AreWholeFiles queue version files) (sym c.as_slice.ensures.value) f.whole) told)

pub returns-clause-ok : goal.returns-clause-ok
returns-clause-ok c = λ queue version files f told.
    is_ready c.args.mode queue version files c.args.self f c.in_ok-missing.missing c.known_after_asking-known.result c.known_after_asking-known.ensures
    (c.in_ok-missing.ensures.ok queue version files (subst (AreWholeFiles queue version files) (sym c.as_slice.ensures.value) f.whole) told f.consecutive)
