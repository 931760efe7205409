use Rattle.raft_engine.proofs.Common.{sym, subst, IfOk-weaker, AreWholeFiles}
use Rattle.raft_engine.proofs.FoundQueueLemmas.{none_told, tail_told}
use Rattle.raft_engine.proofs.found_queue.FoundQueue.find_tail.Goals as goal

pub returns-in-Some-clause-ok : goal.returns-in-Some-clause-ok
returns-in-Some-clause-ok c = λ queue version files f.
    let l = rw c.in-Some.is at (c.last_file_part.ensures queue version files (subst (AreWholeFiles queue version files) (sym c.as_slice.ensures.value) f.whole)) in
    IfOk-weaker c.tail_of.result _ _ (λ tail torn. tail_told queue version files c.in-Some.last.now tail l torn) c.tail_of.ensures.ok

pub returns-in-None-clause-ok : goal.returns-in-None-clause-ok
returns-in-None-clause-ok c = λ queue version files f.
    none_told queue version files (rw c.in-None.is at (c.last_file_part.ensures queue version files (subst (AreWholeFiles queue version files) (sym c.as_slice.ensures.value) f.whole)))
