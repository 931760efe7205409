use Rattle.raft_engine.proofs.Common.{sym, subst, IfOk-weaker, Append, AreWholeFiles}
use Rattle.raft_engine.proofs.DamagedLemmas.{damaged_of_last, none_damaged}
use Rattle.raft_engine.proofs.FoundQueueLemmas.{torn_as}
use Rattle.raft_engine.proofs.found_queue.FoundQueue.find_damaged_alone.Goals as goal

pub damaged_batches_alone-requires : goal.damaged_batches_alone-requires
damaged_batches_alone-requires c =
    let r = c.requires in
    torn_as r.0 r.1 r.2 _ _ (rw c.in-Some.is at (c.last_file_part.ensures r.0 r.1 r.2 (subst (AreWholeFiles r.0 r.1 r.2) (sym c.as_slice.ensures.value) r.3.whole))) r.4

pub returns-in-Some-clause-ok : goal.returns-in-Some-clause-ok
returns-in-Some-clause-ok c = λ version files f.
    let l = rw c.in-Some.is at (c.last_file_part.ensures Append version files (subst (AreWholeFiles Append version files) (sym c.as_slice.ensures.value) f.whole)) in
    IfOk-weaker c.damaged_batches_alone.result _ _ (λ damaged are. damaged_of_last version files c.in-Some.last.now damaged.items l are) c.damaged_batches_alone.ensures.ok

pub returns-in-None-clause-ok : goal.returns-in-None-clause-ok
returns-in-None-clause-ok c = λ version files f.
    none_damaged version files _ (rw c.in-None.is at (c.last_file_part.ensures Append version files (subst (AreWholeFiles Append version files) (sym c.as_slice.ensures.value) f.whole))) c.new.ensures.items
