use Rattle.raft_ffi.proofs.Common.{◌∙◌, IfErr, OnOk, subst, AreAcceptedOncePlaced, Batch, KeptEngine, HandedFails, IsUnwritten}
use Rattle.raft_ffi.proofs.CodeLemmas.{passed, refusal}
use Rattle.raft_ffi.proofs.engine_calls.raft_ffi_engine_write.Goals as goal

pub returns-clause-tested : goal.returns-clause-tested
returns-clause-tested c = λ zero.
    let old = c.take-held.result.value in
    let batch = c.take-written.result.value in
    let tested =
    subst (λ (b : Batch). OnOk c.write-answer.result (AreAcceptedOncePlaced old.accessor.tables b.items)) c.deref_mut-2.ensures.value
    (subst (λ (o : KeptEngine). OnOk c.write-answer.result (AreAcceptedOncePlaced o.accessor.tables c.deref_mut-2.result.now.items)) (c.behind-held.view_is ∙ c.deref_mut.ensures.value) c.write-answer.ensures.tested) in
    rw (c.take-held.ensures.value, c.take-written.ensures.value)
    (passed c.write-answer.result c.status_of.result.code (AreAcceptedOncePlaced old.accessor.tables batch.items) tested c.status_of.ensures.err zero)

pub returns-clause-err : goal.returns-clause-err
returns-clause-err c = λ some.
    let old = c.take-held.result.value in
    let new = c.write-answer.new.self in
    let batch = c.take-written.result.value in
    let left = c.write-answer.new.batch in
    let fault =
    subst (λ (b : Batch). IfErr c.write-answer.result (IsUnwritten HandedFails c.args.sync b left old new)) c.deref_mut-2.ensures.value
    (subst (λ (o : KeptEngine). IfErr c.write-answer.result (IsUnwritten HandedFails c.args.sync c.deref_mut-2.result.now left o new)) (c.behind-held.view_is ∙ c.deref_mut.ensures.value) c.write-answer.ensures.err) in
    rw (c.take-held.ensures.value, c.put-2.ensures, c.take-written.ensures.value, c.put.ensures)
    (refusal c.write-answer.result c.status_of.result.code (IsUnwritten HandedFails c.args.sync batch left old new) c.status_of.ensures.ok c.status_of.ensures.err fault some)
