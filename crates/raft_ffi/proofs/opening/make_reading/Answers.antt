use Rattle.std.proofs.Common.{◌∙◌, inl, inr, refl, sym}
use Rattle.std.proofs.lemmas.Bool.{false≢true}
use Rattle.std.proofs.lemmas.Result.{IfErr-weaker, err_from_is_err_and}
use Rattle.raft_base.specs.declared.pipe_log.LogQueue.TheVariants.{Append, Rewrite}
use Rattle.raft_engine.specs.Unopened.{AreUngroupedAs}
use Rattle.raft_engine.proofs.GroupRowLemmas.{invalid}
use Rattle.raft_engine.proofs.RecoveredLemmas.{long_refused, on_any}
use Rattle.raft_opening.proofs.SizedReadLemmas.{both_read, both_ready, few_left, many_left, out_of_row, sized_refused}
use Rattle.raft_ffi.proofs.ReadLemmas.{context_standing, either_on}
use Rattle.raft_ffi.proofs.opening.make_reading.Goals as goal

pub returns-in_err-append-clause-fault : goal.returns-in_err-append-clause-fault
returns-in_err-append-clause-fault c = λ append_files rewrite_files q.
    let p = err_from_is_err_and c.from_residual.result c.from_residual.ensures.1 in
    rw (p.1, p.2)
    (either_on _ _ _
    (λ other. elim (c.in_err-append.ensures.fault append_files c.args.appended q.of_append other) [
      | inl found ↦ inl (inl found)
      | inr on ↦ inr on
    ]))

pub returns-in_err-rewrite-clause-fault : goal.returns-in_err-rewrite-clause-fault
returns-in_err-rewrite-clause-fault c = λ append_files rewrite_files q.
    let p = err_from_is_err_and c.from_residual-in_err-rewrite.result c.from_residual-in_err-rewrite.ensures.1 in
    rw (p.1, p.2)
    (either_on _ _ _
    (λ other. elim (c.in_err-rewrite.ensures.fault rewrite_files c.args.rewritten q.of_rewrite other) [
      | inl found ↦ inl (inr (inl found))
      | inr on ↦ inr on
    ]))

pub returns-in_err-check_few_bytes-clause-fault : goal.returns-in_err-check_few_bytes-clause-fault
returns-in_err-check_few_bytes-clause-fault c = λ append_files rewrite_files q.
    let a = c.in_ok-append.ensures.ok append_files c.args.appended q.of_append in
    let r = c.in_ok-rewrite.ensures.ok rewrite_files c.args.rewritten q.of_rewrite in
    let append_left = c.as_slice.ensures.value ∙ a.sized_of.left in
    let p = err_from_is_err_and c.from_residual-in_err-check_few_bytes.result c.from_residual-in_err-check_few_bytes.ensures.1 in
    rw (p.1, p.2)
    (inl (λ other. inr (inr (sized_refused (AreUngroupedAs c.args.version) c.args.mode c.args.version append_files rewrite_files _ _ a.sized_of.missing r.sized_of.missing _
    (inl (inl (many_left c.args.mode Append c.args.version append_files _ a.sized_of.missing _ append_left _ c.in_err-check_few_bytes.ensures.fault)))))))

pub returns-in_err-check_few_bytes-2-clause-fault : goal.returns-in_err-check_few_bytes-2-clause-fault
returns-in_err-check_few_bytes-2-clause-fault c = λ append_files rewrite_files q.
    let a = c.in_ok-append.ensures.ok append_files c.args.appended q.of_append in
    let r = c.in_ok-rewrite.ensures.ok rewrite_files c.args.rewritten q.of_rewrite in
    let rewrite_left = c.as_slice-2.ensures.value ∙ r.sized_of.left in
    let p = err_from_is_err_and c.from_residual-in_err-check_few_bytes-2.result c.from_residual-in_err-check_few_bytes-2.ensures.1 in
    rw (p.1, p.2)
    (inl (λ other. inr (inr (sized_refused (AreUngroupedAs c.args.version) c.args.mode c.args.version append_files rewrite_files _ _ a.sized_of.missing r.sized_of.missing _
    (inl (inr (inl (many_left c.args.mode Rewrite c.args.version rewrite_files _ r.sized_of.missing _ rewrite_left _ c.in_err-check_few_bytes-2.ensures.fault))))))))

pub returns-then-not-stand-clause-fault : goal.returns-then-not-stand-clause-fault
returns-then-not-stand-clause-fault c = λ append_files rewrite_files q.
    let a = c.in_ok-append.ensures.ok append_files c.args.appended q.of_append in
    let r = c.in_ok-rewrite.ensures.ok rewrite_files c.args.rewritten q.of_rewrite in
    let append_few = few_left c.args.mode Append c.args.version append_files _ a.sized_of.missing _ (c.as_slice.ensures.value ∙ a.sized_of.left) c.in_ok-check_few_bytes.ensures.ok in
    let rewrite_few = few_left c.args.mode Rewrite c.args.version rewrite_files _ r.sized_of.missing _ (c.as_slice-2.ensures.value ∙ r.sized_of.left) c.in_ok-check_few_bytes-2.ensures.ok in
    let appended = context_standing Append c.args.version _ c.args.appended a.standing in
    inl (λ other. inr (inr (sized_refused (AreUngroupedAs c.args.version) c.args.mode c.args.version append_files rewrite_files _ _ a.sized_of.missing r.sized_of.missing _
    (inl (inr (inr (out_of_row c.files_hold_few_records.ensures c.args.version _ _ _ _ appended r.standing append_few rewrite_few _ (invalid _ _ c.invalid_argument.ensures other)
    (λ h is in_rows. absurd (false≢true (sym c.if-not-stand.true ∙ (c.stand.ensures h is).1 in_rows))))))))))

pub returns-clause-ok : goal.returns-clause-ok
returns-clause-ok c = λ append_files rewrite_files q.
    let a = c.in_ok-append.ensures.ok append_files c.args.appended q.of_append in
    let r = c.in_ok-rewrite.ensures.ok rewrite_files c.args.rewritten q.of_rewrite in
    let append_few = few_left c.args.mode Append c.args.version append_files _ a.sized_of.missing _ (c.as_slice.ensures.value ∙ a.sized_of.left) c.in_ok-check_few_bytes.ensures.ok in
    let rewrite_few = few_left c.args.mode Rewrite c.args.version rewrite_files _ r.sized_of.missing _ (c.as_slice-2.ensures.value ∙ r.sized_of.left) c.in_ok-check_few_bytes-2.ensures.ok in
    let appended = context_standing Append c.args.version _ c.args.appended a.standing in
    let are = both_ready c.args.mode c.args.version append_files rewrite_files _ _ a.sized_of append_few r.sized_of rewrite_few in
    let read = both_read c.files_hold_few_records.ensures c.args.version _ _ _ _ appended r.standing append_few rewrite_few _ refl (λ h is. (c.stand.ensures h is).0 c.if-not-stand.false) in
    c.with_contexts.ensures.ok c.args.mode c.args.version append_files rewrite_files are read

pub returns-clause-accepted : goal.returns-clause-accepted
returns-clause-accepted c = λ append_files rewrite_files q.
    let a = c.in_ok-append.ensures.ok append_files c.args.appended q.of_append in
    let r = c.in_ok-rewrite.ensures.ok rewrite_files c.args.rewritten q.of_rewrite in
    on_any c.with_contexts.result (a.sized_of.missing.accepted, r.sized_of.missing.accepted)

pub returns-clause-fault : goal.returns-clause-fault
returns-clause-fault c = λ append_files rewrite_files q.
    let a = c.in_ok-append.ensures.ok append_files c.args.appended q.of_append in
    let r = c.in_ok-rewrite.ensures.ok rewrite_files c.args.rewritten q.of_rewrite in
    let append_few = few_left c.args.mode Append c.args.version append_files _ a.sized_of.missing _ (c.as_slice.ensures.value ∙ a.sized_of.left) c.in_ok-check_few_bytes.ensures.ok in
    let rewrite_few = few_left c.args.mode Rewrite c.args.version rewrite_files _ r.sized_of.missing _ (c.as_slice-2.ensures.value ∙ r.sized_of.left) c.in_ok-check_few_bytes-2.ensures.ok in
    let appended = context_standing Append c.args.version _ c.args.appended a.standing in
    let are = both_ready c.args.mode c.args.version append_files rewrite_files _ _ a.sized_of append_few r.sized_of rewrite_few in
    let read = both_read c.files_hold_few_records.ensures c.args.version _ _ _ _ appended r.standing append_few rewrite_few _ refl (λ h is. (c.stand.ensures h is).0 c.if-not-stand.false) in
    IfErr-weaker c.with_contexts.result _ _ (λ e why. inl why)
    (long_refused (AreUngroupedAs c.args.version) c.args.mode c.args.version append_files rewrite_files _ are c.with_contexts.result (c.with_contexts.ensures.fault c.args.version _ _ read))
