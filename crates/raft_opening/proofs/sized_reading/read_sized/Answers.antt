use Rattle.raft_opening.proofs.Common.{◌∙◌, inl, inr, refl, sym, false≢true, IfErr-weaker, err_from_is_err_and, Append, Rewrite, HasRead, HasReadExactly, IsStoodFor, HaveBothRead, HaveBothReadExactly, AreUnrecoveredAs, invalid, long_refused, on_any}
use Rattle.raft_opening.proofs.SizedReadLemmas.{both_read, both_ready, both_sound, context_sound, count_left, counts_unreadable, either, few_left, left_count, left_replayed, left_stops, many_left, out_of_row, sized_refused, stops_unreadable}
use Rattle.raft_opening.proofs.sized_reading.read_sized.Goals as goal

pub returns-in_err-append-clause-fault : goal.returns-in_err-append-clause-fault
returns-in_err-append-clause-fault g c = λ append_files rewrite_files sized.
    let p = err_from_is_err_and c.from_residual.result c.from_residual.ensures.1 in
    rw (p.1, p.2)
    (either _ _ _
    (λ other. elim (c.in_err-append.ensures.fault append_files rewrite_files sized other) [
      | inl found ↦ inr (elim found [
        | inl a ↦ inl a
        | inr r ↦ inr (inl r)
      ])
      | inr unread ↦ inl unread
    ]))

pub returns-in_err-check_few_bytes-clause-fault : goal.returns-in_err-check_few_bytes-clause-fault
returns-in_err-check_few_bytes-clause-fault g c = λ append_files rewrite_files sized.
    let a = c.in_ok-append.ensures.append append_files sized.of_append in
    let r = c.in_ok-append.ensures.rewrite rewrite_files sized.of_rewrite in
    let append_left = c.as_slice-append_left.ensures.value ∙ a.left in
    let p = err_from_is_err_and c.from_residual-in_err-check_few_bytes.result c.from_residual-in_err-check_few_bytes.ensures.1 in
    rw (p.1, p.2)
    (inr (λ other. inr (inr (sized_refused (AreUnrecoveredAs c.args.version c.args.workers) c.args.mode c.args.version append_files rewrite_files _ _ a.missing r.missing _
    (inl (inl (many_left c.args.mode Append c.args.version append_files _ a.missing _ append_left _ c.in_err-check_few_bytes.ensures.fault)))))))

pub returns-in_err-check_few_bytes-2-clause-fault : goal.returns-in_err-check_few_bytes-2-clause-fault
returns-in_err-check_few_bytes-2-clause-fault g c = λ append_files rewrite_files sized.
    let a = c.in_ok-append.ensures.append append_files sized.of_append in
    let r = c.in_ok-append.ensures.rewrite rewrite_files sized.of_rewrite in
    let rewrite_left = c.as_slice-rewrite_left.ensures.value ∙ r.left in
    let p = err_from_is_err_and c.from_residual-in_err-check_few_bytes-2.result c.from_residual-in_err-check_few_bytes-2.ensures.1 in
    rw (p.1, p.2)
    (inr (λ other. inr (inr (sized_refused (AreUnrecoveredAs c.args.version c.args.workers) c.args.mode c.args.version append_files rewrite_files _ _ a.missing r.missing _
    (inl (inr (inl (many_left c.args.mode Rewrite c.args.version rewrite_files _ r.missing _ rewrite_left _ c.in_err-check_few_bytes-2.ensures.fault))))))))

pub returns-in_err-check_counts-clause-fault : goal.returns-in_err-check_counts-clause-fault
returns-in_err-check_counts-clause-fault g c = λ append_files rewrite_files sized.
    let a = c.in_ok-append.ensures.append append_files sized.of_append in
    let r = c.in_ok-append.ensures.rewrite rewrite_files sized.of_rewrite in
    let append_left = c.as_slice-append_left.ensures.value ∙ a.left in
    let rewrite_left = c.as_slice-rewrite_left.ensures.value ∙ r.left in
    let append_few = few_left c.args.mode Append c.args.version append_files _ a.missing _ append_left c.in_ok-check_few_bytes.ensures.ok in
    let rewrite_few = few_left c.args.mode Rewrite c.args.version rewrite_files _ r.missing _ rewrite_left c.in_ok-check_few_bytes-2.ensures.ok in
    let p = err_from_is_err_and c.from_residual-in_err-check_counts.result c.from_residual-in_err-check_counts.ensures.1 in
    rw (p.1, p.2)
    (inr (λ other. inr (inr (sized_refused (AreUnrecoveredAs c.args.version c.args.workers) c.args.mode c.args.version append_files rewrite_files _ _ a.missing r.missing _
    (inl (inr (inr (inl (counts_unreadable c.args.version c.args.workers _ _ _ append_few rewrite_few
    (λ may. c.in_err-check_counts.ensures.refused (
      may.0,
      may.1,
      count_left c.args.mode Append c.args.version append_files _ a.missing _ append_left may.2,
      count_left c.args.mode Rewrite c.args.version rewrite_files _ r.missing _ rewrite_left may.3,
    ))
    (c.in_err-check_counts.ensures.fault other))))))))))

pub returns-in_err-rewritten-clause-fault : goal.returns-in_err-rewritten-clause-fault
returns-in_err-rewritten-clause-fault g c = λ append_files rewrite_files sized.
    let gives = g.S.ReadFiles.gives c.args.source.now in
    let fails = g.S.ReadFiles.may_fail c.args.source.now in
    let a = c.in_ok-append.ensures.append append_files sized.of_append in
    let r = c.in_ok-append.ensures.rewrite rewrite_files sized.of_rewrite in
    let append_left = c.as_slice-append_left.ensures.value ∙ a.left in
    let rewrite_left = c.as_slice-rewrite_left.ensures.value ∙ r.left in
    let append_few = few_left c.args.mode Append c.args.version append_files _ a.missing _ append_left c.in_ok-check_few_bytes.ensures.ok in
    let rewrite_few = few_left c.args.mode Rewrite c.args.version rewrite_files _ r.missing _ rewrite_left c.in_ok-check_few_bytes-2.ensures.ok in
    let counts = c.in_ok-check_counts.ensures.ok in
    let append_count = left_count c.args.mode Append c.args.version append_files _ a.missing _ append_left counts.2 in
    let rewrite_count = left_count c.args.mode Rewrite c.args.version rewrite_files _ r.missing _ rewrite_left counts.3 in
    let p = err_from_is_err_and c.from_residual-in_err-rewritten.result c.from_residual-in_err-rewritten.ensures.1 in
    rw (p.1, p.2)
    (either _ _ _
    (λ other. elim (c.in_err-rewritten.ensures.fault other) [
      | inl stop ↦ elim (left_stops gives fails Rewrite c.args.version (IsStoodFor HaveBothRead) both_sound c.args.mode rewrite_files _ r.missing sized.of_rewrite.only _ rewrite_left _ stop) [
        | inl unread ↦ inl unread
        | inr stops ↦ inr (inr (inr (sized_refused (AreUnrecoveredAs c.args.version c.args.workers) c.args.mode c.args.version append_files rewrite_files _ _ a.missing r.missing _
            (inl (inr (inr (inl (stops_unreadable c.args.version c.args.workers _ _ _ append_few rewrite_few (counts.0, counts.1, append_count, rewrite_count) (inr stops)))))))))
      ]
      | inr stop ↦ elim (left_stops gives fails Append c.args.version (IsStoodFor HasRead) context_sound c.args.mode append_files _ a.missing sized.of_append.only _ append_left _ stop) [
        | inl unread ↦ inl unread
        | inr stops ↦ inr (inr (inr (sized_refused (AreUnrecoveredAs c.args.version c.args.workers) c.args.mode c.args.version append_files rewrite_files _ _ a.missing r.missing _
            (inl (inr (inr (inl (stops_unreadable c.args.version c.args.workers _ _ _ append_few rewrite_few (counts.0, counts.1, append_count, rewrite_count) (inl stops)))))))))
      ]
    ]))

pub returns-then-not-stand-clause-fault : goal.returns-then-not-stand-clause-fault
returns-then-not-stand-clause-fault g c = λ append_files rewrite_files sized.
    let gives = g.S.ReadFiles.gives c.args.source.now in
    let a = c.in_ok-append.ensures.append append_files sized.of_append in
    let r = c.in_ok-append.ensures.rewrite rewrite_files sized.of_rewrite in
    let append_left = c.as_slice-append_left.ensures.value ∙ a.left in
    let rewrite_left = c.as_slice-rewrite_left.ensures.value ∙ r.left in
    let append_few = few_left c.args.mode Append c.args.version append_files _ a.missing _ append_left c.in_ok-check_few_bytes.ensures.ok in
    let rewrite_few = few_left c.args.mode Rewrite c.args.version rewrite_files _ r.missing _ rewrite_left c.in_ok-check_few_bytes-2.ensures.ok in
    let appended = left_replayed gives Append c.args.version HasRead HasReadExactly c.args.mode append_files sized.of_append.only _ a.missing _ append_left _ c.in_ok-rewritten.ensures.appended in
    let rewritten = left_replayed gives Rewrite c.args.version HaveBothRead HaveBothReadExactly c.args.mode rewrite_files sized.of_rewrite.only _ r.missing _ rewrite_left _ c.in_ok-rewritten.ensures.rewritten in
    inr (λ other. inr (inr (sized_refused (AreUnrecoveredAs c.args.version c.args.workers) c.args.mode c.args.version append_files rewrite_files _ _ a.missing r.missing _
    (inl (inr (inr (inr (out_of_row c.files_hold_few_records.ensures c.args.version _ _ _ _ appended rewritten append_few rewrite_few _ (invalid _ _ c.invalid_argument.ensures other)
    (λ h is in_rows. absurd (false≢true (sym c.if-not-stand.true ∙ (c.stand.ensures h is).1 in_rows)))))))))))

pub returns-clause-ok : goal.returns-clause-ok
returns-clause-ok g c = λ append_files rewrite_files sized.
    let gives = g.S.ReadFiles.gives c.args.source.now in
    let a = c.in_ok-append.ensures.append append_files sized.of_append in
    let r = c.in_ok-append.ensures.rewrite rewrite_files sized.of_rewrite in
    let append_left = c.as_slice-append_left.ensures.value ∙ a.left in
    let rewrite_left = c.as_slice-rewrite_left.ensures.value ∙ r.left in
    let append_few = few_left c.args.mode Append c.args.version append_files _ a.missing _ append_left c.in_ok-check_few_bytes.ensures.ok in
    let rewrite_few = few_left c.args.mode Rewrite c.args.version rewrite_files _ r.missing _ rewrite_left c.in_ok-check_few_bytes-2.ensures.ok in
    let appended = left_replayed gives Append c.args.version HasRead HasReadExactly c.args.mode append_files sized.of_append.only _ a.missing _ append_left _ c.in_ok-rewritten.ensures.appended in
    let rewritten = left_replayed gives Rewrite c.args.version HaveBothRead HaveBothReadExactly c.args.mode rewrite_files sized.of_rewrite.only _ r.missing _ rewrite_left _ c.in_ok-rewritten.ensures.rewritten in
    let are = both_ready c.args.mode c.args.version append_files rewrite_files _ _ a append_few r rewrite_few in
    let read = both_read c.files_hold_few_records.ensures c.args.version _ _ _ _ appended rewritten append_few rewrite_few _ refl (λ h is. (c.stand.ensures h is).0 c.if-not-stand.false) in
    c.with_contexts.ensures.ok c.args.mode c.args.version append_files rewrite_files are read

pub returns-clause-accepted : goal.returns-clause-accepted
returns-clause-accepted g c = λ append_files rewrite_files sized.
    let a = c.in_ok-append.ensures.append append_files sized.of_append in
    let r = c.in_ok-append.ensures.rewrite rewrite_files sized.of_rewrite in
    on_any c.with_contexts.result (a.missing.accepted, r.missing.accepted)

pub returns-clause-fault : goal.returns-clause-fault
returns-clause-fault g c = λ append_files rewrite_files sized.
    let gives = g.S.ReadFiles.gives c.args.source.now in
    let a = c.in_ok-append.ensures.append append_files sized.of_append in
    let r = c.in_ok-append.ensures.rewrite rewrite_files sized.of_rewrite in
    let append_left = c.as_slice-append_left.ensures.value ∙ a.left in
    let rewrite_left = c.as_slice-rewrite_left.ensures.value ∙ r.left in
    let append_few = few_left c.args.mode Append c.args.version append_files _ a.missing _ append_left c.in_ok-check_few_bytes.ensures.ok in
    let rewrite_few = few_left c.args.mode Rewrite c.args.version rewrite_files _ r.missing _ rewrite_left c.in_ok-check_few_bytes-2.ensures.ok in
    let appended = left_replayed gives Append c.args.version HasRead HasReadExactly c.args.mode append_files sized.of_append.only _ a.missing _ append_left _ c.in_ok-rewritten.ensures.appended in
    let rewritten = left_replayed gives Rewrite c.args.version HaveBothRead HaveBothReadExactly c.args.mode rewrite_files sized.of_rewrite.only _ r.missing _ rewrite_left _ c.in_ok-rewritten.ensures.rewritten in
    let are = both_ready c.args.mode c.args.version append_files rewrite_files _ _ a append_few r rewrite_few in
    let read = both_read c.files_hold_few_records.ensures c.args.version _ _ _ _ appended rewritten append_few rewrite_few _ refl (λ h is. (c.stand.ensures h is).0 c.if-not-stand.false) in
    IfErr-weaker c.with_contexts.result _ _ (λ e why. inr why)
    (long_refused (AreUnrecoveredAs c.args.version c.args.workers) c.args.mode c.args.version append_files rewrite_files _ are c.with_contexts.result (c.with_contexts.ensures.fault c.args.version _ _ read))
