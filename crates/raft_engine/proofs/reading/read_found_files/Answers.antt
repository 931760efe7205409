use Rattle.raft_engine.proofs.Common.{err_from_is_err_and, inl, inr, map, sym, subst, Append, Rewrite, file_shown, AreWholeFiles, AreUnrecoveredAs}
use Rattle.raft_engine.proofs.RecoveredLemmas.{both_read_by, reading_refused}
use Rattle.raft_engine.proofs.reading.read_found_files.Goals as goal

pub returns-in_err-append-clause-fault : goal.returns-in_err-append-clause-fault
returns-in_err-append-clause-fault g c =
    let p = err_from_is_err_and c.from_residual.result c.from_residual.ensures.1 in
    rw (p.1, p.2) (λ other. inl (inl (c.in_err-append.ensures.fault other)))

pub returns-in_err-rewrite-clause-fault : goal.returns-in_err-rewrite-clause-fault
returns-in_err-rewrite-clause-fault g c =
    let p = err_from_is_err_and c.from_residual-in_err-rewrite.result c.from_residual-in_err-rewrite.ensures.1 in
    rw (p.1, p.2) (λ other. inr (inl (inl (c.in_err-rewrite.ensures.fault other))))

pub read_again_in_order-requires : goal.read_again_in_order-requires
read_again_in_order-requires g c = (c.type_bounds.sync-R, (map file_shown c.args.append.items, map file_shown c.args.rewrite.items, c.in_ok-append.ensures.ok, c.in_ok-rewrite.ensures.ok))

pub find_damaged-requires : goal.find_damaged-requires
find_damaged-requires g c =
    let fa = c.in_ok-append.ensures.ok in
    let fr = c.in_ok-rewrite.ensures.ok in
    let b = c.in-Ok.ensures c.args.version _ _ (subst (AreWholeFiles Append c.args.version _) (sym c.as_slice-segments.ensures.value) fa.whole) (subst (AreWholeFiles Rewrite c.args.version _) (sym c.as_slice-rewrite_segments.ensures.value) fr.whole) in
    (c.type_bounds.sync-R, (Append, c.args.version, map file_shown c.args.append.items, fa, b.appended.told))

pub of-requires-3 : goal.of-requires-3
of-requires-3 g c =
    let fa = c.in_ok-append.ensures.ok in
    let fr = c.in_ok-rewrite.ensures.ok in
    let b = c.in-Ok.ensures c.args.version _ _ (subst (AreWholeFiles Append c.args.version _) (sym c.as_slice-segments.ensures.value) fa.whole) (subst (AreWholeFiles Rewrite c.args.version _) (sym c.as_slice-rewrite_segments.ensures.value) fr.whole) in
    (c.args.version, map file_shown c.args.append.items, map file_shown c.args.rewrite.items, fa, fr, b.appended.told, b.rewritten.told)

pub returns-in-Err : goal.returns-in-Err
returns-in-Err g c =
    let found = map file_shown c.args.append.items in
    let known = map file_shown c.args.rewrite.items in
    let fa = c.in_ok-append.ensures.ok in
    let fr = c.in_ok-rewrite.ensures.ok in
    record {
      ok = c.read_again_in_order.ensures.ok found known fa fr;
      damaged = c.read_again_in_order.ensures.damaged found fa;
      accepted = c.read_again_in_order.ensures.accepted found known fa fr;
      fault = c.read_again_in_order.ensures.fault found known fa fr;
    }

pub returns-in_err-both-clause-fault : goal.returns-in_err-both-clause-fault
returns-in_err-both-clause-fault g c =
    let fa = c.in_ok-append.ensures.ok in
    let fr = c.in_ok-rewrite.ensures.ok in
    let b = c.in-Ok.ensures c.args.version _ _ (subst (AreWholeFiles Append c.args.version _) (sym c.as_slice-segments.ensures.value) fa.whole) (subst (AreWholeFiles Rewrite c.args.version _) (sym c.as_slice-rewrite_segments.ensures.value) fr.whole) in
    let p = err_from_is_err_and c.from_residual-in_err-both.result c.from_residual-in_err-both.ensures.1 in
    rw (p.1, p.2)
    (λ other. elim (c.in_err-both.ensures.fault c.args.version _ _ fa fr b.appended.told b.rewritten.told other) [
      | inl f ↦ inl f
      | inr f ↦ inr (inl f)
    ])

pub returns-in_err-reading-clause-fault : goal.returns-in_err-reading-clause-fault
returns-in_err-reading-clause-fault g c =
    let fa = c.in_ok-append.ensures.ok in
    let fr = c.in_ok-rewrite.ensures.ok in
    let b = c.in-Ok.ensures c.args.version _ _ (subst (AreWholeFiles Append c.args.version _) (sym c.as_slice-segments.ensures.value) fa.whole) (subst (AreWholeFiles Rewrite c.args.version _) (sym c.as_slice-rewrite_segments.ensures.value) fr.whole) in
    let are = c.in_ok-both.ensures.ok c.args.version _ _ fa fr b.appended.told b.rewritten.told in
    let t = c.torn_tails_are_found.ensures in
    let p = err_from_is_err_and c.from_residual-in_err-reading.result c.from_residual-in_err-reading.ensures.1 in
    rw (p.1, p.2)
    (reading_refused (AreUnrecoveredAs c.args.version c.args.workers) c.args.mode c.args.version _ _ c.in_ok-both.both.ready are _
    (λ other. inr (c.in_err-reading.ensures.fault c.args.version _ _ (both_read_by t.whole t.one_reading t.cut c.files_hold_few_records.ensures c.args.mode c.args.version _ _ c.in_ok-both.both.ready are c.in-Ok.read b) other)))

pub returns-clause-ok : goal.returns-clause-ok
returns-clause-ok g c =
    let fa = c.in_ok-append.ensures.ok in
    let fr = c.in_ok-rewrite.ensures.ok in
    let b = c.in-Ok.ensures c.args.version _ _ (subst (AreWholeFiles Append c.args.version _) (sym c.as_slice-segments.ensures.value) fa.whole) (subst (AreWholeFiles Rewrite c.args.version _) (sym c.as_slice-rewrite_segments.ensures.value) fr.whole) in
    let are = c.in_ok-both.ensures.ok c.args.version _ _ fa fr b.appended.told b.rewritten.told in
    let t = c.torn_tails_are_found.ensures in
    c.in_ok-reading.ensures.ok c.args.mode c.args.version _ _ are
    (both_read_by t.whole t.one_reading t.cut c.files_hold_few_records.ensures c.args.mode c.args.version _ _ c.in_ok-both.both.ready are c.in-Ok.read b)

pub returns-clause-damaged : goal.returns-clause-damaged
returns-clause-damaged g c = c.in_ok-damaged.ensures.ok c.args.version _ c.in_ok-append.ensures.ok

pub returns-clause-accepted : goal.returns-clause-accepted
returns-clause-accepted g c =
    let fa = c.in_ok-append.ensures.ok in
    let fr = c.in_ok-rewrite.ensures.ok in
    let b = c.in-Ok.ensures c.args.version _ _ (subst (AreWholeFiles Append c.args.version _) (sym c.as_slice-segments.ensures.value) fa.whole) (subst (AreWholeFiles Rewrite c.args.version _) (sym c.as_slice-rewrite_segments.ensures.value) fr.whole) in
    let are = c.in_ok-both.ensures.ok c.args.version _ _ fa fr b.appended.told b.rewritten.told in
    (are.append.missing.accepted, are.rewrite.missing.accepted)
