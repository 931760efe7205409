use Rattle.raft_engine.proofs.Common.{err_from_is_err_and, inl, inr, sym, subst, Append, Rewrite, AreWholeFiles, IsNoRefusal}
use Rattle.raft_engine.proofs.RecoveredLemmas.{many_files, reading_refused, segments_of}
use Rattle.raft_engine.proofs.reading.ReadySegments.of.Goals as goal

pub of-requires : goal.of-requires
of-requires c =
    let r = c.requires in
    (c.args.version, r.0, r.1, r.2, r.3, r.4, c.in_ok-rewrite_tail.ensures.ok Rewrite c.args.version r.1 r.3)

pub returns-in_err-both-clause-fault : goal.returns-in_err-both-clause-fault
returns-in_err-both-clause-fault c = λ found known fa fr ta.
    let p = err_from_is_err_and c.from_residual-in_err-both.result c.from_residual-in_err-both.ensures.1 in
    rw (p.1, p.2)
    (λ other. elim (c.in_err-both.ensures.fault c.args.version found known fa fr ta (c.in_ok-rewrite_tail.ensures.ok Rewrite c.args.version known fr) other) [
      | inl f ↦ inl f
      | inr f ↦ inr (inl f)
    ])

pub complete_segments-requires : goal.complete_segments-requires
complete_segments-requires c =
    let r = c.requires in
    let are = c.in_ok-both.ensures.ok c.args.version r.0 r.1 r.2 r.3 r.4 (c.in_ok-rewrite_tail.ensures.ok Rewrite c.args.version r.1 r.3) in
    (c.args.mode, r.0, subst (AreWholeFiles Append c.args.version r.0) (sym c.in_ok-both.ensures.append_segments) r.2.whole, are.append.missing)

pub complete_segments-requires-2 : goal.complete_segments-requires-2
complete_segments-requires-2 c =
    let r = c.requires in
    let are = c.in_ok-both.ensures.ok c.args.version r.0 r.1 r.2 r.3 r.4 (c.in_ok-rewrite_tail.ensures.ok Rewrite c.args.version r.1 r.3) in
    (c.args.mode, r.1, subst (AreWholeFiles Rewrite c.args.version r.1) (sym c.in_ok-both.ensures.rewrite_segments) r.3.whole, are.rewrite.missing)

pub returns-in_err-check_few_bytes-clause-fault : goal.returns-in_err-check_few_bytes-clause-fault
returns-in_err-check_few_bytes-clause-fault c = λ found known fa fr ta.
    let are = c.in_ok-both.ensures.ok c.args.version found known fa fr ta (c.in_ok-rewrite_tail.ensures.ok Rewrite c.args.version known fr) in
    let whole = c.in_ok-complete_segments.ensures.ok c.args.mode found (subst (AreWholeFiles Append c.args.version found) (sym c.in_ok-both.ensures.append_segments) fa.whole) are.append.missing in
    let p = err_from_is_err_and c.from_residual-in_err-check_few_bytes.result c.from_residual-in_err-check_few_bytes.ensures.1 in
    rw (p.1, p.2)
    (reading_refused IsNoRefusal c.args.mode c.args.version found known c.in_ok-both.both.ready are _
    (λ other. inl (inl (many_files Append c.args.version _ _ _ (subst (AreWholeFiles Append c.args.version _) (sym c.as_slice.ensures.value) whole) c.in_err-check_few_bytes.ensures.fault))))

pub returns-in_err-check_few_bytes-2-clause-fault : goal.returns-in_err-check_few_bytes-2-clause-fault
returns-in_err-check_few_bytes-2-clause-fault c = λ found known fa fr ta.
    let are = c.in_ok-both.ensures.ok c.args.version found known fa fr ta (c.in_ok-rewrite_tail.ensures.ok Rewrite c.args.version known fr) in
    let whole = c.in_ok-complete_segments-2.ensures.ok c.args.mode known (subst (AreWholeFiles Rewrite c.args.version known) (sym c.in_ok-both.ensures.rewrite_segments) fr.whole) are.rewrite.missing in
    let p = err_from_is_err_and c.from_residual-in_err-check_few_bytes-2.result c.from_residual-in_err-check_few_bytes-2.ensures.1 in
    rw (p.1, p.2)
    (reading_refused IsNoRefusal c.args.mode c.args.version found known c.in_ok-both.both.ready are _
    (λ other. inl (inr (inl (many_files Rewrite c.args.version _ _ _ (subst (AreWholeFiles Rewrite c.args.version _) (sym c.as_slice-2.ensures.value) whole) c.in_err-check_few_bytes-2.ensures.fault)))))

pub returns-clause-ok : goal.returns-clause-ok
returns-clause-ok c = λ found known fa fr ta.
    let are = c.in_ok-both.ensures.ok c.args.version found known fa fr ta (c.in_ok-rewrite_tail.ensures.ok Rewrite c.args.version known fr) in
    let append_whole = c.in_ok-complete_segments.ensures.ok c.args.mode found (subst (AreWholeFiles Append c.args.version found) (sym c.in_ok-both.ensures.append_segments) fa.whole) are.append.missing in
    let rewrite_whole = c.in_ok-complete_segments-2.ensures.ok c.args.mode known (subst (AreWholeFiles Rewrite c.args.version known) (sym c.in_ok-both.ensures.rewrite_segments) fr.whole) are.rewrite.missing in (
      are,
      segments_of Append c.args.version _ _ append_whole (rw (sym c.as_slice.ensures.value) c.in_ok-check_few_bytes.ensures.ok),
      segments_of Rewrite c.args.version _ _ rewrite_whole (rw (sym c.as_slice-2.ensures.value) c.in_ok-check_few_bytes-2.ensures.ok),
    )
