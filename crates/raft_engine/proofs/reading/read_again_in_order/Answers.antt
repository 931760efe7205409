use Rattle.raft_engine.proofs.Common.{err_from_is_err_and, inl, inr, Append, Rewrite, AreUnrecoveredAs, left_by}
use Rattle.raft_engine.proofs.RecoveredLemmas.{any_refusal, of_slice, out_of_rows, read_sound, reading_refused, replayed_by, unreadable_as}
use Rattle.raft_engine.proofs.reading.read_again_in_order.Goals as goal

pub returns-in_err-both-clause-fault : goal.returns-in_err-both-clause-fault
returns-in_err-both-clause-fault g c = λ found known fa fr.
    let p = err_from_is_err_and c.from_residual-in_err-both.result c.from_residual-in_err-both.ensures.1 in
    rw (p.1, p.2) (any_refusal (AreUnrecoveredAs c.args.version c.args.workers) c.args.mode c.args.version found known _ (c.in_err-both.ensures.fault found known fa fr (c.in_ok-tail.ensures.ok Append c.args.version found fa)))

pub returns-in_err-rewritten-clause-fault : goal.returns-in_err-rewritten-clause-fault
returns-in_err-rewritten-clause-fault g c = λ found known fa fr.
    let b = c.in_ok-both.ensures.ok found known fa fr (c.in_ok-tail.ensures.ok Append c.args.version found fa) in
    let p = err_from_is_err_and c.from_residual-in_err-rewritten.result c.from_residual-in_err-rewritten.ensures.1 in
    rw (p.1, p.2)
    (reading_refused (AreUnrecoveredAs c.args.version c.args.workers) c.args.mode c.args.version found known c.in_ok-both.both.ready b.0 _
    (λ other. inl (inr (inr (inl (unreadable_as c.args.version c.args.workers _ _ c.as_slice-append.result.now c.as_slice-rewrite.result.now _
    (of_slice Append _ _ _ _ c.as_slice-append.ensures.value b.1) (of_slice Rewrite _ _ _ _ c.as_slice-rewrite.ensures.value b.2)
    (λ may rewrite_few append_few. c.in_err-rewritten.ensures.place may other) (λ not. c.in_err-rewritten.ensures.fault not other)))))))

pub returns-in_err-check_groups-clause-fault : goal.returns-in_err-check_groups-clause-fault
returns-in_err-check_groups-clause-fault g c = λ found known fa fr.
    let b = c.in_ok-both.ensures.ok found known fa fr (c.in_ok-tail.ensures.ok Append c.args.version found fa) in
    let r = of_slice Rewrite c.args.version (left_by c.in_ok-both.both.ready.rewrite.missing known) _ _ c.as_slice-rewrite.ensures.value b.2 in
    let read = c.in_ok-rewritten.ensures.rewritten in
    let p = err_from_is_err_and c.from_residual-in_err-check_groups.result c.from_residual-in_err-check_groups.ensures.1 in
    rw (p.1, p.2)
    (reading_refused (AreUnrecoveredAs c.args.version c.args.workers) c.args.mode c.args.version found known c.in_ok-both.both.ready b.0 _
    (λ other. inl (inr (inr (inr (out_of_rows c.files_hold_few_records.ensures c.args.version (left_by c.in_ok-both.both.ready.rewrite.missing known) read.history _ ((r.same read.history).1 read.held) r.few
    (read_sound Rewrite _ _ r.of_queue read.history read.held (λ small. (read.stands small, read.exact small))) (λ h there small sound. c.in_err-check_groups.ensures.fault other h ((r.same h).0 there) small sound)))))))

pub find_damaged-requires : goal.find_damaged-requires
find_damaged-requires g c = let r = c.requires in (c.type_bounds.sync-R, (Append, c.args.version, r.0, r.2, c.in_ok-tail.ensures.ok Append c.args.version r.0 r.2))

pub of-requires : goal.of-requires
of-requires g c = let r = c.requires in (r.0, r.1, r.2, r.3, c.in_ok-tail.ensures.ok Append c.args.version r.0 r.2)

pub returns-in_err-reading-clause-fault : goal.returns-in_err-reading-clause-fault
returns-in_err-reading-clause-fault g c = λ found known fa fr.
    let b = c.in_ok-both.ensures.ok found known fa fr (c.in_ok-tail.ensures.ok Append c.args.version found fa) in
    let p = err_from_is_err_and c.from_residual-in_err-reading.result c.from_residual-in_err-reading.ensures.1 in
    rw (p.1, p.2)
    (reading_refused (AreUnrecoveredAs c.args.version c.args.workers) c.args.mode c.args.version found known c.in_ok-both.both.ready b.0 _
    (λ other. inr (c.in_err-reading.ensures.fault c.args.version _ _ (replayed_by c.files_hold_few_records.ensures c.segments_read_as_one_history.ensures c.args.version _ _ c.as_slice-append.result.now c.as_slice-rewrite.result.now
    (of_slice Append _ _ _ _ c.as_slice-append.ensures.value b.1) (of_slice Rewrite _ _ _ _ c.as_slice-rewrite.ensures.value b.2)
    c.in_ok-check_groups.ensures.ok _ _ c.in_ok-rewritten.ensures.appended c.in_ok-rewritten.ensures.rewritten) other)))

pub returns-clause-ok : goal.returns-clause-ok
returns-clause-ok g c = λ found known fa fr.
    let b = c.in_ok-both.ensures.ok found known fa fr (c.in_ok-tail.ensures.ok Append c.args.version found fa) in
    c.in_ok-reading.ensures.ok c.args.mode c.args.version found known b.0
    (replayed_by c.files_hold_few_records.ensures c.segments_read_as_one_history.ensures c.args.version _ _ c.as_slice-append.result.now c.as_slice-rewrite.result.now
    (of_slice Append _ _ _ _ c.as_slice-append.ensures.value b.1) (of_slice Rewrite _ _ _ _ c.as_slice-rewrite.ensures.value b.2)
    c.in_ok-check_groups.ensures.ok _ _ c.in_ok-rewritten.ensures.appended c.in_ok-rewritten.ensures.rewritten)

pub returns-clause-damaged : goal.returns-clause-damaged
returns-clause-damaged g c = λ found fa. c.in_ok-damaged.ensures.ok c.args.version found fa

pub returns-clause-accepted : goal.returns-clause-accepted
returns-clause-accepted g c = λ found known fa fr.
    let b = c.in_ok-both.ensures.ok found known fa fr (c.in_ok-tail.ensures.ok Append c.args.version found fa) in
    (b.0.append.missing.accepted, b.0.rewrite.missing.accepted)
