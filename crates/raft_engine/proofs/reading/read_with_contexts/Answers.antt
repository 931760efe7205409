use Rattle.raft_engine.proofs.Common.{err_from_is_err_and, inl, inr, map, [], ◌++◌, Append, Rewrite, file_shown, left_by, missing_asks, AreUngroupedAs}
use Rattle.raft_engine.proofs.RecoveredLemmas.{any_refusal, of_slice, out_of_rows, read_by, read_sound, reading_refused}
use Rattle.raft_engine.proofs.RestartLemmas.{ready_held}
use Rattle.raft_engine.proofs.reading.read_with_contexts.Goals as goal

pub of-requires-3 : goal.of-requires-3
of-requires-3 c = (map file_shown c.args.append.items, map file_shown c.args.rewrite.items, c.in_ok-append.ensures.ok, c.in_ok-rewrite.ensures.ok, c.in_ok-tail.ensures.ok Append c.args.version _ c.in_ok-append.ensures.ok)

pub find_damaged_alone-requires : goal.find_damaged_alone-requires
find_damaged_alone-requires c = (Append, c.args.version, map file_shown c.args.append.items, c.in_ok-append.ensures.ok, c.in_ok-tail.ensures.ok Append c.args.version _ c.in_ok-append.ensures.ok)

pub returns-in_err-append-clause-fault : goal.returns-in_err-append-clause-fault
returns-in_err-append-clause-fault c =
    let p = err_from_is_err_and c.from_residual.result c.from_residual.ensures.1 in
    rw (p.1, p.2) (λ other. inl (inl (c.in_err-append.ensures.fault other)))

pub returns-in_err-rewrite-clause-fault : goal.returns-in_err-rewrite-clause-fault
returns-in_err-rewrite-clause-fault c =
    let p = err_from_is_err_and c.from_residual-in_err-rewrite.result c.from_residual-in_err-rewrite.ensures.1 in
    rw (p.1, p.2) (λ other. inr (inl (inl (c.in_err-rewrite.ensures.fault other))))

pub returns-in_err-both-clause-fault : goal.returns-in_err-both-clause-fault
returns-in_err-both-clause-fault c =
    let p = err_from_is_err_and c.from_residual-in_err-both.result c.from_residual-in_err-both.ensures.1 in
    rw (p.1, p.2) (any_refusal (AreUngroupedAs c.args.version) c.args.mode c.args.version _ _ _ (c.in_err-both.ensures.fault _ _ c.in_ok-append.ensures.ok c.in_ok-rewrite.ensures.ok (c.in_ok-tail.ensures.ok Append c.args.version _ c.in_ok-append.ensures.ok)))

pub returns-in_err-check_groups-clause-fault : goal.returns-in_err-check_groups-clause-fault
returns-in_err-check_groups-clause-fault c =
    let b = c.in_ok-both.ensures.ok _ _ c.in_ok-append.ensures.ok c.in_ok-rewrite.ensures.ok (c.in_ok-tail.ensures.ok Append c.args.version _ c.in_ok-append.ensures.ok) in
    let r = of_slice Rewrite c.args.version (left_by c.in_ok-both.both.ready.rewrite.missing (map file_shown c.args.rewrite.items)) _ _ c.as_slice.ensures.value b.2 in
    let t = c.torn_tails_are_found.ensures in
    let held = ready_held t.whole t.one_reading t.cut c.files_hold_few_records.ensures Rewrite c.args.version [] (missing_asks Rewrite c.in_ok-both.both.ready.rewrite.missing ++ []) _ _ c.requires.rewrite_batches
    (b.0.rewrite.missing.ready []) c.requires.rewrite_held in
    let p = err_from_is_err_and c.from_residual-in_err-check_groups.result c.from_residual-in_err-check_groups.ensures.1 in
    rw (p.1, p.2)
    (reading_refused (AreUngroupedAs c.args.version) c.args.mode c.args.version _ _ c.in_ok-both.both.ready b.0 _
    (λ other. inl (inr (inr (out_of_rows c.files_hold_few_records.ensures c.args.version (left_by c.in_ok-both.both.ready.rewrite.missing (map file_shown c.args.rewrite.items)) c.requires.rewrite_batches _ held r.few
    (read_sound Rewrite _ _ r.of_queue c.requires.rewrite_batches ((r.same c.requires.rewrite_batches).0 held) c.requires.rewrite_read)
    (λ h there small sound. c.in_err-check_groups.ensures.fault other h ((r.same h).0 there) small sound))))))

pub returns-in_err-reading-clause-fault : goal.returns-in_err-reading-clause-fault
returns-in_err-reading-clause-fault c =
    let b = c.in_ok-both.ensures.ok _ _ c.in_ok-append.ensures.ok c.in_ok-rewrite.ensures.ok (c.in_ok-tail.ensures.ok Append c.args.version _ c.in_ok-append.ensures.ok) in
    let t = c.torn_tails_are_found.ensures in
    let p = err_from_is_err_and c.from_residual-in_err-reading.result c.from_residual-in_err-reading.ensures.1 in
    rw (p.1, p.2)
    (reading_refused (AreUngroupedAs c.args.version) c.args.mode c.args.version _ _ c.in_ok-both.both.ready b.0 _
    (λ other. inr (c.in_err-reading.ensures.fault c.args.version _ _
    (read_by c.files_hold_few_records.ensures c.segments_read_as_one_history.ensures c.args.version _ _ _ c.as_slice.result.now
    b.1 (of_slice Rewrite _ _ _ _ c.as_slice.ensures.value b.2)
    c.in_ok-check_groups.ensures.ok c.args.appended c.args.rewritten c.requires.append_batches c.requires.rewrite_batches
    (ready_held t.whole t.one_reading t.cut c.files_hold_few_records.ensures Append c.args.version [] (missing_asks Append c.in_ok-both.both.ready.append.missing ++ []) _ _ c.requires.append_batches
    (b.0.append.missing.ready []) c.requires.append_held)
    (ready_held t.whole t.one_reading t.cut c.files_hold_few_records.ensures Rewrite c.args.version [] (missing_asks Rewrite c.in_ok-both.both.ready.rewrite.missing ++ []) _ _ c.requires.rewrite_batches
    (b.0.rewrite.missing.ready []) c.requires.rewrite_held)
    c.requires.append_read c.requires.rewrite_read) other)))

pub returns-clause-ok : goal.returns-clause-ok
returns-clause-ok c =
    let b = c.in_ok-both.ensures.ok _ _ c.in_ok-append.ensures.ok c.in_ok-rewrite.ensures.ok (c.in_ok-tail.ensures.ok Append c.args.version _ c.in_ok-append.ensures.ok) in
    let t = c.torn_tails_are_found.ensures in
    c.in_ok-reading.ensures.ok c.args.mode c.args.version _ _ b.0
    (read_by c.files_hold_few_records.ensures c.segments_read_as_one_history.ensures c.args.version _ _ _ c.as_slice.result.now
    b.1 (of_slice Rewrite _ _ _ _ c.as_slice.ensures.value b.2)
    c.in_ok-check_groups.ensures.ok c.args.appended c.args.rewritten c.requires.append_batches c.requires.rewrite_batches
    (ready_held t.whole t.one_reading t.cut c.files_hold_few_records.ensures Append c.args.version [] (missing_asks Append c.in_ok-both.both.ready.append.missing ++ []) _ _ c.requires.append_batches
    (b.0.append.missing.ready []) c.requires.append_held)
    (ready_held t.whole t.one_reading t.cut c.files_hold_few_records.ensures Rewrite c.args.version [] (missing_asks Rewrite c.in_ok-both.both.ready.rewrite.missing ++ []) _ _ c.requires.rewrite_batches
    (b.0.rewrite.missing.ready []) c.requires.rewrite_held)
    c.requires.append_read c.requires.rewrite_read)

pub returns-clause-damaged : goal.returns-clause-damaged
returns-clause-damaged c = c.in_ok-damaged.ensures.ok c.args.version _ c.in_ok-append.ensures.ok

pub returns-clause-accepted : goal.returns-clause-accepted
returns-clause-accepted c =
    let b = c.in_ok-both.ensures.ok _ _ c.in_ok-append.ensures.ok c.in_ok-rewrite.ensures.ok (c.in_ok-tail.ensures.ok Append c.args.version _ c.in_ok-append.ensures.ok) in
    (b.0.append.missing.accepted, b.0.rewrite.missing.accepted)
