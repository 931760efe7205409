use Rattle.raft_survey.proofs.Common.{subst, err_from_is_err_and, LogFileContext, on_passed, IsUnread, file_of}
use Rattle.raft_survey.proofs.FaultLemmas.{memory_at_last}
use Rattle.raft_survey.proofs.SoundLemmas.{context_of, scan_of}
use Rattle.raft_survey.proofs.scans.scan_file.Goals as goal

pub returns-clause-ok : goal.returns-clause-ok
returns-clause-ok g c =
    scan_of (g.S.ReadFiles.gives c.args.source.now) c.args.queue c.args.version c.args.size.now c.new-file.result c.new-scan.result c.walk_file.new.visitor
    (context_of c.args.version c.new-file.result c.new.result (file_of c.args.queue c.args.size.now.seq) c.new-file.ensures c.new.ensures) c.new-scan.ensures.batches c.new-scan.ensures.read c.new-scan.ensures.seen c.new-scan.ensures.none c.new-scan.ensures.seq
    c.new-scan.ensures.len c.in_ok-walk_file.ensures.ok

pub returns-in_err-walk_file-clause-fault : goal.returns-in_err-walk_file-clause-fault
returns-in_err-walk_file-clause-fault g c =
    let p = err_from_is_err_and c.from_residual.result c.from_residual.ensures.1 in
    rw (p.1, p.2) (λ no_io. memory_at_last _ (c.in_err-walk_file.ensures.fault no_io))

pub returns-in_err-walk_file-clause-unread : goal.returns-in_err-walk_file-clause-unread
returns-in_err-walk_file-clause-unread g c =
    let gives = g.S.ReadFiles.gives c.args.source.now in
    let fails = g.S.ReadFiles.may_fail c.args.source.now in
    on_passed _ _ c.from_residual.ensures.1
    (λ other. subst (λ (f : LogFileContext). IsUnread (gives f.id) (fails f.id) c.args.size.now.len c.in_err-walk_file.field-0.0)
    (context_of c.args.version c.new-file.result c.new.result (file_of c.args.queue c.args.size.now.seq) c.new-file.ensures c.new.ensures) (c.in_err-walk_file.ensures.unread other other))
