use Rattle.raft_inspect.proofs.Common.{inl, on_passed, IsFileUnread}
use Rattle.raft_inspect.proofs.FaultLemmas.{for_none}
use Rattle.raft_inspect.proofs.PrintedLemmas.{keeps_same, scan_cut}
use Rattle.raft_inspect.proofs.check.scan_and_print.Goals as goal

pub returns-in_err-scan-clause-cut_short : goal.returns-in_err-scan-clause-cut_short
returns-in_err-scan-clause-cut_short g c = on_passed _ _ c.from_residual.ensures.1 (inl (keeps_same _))

pub returns-in_err-scan-clause-fault : goal.returns-in_err-scan-clause-fault
returns-in_err-scan-clause-fault g c =
    on_passed _ _ c.from_residual.ensures.1 c.in_err-scan.ensures.unread

pub returns-in_err-print_scan-clause-cut_short : goal.returns-in_err-print_scan-clause-cut_short
returns-in_err-print_scan-clause-cut_short g c =
    on_passed _ _ c.from_residual-in_err-print_scan.ensures.1
    (scan_cut (g.S.ReadFiles.gives c.args.source.now) c.args.queue c.args.version c.args.form c.args.size.now c.args.last c.in_ok-scan.scan (g.W.Write.contents c.args.out.now) (g.W.Write.contents c.print_scan.new.out) c.in_ok-scan.ensures.ok c.in_err-print_scan.ensures.cut_short)

pub returns-in_err-print_scan-clause-fault : goal.returns-in_err-print_scan-clause-fault
returns-in_err-print_scan-clause-fault g c =
    on_passed _ _ c.from_residual-in_err-print_scan.ensures.1 (for_none (IsFileUnread (g.S.ReadFiles.gives c.args.source.now) (g.S.ReadFiles.may_fail c.args.source.now) c.args.queue c.args.size.now) c.in_err-print_scan.field-0.0 c.in_err-print_scan.ensures.fault)
