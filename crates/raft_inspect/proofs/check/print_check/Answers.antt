use Rattle.raft_inspect.proofs.Common.{inl, inr, on_passed, IsUnchecked}
use Rattle.raft_inspect.proofs.FaultLemmas.{for_none, of_scans}
use Rattle.raft_inspect.proofs.FoundLemmas.{ending_cut, ends_with_scans, printed_so}
use Rattle.raft_inspect.proofs.PrintedLemmas.{keeps_same}
use Rattle.raft_inspect.proofs.check.print_check.Goals as goal

pub returns-clause-ok : goal.returns-clause-ok
returns-clause-ok g c =
    let sizes = c.args.sizes.now in
    printed_so (g.S.ReadFiles.gives c.args.source.now) (g.S.ReadFiles.may_fail c.args.source.now) c.args.version c.args.workers sizes.append.items sizes.rewrite.items c.args.form (g.W.Write.contents c.args.out.now) (g.W.Write.contents c.print_both_scans.new.out)
    c.in_ok-undamaged.undamaged c.in_ok-undamaged.ensures.ok c.in_ok-opening.opening c.new-found.result c.in_ok-opening.ensures.ok
    (record { append_counted = c.new-found.ensures.append; rewrite_counted = c.new-found.ensures.rewrite; opens = c.new-found.ensures.opening; verdict = c.new-found.ensures.verdict })
    (g.W.Write.contents c.print_ending.new.out) c.in_ok-print_ending.ensures.ok

pub returns-in_err-undamaged-clause-fault : goal.returns-in_err-undamaged-clause-fault
returns-in_err-undamaged-clause-fault g c =
    let source = c.args.source.now in
    let sizes = c.args.sizes.now in
    on_passed _ _ c.from_residual.ensures.1
    (of_scans (g.S.ReadFiles.gives source) (g.S.ReadFiles.may_fail source) c.args.version c.args.workers sizes.append.items sizes.rewrite.items c.in_err-undamaged.field-0.0 c.in_err-undamaged.ensures.fault)

pub returns-in_err-undamaged-clause-cut_short : goal.returns-in_err-undamaged-clause-cut_short
returns-in_err-undamaged-clause-cut_short g c = on_passed _ _ c.from_residual.ensures.1 (inl c.in_err-undamaged.ensures.cut_short)

pub returns-in_err-opening-clause-cut_short : goal.returns-in_err-opening-clause-cut_short
returns-in_err-opening-clause-cut_short g c =
    let sizes = c.args.sizes.now in
    let now = g.W.Write.contents c.print_both_scans.new.out in
    on_passed _ _ c.from_residual-in_err-opening.ensures.1
    (ends_with_scans (g.S.ReadFiles.gives c.args.source.now) (g.S.ReadFiles.may_fail c.args.source.now) c.args.version c.args.workers sizes.append.items sizes.rewrite.items c.args.form (g.W.Write.contents c.args.out.now) now
    c.in_ok-undamaged.undamaged c.in_ok-undamaged.ensures.ok now (keeps_same now))

pub returns-in_err-opening-clause-fault : goal.returns-in_err-opening-clause-fault
returns-in_err-opening-clause-fault g c =
    on_passed _ _ c.from_residual-in_err-opening.ensures.1 (λ other. inr (c.in_err-opening.ensures.untried other))

pub returns-in_err-print_ending-clause-cut_short : goal.returns-in_err-print_ending-clause-cut_short
returns-in_err-print_ending-clause-cut_short g c =
    let sizes = c.args.sizes.now in
    on_passed _ _ c.from_residual-in_err-print_ending.ensures.1
    (ending_cut (g.S.ReadFiles.gives c.args.source.now) (g.S.ReadFiles.may_fail c.args.source.now) c.args.version c.args.workers sizes.append.items sizes.rewrite.items c.args.form (g.W.Write.contents c.args.out.now) (g.W.Write.contents c.print_both_scans.new.out)
    c.in_ok-undamaged.undamaged c.in_ok-undamaged.ensures.ok c.in_ok-opening.opening c.new-found.result c.in_ok-opening.ensures.ok
    (record { append_counted = c.new-found.ensures.append; rewrite_counted = c.new-found.ensures.rewrite; opens = c.new-found.ensures.opening; verdict = c.new-found.ensures.verdict })
    (g.W.Write.contents c.print_ending.new.out) c.in_err-print_ending.ensures.cut_short)

pub returns-in_err-print_ending-clause-fault : goal.returns-in_err-print_ending-clause-fault
returns-in_err-print_ending-clause-fault g c =
    let source = c.args.source.now in
    let sizes = c.args.sizes.now in
    on_passed _ _ c.from_residual-in_err-print_ending.ensures.1 (for_none (IsUnchecked (g.S.ReadFiles.gives source) (g.S.ReadFiles.may_fail source) c.args.version c.args.workers sizes.append.items sizes.rewrite.items) c.in_err-print_ending.field-0.0 c.in_err-print_ending.ensures.fault)
