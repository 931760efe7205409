use Rattle.raft_inspect.proofs.Common.{◌+◌, List, drop, subst, drop_more, drop_all, Contains-get_or, on_passed, FileSize}
use Rattle.raft_inspect.proofs.FaultLemmas.{of_queue}
use Rattle.raft_inspect.proofs.PrintedLemmas.{IsPrinting, all_printed, none_printed, one_printed, scans_cut}
use Rattle.raft_inspect.proofs.check.print_scans.Goals as goal

pub loop-size-init : goal.loop-size-init
loop-size-init g c = none_printed (g.S.ReadFiles.gives c.args.source.now) c.args.queue c.args.version c.args.form c.args.sizes.now (g.W.Write.contents c.args.out.now)

pub loop-size-preserved : goal.loop-size-preserved
loop-size-preserved g c =
    let gives = g.S.ReadFiles.gives c.args.source.now in
    let first = g.W.Write.contents c.args.out.now in
    let now = g.W.Write.contents c.loop-size.out in
    one_printed gives c.args.queue c.args.version c.args.form c.args.sizes.now (drop (c.loop-size.size-index + 1) c.args.sizes.now) _ c.in_ok-scan.scan c.loop-size.are_undamaged c.is_still_undamaged-are_undamaged.result c.loop-size.last first now
    (g.W.Write.contents c.scan_and_print.new.out)
    (subst (λ (l : List FileSize). IsPrinting gives c.args.queue c.args.version c.args.form c.args.sizes.now l c.loop-size.are_undamaged c.loop-size.last first now)
    (drop_more c.args.sizes.now c.loop-size.size-index _ c.loop-size-test.true) c.loop-size.invariant)
    c.in_ok-scan.ensures.scanned c.in_ok-scan.ensures.printed c.is_still_undamaged-are_undamaged.ensures

pub returns-clause-ok : goal.returns-clause-ok
returns-clause-ok g c =
    let gives = g.S.ReadFiles.gives c.args.source.now in
    let first = g.W.Write.contents c.args.out.now in
    let now = g.W.Write.contents c.loop-size.out in
    all_printed gives c.args.queue c.args.version c.args.form c.args.sizes.now c.loop-size.are_undamaged c.loop-size.last first now
    (subst (λ (l : List FileSize). IsPrinting gives c.args.queue c.args.version c.args.form c.args.sizes.now l c.loop-size.are_undamaged c.loop-size.last first now)
    (drop_all c.loop-size.size-index c.args.sizes.now c.loop-size-test.false) c.loop-size.invariant)

pub returns-in_err-scan-clause-cut_short : goal.returns-in_err-scan-clause-cut_short
returns-in_err-scan-clause-cut_short g c =
    let gives = g.S.ReadFiles.gives c.args.source.now in
    let first = g.W.Write.contents c.args.out.now in
    let now = g.W.Write.contents c.loop-size.out in
    on_passed _ _ c.from_residual.ensures.1
    (scans_cut gives c.args.queue c.args.version c.args.form c.args.sizes.now (drop (c.loop-size.size-index + 1) c.args.sizes.now) _ c.loop-size.are_undamaged c.loop-size.last first now
    (g.W.Write.contents c.scan_and_print.new.out)
    (subst (λ (l : List FileSize). IsPrinting gives c.args.queue c.args.version c.args.form c.args.sizes.now l c.loop-size.are_undamaged c.loop-size.last first now)
    (drop_more c.args.sizes.now c.loop-size.size-index _ c.loop-size-test.true) c.loop-size.invariant)
    c.in_err-scan.ensures.cut_short)

pub returns-in_err-scan-clause-fault : goal.returns-in_err-scan-clause-fault
returns-in_err-scan-clause-fault g c =
    let source = c.args.source.now in
    let among = Contains-get_or c.args.sizes.now c.loop-size.size-index _ c.loop-size-test.true in
    on_passed _ _ c.from_residual.ensures.1 (of_queue (g.S.ReadFiles.gives source) (g.S.ReadFiles.may_fail source) c.args.queue c.args.sizes.now _ c.in_err-scan.field-0.0 among c.in_err-scan.ensures.fault)
