use Rattle.raft_inspect.proofs.Common.{inl, inr, refl, on_passed}
use Rattle.raft_inspect.proofs.CutLemmas.{none_cut}
use Rattle.raft_inspect.proofs.PrintedLemmas.{keeps_same, opening_cut, opening_whole}
use Rattle.raft_inspect.proofs.cut.cut_as_opened.Goals as goal

pub returns-clause-ok : goal.returns-clause-ok
returns-clause-ok g c = record { opens = c.in_ok-opening.ensures.ok; asked = c.in_ok-cut_tails.ensures.ok }

pub returns-in_err-opening-clause-fault : goal.returns-in_err-opening-clause-fault
returns-in_err-opening-clause-fault g c =
    on_passed _ _ c.from_residual.ensures.1 (inl (c.in_err-opening.ensures.untried, refl))

pub returns-in_err-print_opening-clause-fault : goal.returns-in_err-print_opening-clause-fault
returns-in_err-print_opening-clause-fault g c =
    let asked = g.F.EngineFiles.asked c.args.files.now in
    on_passed _ _ c.from_residual-in_err-print_opening.ensures.1
    (none_cut (g.F.EngineFiles.may_fail) (g.S.ReadFiles.gives c.args.source.now) (g.S.ReadFiles.may_fail c.args.source.now) c.args.version c.args.workers c.args.sizes.now.append.items c.args.sizes.now.rewrite.items asked asked c.in_err-print_opening.field-0.0 c.in_err-print_opening.ensures.fault refl)

pub returns-in_err-cut_tails-clause-fault : goal.returns-in_err-cut_tails-clause-fault
returns-in_err-cut_tails-clause-fault g c =
    on_passed _ _ c.from_residual-in_err-cut_tails.ensures.1 (inr (record { opening = c.in_ok-opening.opening; opens = c.in_ok-opening.ensures.ok; failed = c.in_err-cut_tails.ensures.err }))

pub returns-in_err-opening-clause-cut_short : goal.returns-in_err-opening-clause-cut_short
returns-in_err-opening-clause-cut_short g c = on_passed _ _ c.from_residual.ensures.1 (inl (keeps_same _))

pub returns-in_err-print_opening-clause-cut_short : goal.returns-in_err-print_opening-clause-cut_short
returns-in_err-print_opening-clause-cut_short g c =
    let sizes = c.args.sizes.now in
    on_passed _ _ c.from_residual-in_err-print_opening.ensures.1
    (opening_cut (g.S.ReadFiles.gives c.args.source.now) (g.S.ReadFiles.may_fail c.args.source.now) c.args.version c.args.workers sizes.append.items sizes.rewrite.items c.args.form c.in_ok-opening.opening c.in_ok-opening.ensures.ok
    (g.W.Write.contents c.args.out.now) (g.W.Write.contents c.print_opening.new.out) c.in_err-print_opening.ensures.cut_short)

pub returns-in_err-cut_tails-clause-cut_short : goal.returns-in_err-cut_tails-clause-cut_short
returns-in_err-cut_tails-clause-cut_short g c =
    let sizes = c.args.sizes.now in
    on_passed _ _ c.from_residual-in_err-cut_tails.ensures.1
    (opening_whole (g.S.ReadFiles.gives c.args.source.now) (g.S.ReadFiles.may_fail c.args.source.now) c.args.version c.args.workers sizes.append.items sizes.rewrite.items c.args.form c.in_ok-opening.opening c.in_ok-opening.ensures.ok
    (g.W.Write.contents c.args.out.now) (g.W.Write.contents c.print_opening.new.out) c.in_ok-print_opening.ensures.ok)
