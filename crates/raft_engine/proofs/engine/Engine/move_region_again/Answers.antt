use Rattle.raft_engine.proofs.Common.{false≢true, err_from_is_err_and, None, inl, inr, refl, sym, ◌∙◌, IsRegionUnmoved, IsGroupUnmoved, IsOnePartOf, IsRegionMovedAgain, IsRegionUnmovedAgain}
use Rattle.raft_engine.proofs.MovedRegions.{group_again, group_not_again}
use Rattle.raft_engine.proofs.RewrittenRegions.{if_err_so, ok_so}
use Rattle.raft_engine.proofs.engine.Engine.move_region_again.Goals as goal

pub returns-clause-ok : goal.returns-clause-ok
returns-clause-ok g c =
    let several : ¬ (IsOnePartOf c.args.region c.args.self.now) = λ h. false≢true (sym c.if-branch.false ∙ c.in_ok-moves_in_one_part.ensures.ok.1 h) in
    ok_so _ (IsRegionMovedAgain c.args.region c.args.self.now c.move_region_in_group.new.self) c.move_region_in_group.result (group_again c.args.region c.args.self.now c.move_region_in_group.new.self several) c.move_region_in_group.ensures.ok

pub returns-clause-err : goal.returns-clause-err
returns-clause-err g c =
    let several : ¬ (IsOnePartOf c.args.region c.args.self.now) = λ h. false≢true (sym c.if-branch.false ∙ c.in_ok-moves_in_one_part.ensures.ok.1 h) in
    if_err_so (IsGroupUnmoved (g.F.EngineFiles.may_fail) c.args.region c.args.self.now c.move_region_in_group.new.self) (IsRegionUnmovedAgain (g.F.EngineFiles.may_fail) c.args.region c.args.self.now c.move_region_in_group.new.self) c.move_region_in_group.result
    (λ e. group_not_again c.args.region c.args.self.now c.move_region_in_group.new.self e several) c.move_region_in_group.ensures.err

pub returns-then-branch-clause-ok : goal.returns-then-branch-clause-ok
returns-then-branch-clause-ok g c =
    ok_so _ (IsRegionMovedAgain c.args.region c.args.self.now c.rewrite_region.new.self) c.rewrite_region.result (λ m. inl (c.in_ok-moves_in_one_part.ensures.ok.0 c.if-branch.true, m)) c.rewrite_region.ensures.ok

pub returns-then-branch-clause-err : goal.returns-then-branch-clause-err
returns-then-branch-clause-err g c =
    if_err_so (IsRegionUnmoved (g.F.EngineFiles.may_fail) None c.args.region c.args.self.now c.rewrite_region.new.self) (IsRegionUnmovedAgain (g.F.EngineFiles.may_fail) c.args.region c.args.self.now c.rewrite_region.new.self) c.rewrite_region.result
    (λ e m. inr (inl (c.in_ok-moves_in_one_part.ensures.ok.0 c.if-branch.true, m))) c.rewrite_region.ensures.err

pub returns-in_err-moves_in_one_part-clause-err : goal.returns-in_err-moves_in_one_part-clause-err
returns-in_err-moves_in_one_part-clause-err g c =
    let p = err_from_is_err_and c.from_residual.result c.from_residual.ensures.1 in
    rw (p.1, p.2) (inl (refl, c.in_err-moves_in_one_part.ensures.memory))
