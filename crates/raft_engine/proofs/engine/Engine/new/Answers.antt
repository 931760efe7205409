use Rattle.raft_engine.proofs.Common.{List, ◌∷◌, ap, ◌∙◌, inl, inr, subst, Append, Rewrite, Ask, Begin, ask, err_from_is_err_and}
use Rattle.raft_engine.proofs.KeptLemmas.{kept_new}
use Rattle.raft_engine.proofs.engine.Engine.new.Goals as goal

pub invariant_of-result : goal.invariant_of-result
invariant_of-result g c =
    kept_new c.asks_are_stored.ensures.first c.args.version (g.F.EngineFiles.asked c.rotate-2.new.self) c.first.result c.first-2.result c.default.result c.in_ok-accessor.accessor
    (c.in_ok-rotate-2.ensures.ok ∙ ap (λ (l : List Ask). ask Rewrite (Begin 1) ∷ l) (c.in_ok-rotate.ensures.ok ∙ ap (λ (l : List Ask). ask Append (Begin 1) ∷ l) c.requires))
    c.first.ensures.closed c.first.ensures.seq c.first.ensures.len c.first-2.ensures.closed c.first-2.ensures.seq c.first-2.ensures.len
    c.default.ensures c.in_ok-accessor.ensures.tables c.in_ok-accessor.ensures.cleaned

pub returns-in_err-rotate-clause-fault : goal.returns-in_err-rotate-clause-fault
returns-in_err-rotate-clause-fault g c =
    let p = err_from_is_err_and c.from_residual-in_err-rotate.result c.from_residual-in_err-rotate.ensures.1 in
    rw (p.1, p.2) (inr (inl (subst (λ (l : List Ask). g.F.EngineFiles.may_fail l (ask Append (Begin 1)) c.in_err-rotate.field-0.0) c.requires c.in_err-rotate.ensures.fault)))

pub returns-in_err-rotate-2-clause-fault : goal.returns-in_err-rotate-2-clause-fault
returns-in_err-rotate-2-clause-fault g c =
    let p = err_from_is_err_and c.from_residual-in_err-rotate-2.result c.from_residual-in_err-rotate-2.ensures.1 in
    rw (p.1, p.2) (inr (inr (subst (λ (l : List Ask). g.F.EngineFiles.may_fail l (ask Rewrite (Begin 1)) c.in_err-rotate-2.field-0.0)
    (c.in_ok-rotate.ensures.ok ∙ ap (λ (l : List Ask). ask Append (Begin 1) ∷ l) c.requires) c.in_err-rotate-2.ensures.fault)))
