use Rattle.raft_accessor.proofs.Common.{◌<◌, refl, inl, inr, sym, ◌∙◌, arith, false≢true}
use Rattle.raft_accessor.proofs.AppendCheckLemmas.{hole_found, hole_refused_so, run_accepted, run_bare, run_fits}
use Rattle.raft_accessor.proofs.append_check.Extent.after_run.Goals as goal
use Rattle.raft_accessor.proofs.append_check.Extent.after_run.Goals.{then-end-eq0, else-end-eq0}

pub returns-then-not-is_consecutive-clause-fault : goal.returns-then-not-is_consecutive-clause-fault
returns-then-not-is_consecutive-clause-fault c = λ es place compression at placed.
    absurd (false≢true (sym c.if-not-is_consecutive.true ∙ c.is_consecutive.ensures.1 (run_bare place compression c.args.run.now placed)))

pub returns-then-end-start-clause-fault : goal.returns-then-end-start-clause-fault
returns-then-end-start-clause-fault c =
    hole_refused_so c.args.self c.args.run.now _ c.hole_error.result c.hole_error.ensures
    (hole_found c.args.self c.args.run.now c.in-Some.first.now c.in-Some.ensures.item.3.0 c.in-Some.ensures.item.1 c.if-start-self.false c.if-end-gt0.true c.if-end-start.true)

pub overflow_add-result : goal.overflow_add-result
overflow_add-result c = omega (arith, run_fits c.args.run.now c.in-Some.first.now c.in-Some.ensures.item.3.0 c.in-Some.ensures.item.1 (c.is_consecutive.ensures.0 c.if-not-is_consecutive.false))

pub returns-clause-ok : goal.returns-clause-ok
returns-clause-ok c =
    let no_hole : 0 < c.args.self.end → c.args.self.end < c.in-Some.first.now.index → ⊥ = λ z k. elim c.else-end-gt0.either [ inl p ↦ omega (arith, p.1, k) | inr q ↦ omega (arith, q, z) ] in
    run_accepted c.args.self _ c.args.run.now c.in-Some.first.now c.in-Some.ensures.item.3.0 c.in-Some.ensures.item.1 (c.is_consecutive.ensures.0 c.if-not-is_consecutive.false) c.if-start-self.false no_hole
    (λ z. elim c.if-end-eq0.branch [ then-end-eq0 w ↦ w.result-is | else-end-eq0 w ↦ absurd (w.if-end-eq0.false z) ])
    (λ z. elim c.if-end-eq0.branch [ then-end-eq0 w ↦ absurd (omega (arith, z, w.if-end-eq0.true)) | else-end-eq0 w ↦ w.result-is ])
    refl
