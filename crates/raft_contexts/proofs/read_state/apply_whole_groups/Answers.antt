use Rattle.raft_contexts.proofs.Common.{◌≡◌, List, [], ◌∷◌, Some, option_and_then, MarkedRegions, WholeGroup, map, sym, ap, subst, ◌∙◌, arith, err_from_is_err_and, AllByRecursion, regions_after, region_steps_of_wholes, regions_in}
use Rattle.raft_contexts.proofs.Common.{IsStepsFault, CanTakeEffect, region_steps_of_whole, whole_in_queue, whole_shown, Rewrite}
use Rattle.raft_contexts.proofs.TakenLemmas.{after-append, fault-behind, fault-front}
use Rattle.raft_contexts.proofs.read_state.apply_whole_groups.Goals as goal

no_cons : {X : Type 0} {x : X} {xs : List X} → x ∷ xs ≡ [] → ⊥
no_cons e = cc

more_taken : (rs new : MarkedRegions) (w : WholeGroup) (ws : List WholeGroup) → regions_after Rewrite rs (region_steps_of_whole w) ≡ Some new
    → regions_after Rewrite rs (region_steps_of_wholes (w ∷ ws)) ≡ regions_after Rewrite new (region_steps_of_wholes ws)
more_taken rs new w ws e = after-append Rewrite rs (region_steps_of_whole w) (region_steps_of_wholes ws) ∙ ap (option_and_then (λ n. regions_after Rewrite n (region_steps_of_wholes ws))) e

pub loop-whole-preserved : goal.loop-whole-preserved
loop-whole-preserved c =
    let at = c.loop-whole.invariant in
    let next = ap (map whole_shown) c.in-Some.ensures.steps.0 in
    let rest = map whole_shown c.next.new.self.rest.items in (
      (subst (AllByRecursion CanTakeEffect) next at.0).1,
      sym (ap (λ ws. regions_after Rewrite (regions_in c.loop-whole.regions) (region_steps_of_wholes ws)) next
          ∙ more_taken (regions_in c.loop-whole.regions) (regions_in c.apply_group.new.self) (whole_shown c.in-Some.whole) rest
          c.in_ok-apply_group.ensures.ok) ∙ at.1,
      c.in_ok-apply_group.ensures.cleaned ∙ at.2,
      omega (arith, c.in_ok-apply_group.ensures.other, at.3),
      λ e f. at.4 e (subst (λ ws. IsStepsFault Rewrite (regions_in c.loop-whole.regions) (region_steps_of_wholes ws) e) (sym next)
          (fault-behind Rewrite (regions_in c.loop-whole.regions) (regions_in c.apply_group.new.self) (region_steps_of_whole (whole_shown c.in-Some.whole)) (region_steps_of_wholes rest) e
          (whole_in_queue Rewrite (whole_shown c.in-Some.whole) (subst (AllByRecursion CanTakeEffect) next at.0).0.steps) c.in_ok-apply_group.ensures.ok f)),
      λ none. absurd (no_cons (sym next ∙ at.5 none)),
    )

pub returns-in_err-apply_group-clause-wholes : goal.returns-in_err-apply_group-clause-wholes
returns-in_err-apply_group-clause-wholes c =
    let next = ap (map whole_shown) c.in-Some.ensures.steps.0 in
    let p = err_from_is_err_and c.from_residual.result c.from_residual.ensures.1 in
    rw (p.1, p.2) record {
      taken = tt;
      cleaned = tt;
      fault = c.loop-whole.invariant.4 _ (subst (λ ws. IsStepsFault Rewrite (regions_in c.loop-whole.regions) (region_steps_of_wholes ws) c.in_err-apply_group.field-0.0) (sym next)
          (fault-front Rewrite (regions_in c.loop-whole.regions) (region_steps_of_whole (whole_shown c.in-Some.whole)) (region_steps_of_wholes (map whole_shown c.next.new.self.rest.items)) _ c.in_err-apply_group.ensures.fault));
      other = tt;
    }

pub returns-in_err-apply_group-clause-none : goal.returns-in_err-apply_group-clause-none
returns-in_err-apply_group-clause-none c =
    let next = ap (map whole_shown) c.in-Some.ensures.steps.0 in
    let p = err_from_is_err_and c.from_residual.result c.from_residual.ensures.1 in
    rw (p.1) (λ none. no_cons (sym next ∙ c.loop-whole.invariant.5 none))
