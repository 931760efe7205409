use Rattle.raft_plain.proofs.Common.{inl, inr, sym, ap, subst, ◌∙◌, map, Append, Rewrite, region_step_shown, cleaned_by_steps, live_in_all, on_passed, AreOverlaid, tables_shown}
use Rattle.raft_plain.proofs.RecoveryLemmas.{both_recovered}
use Rattle.raft_plain.proofs.recovery.recover_both_plainly.Goals as goal

pub returns-clause-ok : goal.returns-clause-ok
returns-clause-ok c =
    both_recovered _ _ c.in_ok-older.older c.in_ok-newer.newer c.recovered_with_counts.result c.in_ok-older.older.ordered c.in_ok-older.ensures.ok c.in_ok-newer.ensures.ok
    (subst (λ m. AreOverlaid (map region_step_shown c.in_ok-newer.newer.steps.items) (tables_shown c.in_ok-newer.newer.regions) (tables_shown c.in_ok-older.older.regions) (tables_shown m)) (sym c.recovered_with_counts.ensures.regions)
    (subst (λ l. AreOverlaid (map region_step_shown l) (tables_shown c.in_ok-newer.newer.regions) (tables_shown c.in_ok-older.older.regions) (tables_shown c.in_ok-regions.regions)) c.as_slice.ensures.value c.in_ok-regions.ensures))
    (ap (λ v. v.items) c.recovered_with_counts.ensures.cleaned ∙ c.in_ok-cleaned.ensures ∙ ap (λ l. cleaned_by_steps Append (map region_step_shown l)) c.as_slice-2.ensures.value)
    (c.recovered_with_counts.ensures.append ∙ ap (λ m. live_in_all Append (tables_shown m)) (sym c.recovered_with_counts.ensures.regions), c.recovered_with_counts.ensures.rewrite ∙ ap (λ m. live_in_all Rewrite (tables_shown m)) (sym c.recovered_with_counts.ensures.regions))

pub returns-in_err-older-clause-place : goal.returns-in_err-older-clause-place
returns-in_err-older-clause-place c all = on_passed _ _ c.from_residual-in_err-older.ensures.1 (λ not_memory. inl (c.in_err-older.ensures.place not_memory))

pub returns-in_err-older-clause-refused : goal.returns-in_err-older-clause-refused
returns-in_err-older-clause-refused c all = on_passed _ _ c.from_residual-in_err-older.ensures.1 (λ not_memory. inl (c.in_err-older.ensures.refused not_memory))

pub returns-in_err-newer-clause-place : goal.returns-in_err-newer-clause-place
returns-in_err-newer-clause-place c all = on_passed _ _ c.from_residual-in_err-newer.ensures.1 (λ not_memory. inr (c.in_err-newer.ensures.place not_memory))

pub returns-in_err-newer-clause-refused : goal.returns-in_err-newer-clause-refused
returns-in_err-newer-clause-refused c all = on_passed _ _ c.from_residual-in_err-newer.ensures.1 (λ not_memory. inr (c.in_err-newer.ensures.refused not_memory))
