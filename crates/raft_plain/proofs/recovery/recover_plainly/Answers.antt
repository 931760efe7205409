use Rattle.raft_plain.proofs.Common.{sym, ap, ◌∙◌, map, Append, Rewrite, region_step_shown, cleaned_by_steps, live_in_all, tables_shown}
use Rattle.raft_plain.proofs.RecoveryLemmas.{recovered}
use Rattle.raft_plain.proofs.recovery.recover_plainly.Goals as goal

pub returns-clause-ok : goal.returns-clause-ok
returns-clause-ok c =
    recovered c.args.queue _ c.in_ok-reading.reading c.recovered_with_counts.result c.in_ok-reading.ensures.ok c.recovered_with_counts.ensures.regions
    (ap (λ v. v.items) c.recovered_with_counts.ensures.cleaned ∙ c.in_ok-cleaned.ensures ∙ ap (λ l. cleaned_by_steps c.args.queue (map region_step_shown l)) c.as_slice.ensures.value)
    (c.recovered_with_counts.ensures.append ∙ ap (λ m. live_in_all Append (tables_shown m)) (sym c.recovered_with_counts.ensures.regions), c.recovered_with_counts.ensures.rewrite ∙ ap (λ m. live_in_all Rewrite (tables_shown m)) (sym c.recovered_with_counts.ensures.regions))
