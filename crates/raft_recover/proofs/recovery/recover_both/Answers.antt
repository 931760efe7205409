use Rattle.raft_recover.proofs.Common.{on_passed, ◌⊎◌, inl, inr, Err, Sound, parts_within, IsNothing, StopsAmong}
use Rattle.raft_recover.proofs.RecoveryLemmas.{both_merged, both_merged_few, both_recovered, both_whole}
use Rattle.raft_recover.proofs.TurnLemmas.{segments_refused}
use Rattle.raft_recover.proofs.recovery.recover_both.Goals as goal

pub returns-clause-ok : goal.returns-clause-ok
returns-clause-ok g c =
    both_recovered c.args.rewrite.now c.args.append.now c.in_ok-both.ensures.accepted.0.3 c.in_ok-both.ensures.accepted.1.3 c.in_ok-both.both c.in_ok-both.appended c.in_ok-both.ensures.rewritten c.in_ok-both.ensures.appended
    c.merge_append_context.new.self c.in_ok-merge_append_context.ensures.exact c.finish.result c.finish.ensures.overlaid c.finish.ensures.exact_counts

pub returns-clause-whole : goal.returns-clause-whole
returns-clause-whole g c =
    both_whole c.args.rewrite.now c.args.append.now c.finish.result
    (both_recovered c.args.rewrite.now c.args.append.now c.in_ok-both.ensures.accepted.0.3 c.in_ok-both.ensures.accepted.1.3 c.in_ok-both.both c.in_ok-both.appended c.in_ok-both.ensures.rewritten c.in_ok-both.ensures.appended
    c.merge_append_context.new.self c.in_ok-merge_append_context.ensures.exact c.finish.result c.finish.ensures.overlaid c.finish.ensures.exact_counts)

pub returns-in_err-merge_append_context-clause-refused : goal.returns-in_err-merge_append_context-clause-refused
returns-in_err-merge_append_context-clause-refused g c good =
    on_passed _ _ c.from_residual-in_err-merge_append_context.ensures.1 (both_merged c.args.rewrite.now c.args.append.now good.0.3 good.1.3 c.in_ok-both.both c.in_ok-both.appended
    c.in_ok-both.ensures.rewritten c.in_ok-both.ensures.appended (Err c.in_err-merge_append_context.field-0.0)
    c.in_err-merge_append_context.ensures.memory)

pub returns-in_err-merge_append_context-clause-place : goal.returns-in_err-merge_append_context-clause-place
returns-in_err-merge_append_context-clause-place g c good few_rewrite few_append =
    on_passed _ _ c.from_residual-in_err-merge_append_context.ensures.1
    (both_merged_few c.args.rewrite.now c.args.append.now good.0.3 good.1.3 c.in_ok-both.both c.in_ok-both.appended c.in_ok-both.ensures.rewritten c.in_ok-both.ensures.appended (Err c.in_err-merge_append_context.field-0.0)
    (λ e. StopsAmong IsNothing Sound (parts_within c.args.rewrite.now) e ⊎ StopsAmong IsNothing Sound (parts_within c.args.append.now) e) few_rewrite few_append c.in_err-merge_append_context.ensures.memory)

pub returns-in_err-both-clause-refused : goal.returns-in_err-both-clause-refused
returns-in_err-both-clause-refused g c good =
    on_passed _ _ c.from_residual.ensures.1
    (λ not_memory. elim (c.in_err-both.ensures.place good not_memory) [
      | inl stops ↦ inl (segments_refused c.args.rewrite.now c.in_err-both.field-0.0 (λ _. stops) not_memory)
      | inr stops ↦ inr (segments_refused c.args.append.now c.in_err-both.field-0.0 (λ _. stops) not_memory)
    ])

pub returns-in_err-both-clause-place : goal.returns-in_err-both-clause-place
returns-in_err-both-clause-place g c good few_rewrite few_append = on_passed _ _ c.from_residual.ensures.1 (c.in_err-both.ensures.place good)

pub returns-in_err-both-clause-fault : goal.returns-in_err-both-clause-fault
returns-in_err-both-clause-fault g c bad = on_passed _ _ c.from_residual.ensures.1 (c.in_err-both.ensures.fault bad)
