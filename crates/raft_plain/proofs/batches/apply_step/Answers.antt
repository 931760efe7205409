use Rattle.raft_plain.proofs.Common.{region_step_shown, on_passed, tables_shown}
use Rattle.raft_plain.proofs.StepLemmas.{step_done, step_refused}
use Rattle.raft_plain.proofs.batches.apply_step.Goals as goal

pub returns-clause-ok : goal.returns-clause-ok
returns-clause-ok c =
    step_done c.args.queue (tables_shown c.args.regions) (region_step_shown c.args.step.now) c.region_or_empty.result c.take_region-own.result.0 (c.region_or_empty.ensures c.args.step.now.region) c.take_region-own.ensures.own
    (tables_shown c.take_region-own.result.1) _ c.in_ok-new.new c.take_region-own.ensures.others (c.in_ok-new.ensures.ok c.args.step.now.region) c.in_ok-set_region.ensures.ok

pub returns-in_err-new-clause-refused : goal.returns-in_err-new-clause-refused
returns-in_err-new-clause-refused c =
    on_passed _ _ c.from_residual.ensures.1
    (λ not_memory. step_refused c.args.queue (tables_shown c.args.regions) (region_step_shown c.args.step.now) c.region_or_empty.result c.take_region-own.result.0 (c.region_or_empty.ensures c.args.step.now.region) c.take_region-own.ensures.own
    (c.in_err-new.ensures.refused not_memory c.args.step.now.region))
