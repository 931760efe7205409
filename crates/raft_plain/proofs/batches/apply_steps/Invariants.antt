use Rattle.raft_plain.proofs.Common.{◌≡◌, drop, IsOrdered, nat_cmp, map, region_step_shown, tables_after, tables_shown}
use Rattle.raft_plain.proofs.batches.apply_steps.Given as goal

abbrev pub invariant-loop-step : goal.invariant-loop-step
invariant-loop-step l = record {
  ordered : IsOrdered nat_cmp l.regions;
  same : tables_after l.queue (tables_shown l.fn.regions) (map region_step_shown l.steps) ≡ tables_after l.queue (tables_shown l.regions) (map region_step_shown (drop l.step-index l.steps));
}
