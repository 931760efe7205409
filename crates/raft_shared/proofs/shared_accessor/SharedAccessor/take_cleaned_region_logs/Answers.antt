use Rattle.raft_shared.proofs.Common.{subst, sym, ap, ◌∙◌, Batch, HasCleans}
use Rattle.raft_shared.proofs.SharedLemmas.{no_cleans, more_cleans}
use Rattle.raft_shared.proofs.shared_accessor.SharedAccessor.take_cleaned_region_logs.Goals as goal

pub loop-slot-init : goal.loop-slot-init
loop-slot-init g c = (c.requires, no_cleans c.args.logs.now)

pub loop-slot-preserved : goal.loop-slot-preserved
loop-slot-preserved g c =
    let moved = c.in_ok-take_cleaned_region_logs.ensures.logs in (
      ap (λ (b : Batch). b.stage) moved ∙ c.loop-slot.invariant.0,
      more_cleans c.args.logs.now c.loop-slot.logs c.take_cleaned_region_logs.new.logs _ c.loop-slot.invariant.1 moved,
    )

pub returns-in_err-take_cleaned_region_logs-clause-logs : goal.returns-in_err-take_cleaned_region_logs-clause-logs
returns-in_err-take_cleaned_region_logs-clause-logs g c = subst (HasCleans c.args.logs.now) (sym c.in_err-take_cleaned_region_logs.ensures.logs_err) c.loop-slot.invariant.1
