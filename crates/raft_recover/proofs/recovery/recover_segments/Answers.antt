use Rattle.raft_recover.proofs.Common.{on_passed, ◌≢◌, Sound, parts_within, IsNothing, StopsAmong}
use Rattle.raft_base.specs.declared.errors.Error.TheVariants.{Memory}
use Rattle.raft_recover.proofs.RecoveryLemmas.{recovered, unfinished, finished_few}
use Rattle.raft_recover.proofs.TurnLemmas.{segments_refused}
use Rattle.raft_recover.proofs.recovery.recover_segments.Goals as goal

pub returns-clause-ok : goal.returns-clause-ok
returns-clause-ok g c =
    recovered c.args.queue c.args.segments.now c.in_ok-check_arguments.ensures.ok.3 c.in_ok-context.context c.in_ok-context.ensures c.finish.result c.finish.ensures.reading c.finish.ensures.exact_counts

pub returns-clause-refused : goal.returns-clause-refused
returns-clause-refused g c good =
    unfinished c.args.queue c.args.segments.now good.3 c.in_ok-context.context c.in_ok-context.ensures c.finish.result c.finish.ensures.failed

pub returns-clause-place : goal.returns-clause-place
returns-clause-place g c good few =
    finished_few c.args.queue c.args.segments.now good.3 c.in_ok-context.context c.in_ok-context.ensures c.finish.result (λ e. e ≢ Memory → StopsAmong IsNothing Sound (parts_within c.args.segments.now) e) few c.finish.ensures.failed

pub returns-in_err-context-clause-refused : goal.returns-in_err-context-clause-refused
returns-in_err-context-clause-refused g c good =
    on_passed _ _ c.from_residual-in_err-context.ensures.1 (segments_refused c.args.segments.now c.in_err-context.field-0.0 c.in_err-context.ensures)

pub returns-in_err-context-clause-place : goal.returns-in_err-context-clause-place
returns-in_err-context-clause-place g c good few =
    on_passed _ _ c.from_residual-in_err-context.ensures.1 c.in_err-context.ensures
