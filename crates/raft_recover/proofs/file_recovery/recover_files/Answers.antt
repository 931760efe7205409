use Rattle.raft_recover.proofs.Common.{on_passed, inl, ◌≢◌, Sound, IsQueueStop}
use Rattle.raft_base.specs.declared.errors.Error.TheVariants.{Memory}
use Rattle.raft_recover.proofs.FileRecoveryLemmas.{files_recovered, few_files, full_files, stop_sound}
use Rattle.raft_recover.proofs.file_recovery.recover_files.Goals as goal

pub returns-clause-ok : goal.returns-clause-ok
returns-clause-ok g c =
    files_recovered (g.S.ReadFiles.gives c.args.source.now) c.args.queue c.args.version c.args.files.now c.in_ok-context.context c.in_ok-context.ensures.ok c.finish.result c.finish.ensures.reading c.finish.ensures.exact_counts

pub returns-clause-place : goal.returns-clause-place
returns-clause-place g c few =
    few_files (g.S.ReadFiles.gives c.args.source.now) c.args.queue c.args.version c.args.files.now c.in_ok-context.context c.in_ok-context.ensures.ok c.finish.result
    (λ e. e ≢ Memory → IsQueueStop (g.S.ReadFiles.gives c.args.source.now) (g.S.ReadFiles.may_fail c.args.source.now) c.args.queue c.args.version c.args.files.now Sound e) few c.finish.ensures.failed

pub returns-in_err-context-clause-place : goal.returns-in_err-context-clause-place
returns-in_err-context-clause-place g c few =
    on_passed _ _ c.from_residual.ensures.1
    (λ not_memory. stop_sound (g.S.ReadFiles.gives c.args.source.now) c.args.queue c.args.version c.args.files.now (g.S.ReadFiles.may_fail c.args.source.now) c.in_err-context.field-0.0
    (c.in_err-context.ensures.fault not_memory (λ own. own)))

pub returns-clause-fault : goal.returns-clause-fault
returns-clause-fault g c =
    full_files (g.S.ReadFiles.gives c.args.source.now) c.args.queue c.args.version c.args.files.now c.in_ok-context.context c.in_ok-context.ensures.ok (g.S.ReadFiles.may_fail c.args.source.now) c.finish.result c.finish.ensures.failed

pub returns-in_err-context-clause-fault : goal.returns-in_err-context-clause-fault
returns-in_err-context-clause-fault g c =
    on_passed _ _ c.from_residual.ensures.1
    (λ not_memory. inl (stop_sound (g.S.ReadFiles.gives c.args.source.now) c.args.queue c.args.version c.args.files.now (g.S.ReadFiles.may_fail c.args.source.now) c.in_err-context.field-0.0
    (c.in_err-context.ensures.fault not_memory (λ own. own))))
