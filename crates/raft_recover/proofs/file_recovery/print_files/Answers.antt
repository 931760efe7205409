use Rattle.raft_recover.proofs.Common.{on_passed, inl}
use Rattle.raft_recover.proofs.FileRecoveryLemmas.{files_printed, files_found, files_unprinted}
use Rattle.raft_recover.proofs.file_recovery.print_files.Goals as goal

pub returns-in_err-accessor-clause-fault : goal.returns-in_err-accessor-clause-fault
returns-in_err-accessor-clause-fault g c =
    on_passed _ _ c.from_residual.ensures.1 (λ not_memory. inl (c.in_err-accessor.ensures.fault not_memory))

pub returns-clause-ok : goal.returns-clause-ok
returns-clause-ok g c =
    files_printed (g.S.ReadFiles.gives c.args.source.now) c.args.queue c.args.version c.args.files.now c.in_ok-accessor.accessor c.in_ok-accessor.ensures.ok (g.W.Write.contents c.args.writer.now) _ c.print_recovered.result c.print_recovered.ensures.ok

pub returns-clause-silent : goal.returns-clause-silent
returns-clause-silent g c =
    files_found (g.S.ReadFiles.gives c.args.source.now) c.args.queue c.args.version c.args.files.now c.in_ok-accessor.accessor c.in_ok-accessor.ensures.ok (g.W.Write.contents c.args.writer.now) _ c.print_recovered.result _
    c.print_recovered.ensures.silent c.print_recovered.ensures.cut_short

pub returns-clause-fault : goal.returns-clause-fault
returns-clause-fault g c =
    files_unprinted (g.S.ReadFiles.gives c.args.source.now) c.args.queue c.args.version c.args.files.now c.in_ok-accessor.accessor c.in_ok-accessor.ensures.ok (g.W.Write.contents c.args.writer.now) _ (g.S.ReadFiles.may_fail c.args.source.now) c.print_recovered.result
    c.print_recovered.ensures.fault c.print_recovered.ensures.cut_short
