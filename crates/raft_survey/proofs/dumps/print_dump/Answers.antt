use Rattle.raft_survey.proofs.Common.{refl}
use Rattle.raft_survey.proofs.DumpLemmas.{dumped}
use Rattle.raft_survey.proofs.FaultLemmas.{io_or_memory}
use Rattle.raft_survey.proofs.dumps.print_dump.Goals as goal

pub returns-in-Ok-clause-ok : goal.returns-in-Ok-clause-ok
returns-in-Ok-clause-ok g c =
    dumped g.F.DumpForm.says g.W.Write.contents c.args.selection (g.S.ReadFiles.gives c.args.source.now) c.args.version c.args.sizes.now.append.items c.args.sizes.now.rewrite.items _ c.walk_files-walked.new.visitor refl refl c.in-Ok.ensures.ok

pub returns-clause-fault : goal.returns-clause-fault
returns-clause-fault g c = io_or_memory _ c.in-Err.ensures.fault
