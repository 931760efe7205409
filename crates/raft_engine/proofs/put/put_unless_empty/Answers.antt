use Rattle.raft_engine.proofs.Common.{rules, ◌≢◌, []}
use Rattle.raft_engine.proofs.FaultLemmas.{put_so}
use Rattle.raft_engine.proofs.put.put_unless_empty.Goals as goal

pub returns-clause-fault : goal.returns-clause-fault
returns-clause-fault g c =
    let some : c.args.batch.now.items ≢ [] = search rules in
    put_so (g.F.EngineFiles.may_fail) c.try_put.result c.args.file.now c.args.batch.now (g.F.EngineFiles.asked c.args.files.now) (g.F.EngineFiles.asked c.try_put.new.files) some c.try_put.ensures.err c.try_put.ensures.fault
