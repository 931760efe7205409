use Rattle.raft_engine.proofs.Common.{rules, ◌≡◌, true}
use Rattle.raft_engine.proofs.FaultLemmas.{sync_so}
use Rattle.raft_engine.proofs.put.sync_append_if.Goals as goal

pub returns-then-sync-clause-fault : goal.returns-then-sync-clause-fault
returns-then-sync-clause-fault g c =
    let wanted : c.args.sync ≡ true = search rules in
    sync_so (g.F.EngineFiles.may_fail) c.sync.result c.args.sync (g.F.EngineFiles.asked c.args.files.now) (g.F.EngineFiles.asked c.sync.new.self) wanted c.sync.ensures.err c.sync.ensures.fault
