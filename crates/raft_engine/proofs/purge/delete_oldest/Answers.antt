use Rattle.raft_engine.proofs.Common.{rules, ◌<◌, err_from_is_err_and}
use Rattle.raft_engine.proofs.FaultLemmas.{deletion_fails}
use Rattle.raft_engine.proofs.purge.delete_oldest.Goals as goal

pub returns-in_err-delete_oldest-clause-fault : goal.returns-in_err-delete_oldest-clause-fault
returns-in_err-delete_oldest-clause-fault g c =
    let p = err_from_is_err_and c.from_residual.result c.from_residual.ensures.1 in
    let low : c.loop.counter < c.args.count = search rules in
    rw (p.1, p.2) (deletion_fails (g.F.EngineFiles.may_fail) c.args.queue c.loop.counter c.args.count low (g.F.EngineFiles.asked c.loop.files)
    (g.F.EngineFiles.asked c.args.files.now) (g.F.EngineFiles.asked c.delete_oldest.new.self) c.in_err-delete_oldest.field-0.0
    c.loop.invariant c.in_err-delete_oldest.ensures.err c.in_err-delete_oldest.ensures.fault)
