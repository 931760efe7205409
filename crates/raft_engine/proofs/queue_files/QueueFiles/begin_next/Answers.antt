use Rattle.raft_engine.proofs.Common.{err_from_is_err_and}
use Rattle.raft_engine.proofs.FaultLemmas.{first_of_two, second_of_two}
use Rattle.raft_engine.proofs.queue_files.QueueFiles.begin_next.Goals as goal

pub returns-in_err-sync-clause-fault : goal.returns-in_err-sync-clause-fault
returns-in_err-sync-clause-fault g c =
    let p = err_from_is_err_and c.from_residual.result c.from_residual.ensures.1 in
    rw (p.1, p.2) (first_of_two (g.F.EngineFiles.may_fail) _ _ _ _ _ c.in_err-sync.ensures.err c.in_err-sync.ensures.fault)

pub returns-in_err-rotate-clause-fault : goal.returns-in_err-rotate-clause-fault
returns-in_err-rotate-clause-fault g c =
    let p = err_from_is_err_and c.from_residual-in_err-rotate.result c.from_residual-in_err-rotate.ensures.1 in
    rw (p.1, p.2) (second_of_two (g.F.EngineFiles.may_fail) _ _ _ _ _ _ c.in_ok-sync.ensures.ok c.in_err-rotate.ensures.err c.in_err-rotate.ensures.fault)
