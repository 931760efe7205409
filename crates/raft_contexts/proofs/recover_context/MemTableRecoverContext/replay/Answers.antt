use Rattle.raft_contexts.proofs.Common.{err_from_is_err_and, event, refl}
use Rattle.raft_contexts.proofs.ContextShownLemmas.{batch_taken, batch_refused}
use Rattle.raft_contexts.proofs.recover_context.MemTableRecoverContext.replay.Goals as goal

pub returns-in_err-replay-clause-fault : goal.returns-in_err-replay-clause-fault
returns-in_err-replay-clause-fault c =
    let p = err_from_is_err_and c.from_residual-in_err-replay.result c.from_residual-in_err-replay.ensures.1 in
    rw (p.1, p.2) (batch_refused c.self.inside c.args.self.now (event c.args.batch c.args.file_id) _ c.self.view_is c.in_ok-begin.ensures.ok.0 c.in_err-replay.ensures.fault)

pub returns-clause-ok : goal.returns-clause-ok
returns-clause-ok c = batch_taken c.self.inside c.args.self.now _ (event c.args.batch c.args.file_id) c.self.view_is c.in_ok-begin.ensures.ok.0 c.in_ok-replay.ensures.next c.in_ok-replay.ensures.taken refl
