use Rattle.raft_recover.proofs.Common.{on_passed}
use Rattle.raft_recover.proofs.request.Request.parse.Goals as goal

pub returns-in_err-recovery-clause-memory : goal.returns-in_err-recovery-clause-memory
returns-in_err-recovery-clause-memory c =
    on_passed _ _ c.from_residual.ensures.1 (c.in_err-recovery.ensures.memory.0, λ nothing. nothing.no_recovery c.in_err-recovery.ensures.memory.1 c.in_err-recovery.ensures.memory.2)
