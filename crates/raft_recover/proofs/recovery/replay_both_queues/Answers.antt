use Rattle.raft_recover.proofs.Common.{on_passed, inr}
use Rattle.raft_recover.proofs.recovery.replay_both_queues.Goals as goal

pub returns-in_err-appended-clause-place : goal.returns-in_err-appended-clause-place
returns-in_err-appended-clause-place g c =
    on_passed _ _ c.from_residual-in_err-appended.ensures.1 (λ not_memory. inr (c.in_err-appended.ensures not_memory))
