use Rattle.raft_ffi.proofs.Common.{Sound, on_err, HasRead, IsStoodFor, stands_sound, fault_after}
use Rattle.raft_ffi.proofs.context_calls.replay_batches.Goals as goal

pub returns-clause-place : goal.returns-clause-place
returns-clause-place c = λ reading.
    on_err c.replay_bytes.result
    (λ e stops. fault_after (HasRead c.args.context.now) (HasRead c.args.context.now) (IsStoodFor HasRead) Sound _ e (λ h small read. read) (λ h taken. stands_sound taken.0.context h taken.1.stands) stops)
    c.replay_bytes.ensures.place
