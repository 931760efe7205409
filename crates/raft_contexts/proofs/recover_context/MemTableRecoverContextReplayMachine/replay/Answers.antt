use Rattle.raft_contexts.proofs.Common.{event}
use Rattle.raft_contexts.proofs.RecoverContextLemmas.{on_ok, on_err, replay_stands, replay_exact, replay_unsound}
use Rattle.raft_contexts.proofs.recover_context.MemTableRecoverContextReplayMachine.replay.Goals as goal

pub returns-clause-stands : goal.returns-clause-stands
returns-clause-stands c = λ h small r. on_ok c.replay.result (λ t. replay_stands c.args.self.now c.replay.new.self h (event c.args.batch c.args.file_id) t r) c.replay.ensures.ok

pub returns-clause-exact : goal.returns-clause-exact
returns-clause-exact c = λ h small r. on_ok c.replay.result (λ t. replay_exact c.args.self.now c.replay.new.self h (event c.args.batch c.args.file_id) t r) c.replay.ensures.ok

pub returns-clause-refused : goal.returns-clause-refused
returns-clause-refused c = on_err c.replay.result (λ e f ne h small r. replay_unsound c.args.self.now h (event c.args.batch c.args.file_id) small r e ne f) c.replay.ensures.fault
