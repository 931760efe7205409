use Rattle.raft_contexts.proofs.RecoverContextLemmas.{one_reading}
use Rattle.raft_contexts.proofs.recover_context.MemTableRecoverContext.finish.Goals as goal

pub returns-clause-reading : goal.returns-clause-reading
returns-clause-reading c = rw (← c.self.view_is) (λ q h r u. one_reading q _ h r u)
