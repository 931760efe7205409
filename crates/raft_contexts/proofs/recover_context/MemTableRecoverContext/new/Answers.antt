use Rattle.raft_contexts.proofs.Common.{sym, subst, IsOfHistory}
use Rattle.raft_contexts.proofs.RecoverContextLemmas.{new_read, new_reads_as}
use Rattle.raft_contexts.proofs.recover_context.MemTableRecoverContext.new.Goals as goal

pub invariant_of-result : goal.invariant_of-result
invariant_of-result c = record { read = λ _. subst IsOfHistory (sym c.in_ok-new.ensures.ok) new_read }

pub returns-clause-exact : goal.returns-clause-exact
returns-clause-exact c = new_reads_as _ _ c.in_ok-new.ensures.ok
