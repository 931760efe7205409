use Rattle.raft_shared.proofs.Common.{table-counted}
use Rattle.raft_shared.proofs.SharedLemmas.{kept-by, slot-changed}
use Rattle.raft_shared.proofs.slot.Slot.apply_rewrite_atomic_group.Goals as goal

pub apply_rewrite_atomic_group-requires-clause-counted : goal.apply_rewrite_atomic_group-requires-clause-counted
apply_rewrite_atomic_group-requires-clause-counted c = table-counted c.self.inside.tables c.self.inside.stats c.args.id c.self.invariant.counted

pub invariant_of-self : goal.invariant_of-self
invariant_of-self c = kept-by c.apply_rewrite_atomic_group.new.stats c.args.id c.self.invariant c.self.view_is c.requires.slot c.apply_rewrite_atomic_group.ensures.outcome.one c.apply_rewrite_atomic_group.ensures.outcome.recounted

pub returns-clause-changed : goal.returns-clause-changed
returns-clause-changed c = rw (← c.self.view_is) (slot-changed c.self.inside c.apply_rewrite_atomic_group.ensures.outcome)
