use Rattle.raft_shared.proofs.Common.{table-counted}
use Rattle.raft_shared.proofs.SharedLemmas.{kept-by, slot-changed}
use Rattle.raft_shared.proofs.slot.Slot.change.Goals as goal

pub change-requires : goal.change-requires
change-requires c = table-counted c.self.inside.tables c.self.inside.stats c.args.id c.self.invariant.counted

pub invariant_of-self : goal.invariant_of-self
invariant_of-self c = kept-by c.change.new.stats c.args.id c.self.invariant c.self.view_is c.requires c.change.ensures.outcome.one c.change.ensures.outcome.recounted

pub returns-clause-changed : goal.returns-clause-changed
returns-clause-changed c = rw (← c.self.view_is) (slot-changed c.self.inside c.change.ensures.outcome)
