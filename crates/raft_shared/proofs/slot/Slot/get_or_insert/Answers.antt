use Rattle.raft_shared.proofs.Common.{table-counted}
use Rattle.raft_shared.proofs.SharedLemmas.{kept-by, slot-changed}
use Rattle.raft_shared.proofs.slot.Slot.get_or_insert.Goals as goal

pub make_if_missing-requires : goal.make_if_missing-requires
make_if_missing-requires c = table-counted c.self.inside.tables c.self.inside.stats c.args.id c.self.invariant.counted

pub invariant_of-self : goal.invariant_of-self
invariant_of-self c = kept-by c.make_if_missing.new.stats c.args.id c.self.invariant c.self.view_is c.requires c.make_if_missing.ensures.outcome.one c.make_if_missing.ensures.outcome.recounted

pub returns-clause-made : goal.returns-clause-made
returns-clause-made c = rw (← c.self.view_is) (slot-changed c.self.inside c.make_if_missing.ensures.outcome)
