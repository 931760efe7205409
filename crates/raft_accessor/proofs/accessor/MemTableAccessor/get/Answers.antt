use Rattle.std.proofs.Common.{sym, ◌∙◌}
use Rattle.raft_accessor.proofs.SlotLemmas.{get-shown}
use Rattle.raft_accessor.proofs.accessor.MemTableAccessor.get.Goals as goal

pub returns-clause-value : goal.returns-clause-value
returns-clause-value c = c.get.ensures.value ∙ sym (get-shown c.self.inside c.args.self.now c.args.id c.slot_of.result c.index.result.now c.self.invariant c.self.view_is c.slot_of.ensures.value c.slot_of.ensures.bound c.index.ensures)
