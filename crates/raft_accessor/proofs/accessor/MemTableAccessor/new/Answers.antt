use Rattle.raft_accessor.proofs.SlotLemmas.{kept-none, together-none}
use Rattle.raft_accessor.proofs.accessor.MemTableAccessor.new.Goals as goal

pub invariant_of-result : goal.invariant_of-result
invariant_of-result c = kept-none _ c.in_ok-empty_slots.ensures.ok c.default.ensures

pub returns-clause-tables : goal.returns-clause-tables
returns-clause-tables c = together-none _ 128 c.in_ok-empty_slots.ensures.ok
