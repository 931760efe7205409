use Rattle.raft_shared.proofs.SharedLemmas.{kept-none}
use Rattle.raft_shared.proofs.slot.Slot.new.Goals as goal

pub invariant_of-result : goal.invariant_of-result
invariant_of-result c = kept-none (record { number = c.args.number; tables = c.new.result; stats = c.default.result; cleaned = c.new-2.result }) c.requires c.new.ensures c.default.ensures c.new-2.ensures.items
