use Rattle.raft_table.proofs.Facts.{refl, shown-none, sound-none}
use Rattle.raft_table.proofs.memtable.key_values.KeyValues.new.Goals as goal

pub invariant_of-result : goal.invariant_of-result
invariant_of-result c = sound-none _ c.new.ensures.empty c.new.ensures.ordered refl

pub returns : goal.returns
returns c = shown-none (record { pairs = c.new.result; rewritten = 0; alloc = c.args.alloc }) c.new.ensures.empty c.new.ensures.ordered
