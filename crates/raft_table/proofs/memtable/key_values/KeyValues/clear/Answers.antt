use Rattle.raft_table.proofs.Facts.{refl, shown-none, sound-none}
use Rattle.raft_table.proofs.memtable.key_values.KeyValues.clear.Goals as goal

pub invariant_of-self : goal.invariant_of-self
invariant_of-self c = sound-none (record c.self.inside { pairs = c.clear.new.self; rewritten = 0 }) c.clear.ensures.empty c.clear.ensures.ordered refl

pub returns : goal.returns
returns c = shown-none (record c.self.inside { pairs = c.clear.new.self; rewritten = 0 }) c.clear.ensures.empty c.clear.ensures.ordered
