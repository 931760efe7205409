use Rattle.raft_table.proofs.Facts.{sym, ◌∙◌, len-shown}
use Rattle.raft_table.proofs.memtable.key_values.KeyValues.len.Goals as goal

pub returns : goal.returns
returns c = c.len.ensures.len ∙ sym (len-shown c.self.inside _ c.self.invariant c.self.view_is)
