use Rattle.raft_table.proofs.Facts.{none-shown}
use Rattle.raft_table.proofs.memtable.key_values.KeyValues.is_empty.Goals as goal

pub returns : goal.returns
returns c = none-shown c.self.inside _ _ c.self.invariant c.self.view_is c.is_empty.ensures
