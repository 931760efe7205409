use Rattle.raft_table.proofs.Facts.{get-shown}
use Rattle.raft_table.proofs.memtable.key_values.KeyValues.file_of.Goals as goal

pub returns-in_err-get : goal.returns-in_err-get
returns-in_err-get c = rw (c.from_residual.ensures, get-shown c.self.inside c.args.self.now c.args.key.now c.self.invariant c.self.view_is, ← c.get.ensures.value, c.in_err-get.was)

pub returns : goal.returns
returns c = rw (get-shown c.self.inside c.args.self.now c.args.key.now c.self.invariant c.self.view_is, ← c.get.ensures.value, c.in_ok-get.was)
