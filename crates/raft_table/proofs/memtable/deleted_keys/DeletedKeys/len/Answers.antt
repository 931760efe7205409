use Rattle.raft_table.proofs.Facts.{ap, arith, len-set_of}
use Rattle.std.specs.FinSet as finset
use Rattle.raft_table.proofs.memtable.deleted_keys.DeletedKeys.len.Goals as goal

pub returns : goal.returns
returns c = omega (arith, len-set_of c.self.inside.keys.entries c.self.invariant, ap finset.len c.self.view_is, c.len.ensures.len)
