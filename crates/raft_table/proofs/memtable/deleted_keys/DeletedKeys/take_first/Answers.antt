use Rattle.raft_table.proofs.Facts.{ap, length, arith, len-set_of}
use Rattle.std.specs.FinSet as finset
use Rattle.raft_table.proofs.memtable.deleted_keys.DeletedKeys.take_first.Goals as goal

pub returns-clause-fewer : goal.returns-clause-fewer
returns-clause-fewer c =
    omega (arith, len-set_of c.self.inside.keys.entries c.self.invariant, len-set_of c.pop_first.new.self.entries c.pop_first.ensures.ordered, ap finset.len c.self.view_is, ap length c.in_ok-key.ensures.removal)
