use Rattle.raft_table.proofs.Facts.{fetched-shown}
use Rattle.raft_table.proofs.memtable.key_values.KeyValues.fetch.Goals as goal

pub returns-else-is_err-clause-ok : goal.returns-else-is_err-clause-ok
returns-else-is_err-clause-ok c =
    rw (fetched-shown c.self.inside c.args.self.now c.args.queue c.args.gate c.self.invariant c.self.view_is) c.push_copied_pairs-pushed.ensures.ok
