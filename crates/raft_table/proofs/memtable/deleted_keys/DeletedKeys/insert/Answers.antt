use Rattle.raft_table.proofs.Facts.{ap, ◌∙◌, set_of, set_of-insert_entry}
use Rattle.std.specs.FinSet as finset
use Rattle.raft_table.proofs.memtable.deleted_keys.DeletedKeys.insert.Goals as goal

pub returns-clause-ok : goal.returns-clause-ok
returns-clause-ok c = ap set_of c.in_ok-insert.ensures.entries ∙ set_of-insert_entry c.args.key c.self.inside.keys.entries ∙ ap (λ s. finset.insert s c.args.key.items) c.self.view_is
