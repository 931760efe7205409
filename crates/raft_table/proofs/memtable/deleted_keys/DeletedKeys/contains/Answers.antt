use Rattle.raft_table.proofs.Common.{ap, ◌∙◌, sym, nat_list_cmp_total}
use Rattle.raft_table.proofs.MarkExact.{bytes_of, found-among}
use Rattle.std.specs.FinSet as finset
use Rattle.raft_table.proofs.memtable.deleted_keys.DeletedKeys.contains.Goals as goal

pub returns : goal.returns
returns c =
    c.contains_key.ensures ∙ found-among c.args.key.now c.self.inside.keys.entries
    ∙ sym (finset.contains-from_list nat_list_cmp_total (bytes_of c.self.inside.keys.entries) c.args.key.now)
    ∙ ap (λ s. finset.contains s c.args.key.now) c.self.view_is
