use Rattle.raft_table.proofs.Facts.{ap, sym, ◌∙◌, removed, removed-without}
use Rattle.raft_table.proofs.MarkExact.{bytes_of}
use Rattle.raft_table.proofs.memtable.deleted_keys.remove_keys_from.Goals as goal

pub returns-clause-after : goal.returns-clause-after
returns-clause-after c =
    ap (λ es. removed (bytes_of es) c.loop-key.keys) (sym c.in-None.ensures.steps.0) ∙ c.loop-key.invariant.after ∙ removed-without (bytes_of c.args.deleted.now.entries) c.args.keys.now
