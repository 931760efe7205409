use Rattle.raft_table.proofs.Facts.{ap, ◌∙◌, on_ok_weaker, union-swap}
use Rattle.std.specs.FinSet as finset
use Rattle.raft_table.proofs.memtable.deleted_keys.DeletedKeys.absorb.Goals as goal

pub returns-then-len-clause-ok : goal.returns-then-len-clause-ok
returns-then-len-clause-ok c =
    on_ok_weaker c.move_each_from.result (λ h. h ∙ ap (λ s. finset.union s c.swap.new.y) c.swap.ensures.x_after ∙ ap (finset.union c.args.rhs.now) c.swap.ensures.y_after
    ∙ union-swap c.args.rhs.now c.args.self.now) c.move_each_from.ensures.ok
