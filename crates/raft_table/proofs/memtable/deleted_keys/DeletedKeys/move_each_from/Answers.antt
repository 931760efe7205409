use Rattle.raft_table.proofs.Facts.{ap, sym, ◌∙◌, union-insert, union_empty}
use Rattle.std.specs.FinSet as finset
use Rattle.raft_table.proofs.memtable.deleted_keys.DeletedKeys.move_each_from.Goals as goal

pub loop-key-preserved : goal.loop-key-preserved
loop-key-preserved c =
    ap (λ s. finset.union s c.take_first.new.self) c.in_ok-insert.ensures.ok
    ∙ union-insert c.loop-key.self c.take_first.new.self c.in-Some.key.items
    ∙ ap (finset.union c.loop-key.self) (sym c.in-Some.ensures.first) ∙ c.loop-key.invariant

pub returns-clause-ok : goal.returns-clause-ok
returns-clause-ok c = sym (union_empty c.loop-key.self) ∙ ap (finset.union c.loop-key.self) (sym c.in_default.ensures.none.0) ∙ c.loop-key.invariant
