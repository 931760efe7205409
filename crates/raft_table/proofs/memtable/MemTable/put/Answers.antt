use Rattle.raft_table.proofs.Facts.{arith, sym, ◌∙◌, pair_counted}
use Rattle.raft_table.proofs.memtable.MemTable.put.Goals as goal

pub delete-requires : goal.delete-requires
delete-requires c =
    let a = pair_counted c.self.inside.keys c.args.key.items c.in-Some.replaced (sym c.in-Some.is ∙ c.in_ok-replaced.ensures.replaced) in
    omega (arith, rw (← c.self.view_is) at (c.requires c.in-Some.replaced.queue))
