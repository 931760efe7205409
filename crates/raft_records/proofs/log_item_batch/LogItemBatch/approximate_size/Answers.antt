use Rattle.raft_records.proofs.Common.{ap, subst, arith, FitTogether, items_size}
use Rattle.raft_records.proofs.LengthLemmas.{size_covers}
use Rattle.raft_records.proofs.log_item_batch.LogItemBatch.approximate_size.Goals as goal

pub returns-clause-covers : goal.returns-clause-covers
returns-clause-covers c small lt =
    let covers = size_covers c.args.self.now (subst (FitTogether 0) c.self.view_is c.self.invariant.0.fit) small lt in
    omega (arith, covers, c.saturating_add.ensures, c.self.invariant.0.size, ap items_size c.self.view_is)
