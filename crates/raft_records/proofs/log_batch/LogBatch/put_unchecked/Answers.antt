use Rattle.raft_records.proofs.Common.{Some, refl, pair_item, Put}
use Rattle.raft_records.proofs.StageLemmas.{item_held, item_view}
use Rattle.raft_records.proofs.log_batch.LogBatch.put_unchecked.Goals as goal

pub invariant_of-self : goal.invariant_of-self
invariant_of-self c =
    item_held c.put.result (pair_item c.args.region Put c.args.key.items (Some c.args.value.items)) (λ s. refl) c.self.view_is c.requires c.self.invariant c.put.ensures.ok c.put.ensures.err

pub returns-clause-ok : goal.returns-clause-ok
returns-clause-ok c =
    item_view c.put.new.self c.self.inside.buf.items c.put.result (pair_item c.args.region Put c.args.key.items (Some c.args.value.items)) (λ s. refl) c.self.view_is c.put.ensures.ok
