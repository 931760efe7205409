use Rattle.raft_records.proofs.Common.{None, refl, pair_item, Del}
use Rattle.raft_records.proofs.StageLemmas.{item_held, item_view}
use Rattle.raft_records.proofs.log_batch.LogBatch.delete.Goals as goal

pub invariant_of-self : goal.invariant_of-self
invariant_of-self c =
    item_held c.delete.result (pair_item c.args.region Del c.args.key.items None) (λ s. refl) c.self.view_is c.requires c.self.invariant c.delete.ensures.ok c.delete.ensures.err

pub returns-clause-ok : goal.returns-clause-ok
returns-clause-ok c =
    item_view c.delete.new.self c.self.inside.buf.items c.delete.result (pair_item c.args.region Del c.args.key.items None) (λ s. refl) c.self.view_is c.delete.ensures.ok
