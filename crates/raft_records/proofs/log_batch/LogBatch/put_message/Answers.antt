use Rattle.raft_records.proofs.Common.{Some, refl, pair_item, Put}
use Rattle.raft_records.proofs.StageLemmas.{item_held, item_view}
use Rattle.raft_records.proofs.log_batch.LogBatch.put_message.Goals as goal

pub invariant_of-self : goal.invariant_of-self
invariant_of-self g c =
    let item = pair_item c.args.region Put c.args.key.items (Some (g.S.Message.bytes_of c.args.message.now)) in
    item_held c.put_message.result item (λ s. refl) c.self.view_is c.requires c.self.invariant c.put_message.ensures.ok c.put_message.ensures.err

pub returns-clause-ok : goal.returns-clause-ok
returns-clause-ok g c =
    let item = pair_item c.args.region Put c.args.key.items (Some (g.S.Message.bytes_of c.args.message.now)) in
    item_view c.put_message.new.self c.self.inside.buf.items c.put_message.result item (λ s. refl) c.self.view_is c.put_message.ensures.ok
