use Rattle.raft_engine.proofs.Common.{rules, ◌≤◌, ◌^◌, refl, IsWritableBatch}
use Rattle.raft_engine.proofs.GroupPutLemmas.{next_some, one_made}
use Rattle.raft_engine.proofs.group_puts.encode_batches.Goals as goal

pub loop-batch-preserved : goal.loop-batch-preserved
loop-batch-preserved c =
    let low : c.loop-batch.end ≤ 2 ^ 63 = search rules in
    let w : IsWritableBatch c.in-Some.batch = record {
      tiled = c.is_read_again.ensures.tiled;
      in_range = c.is_read_again.ensures.in_range;
      in_bytes = c.is_read_again.ensures.in_bytes;
      some = next_some c.args.batches.items c.args.offset c.loop-batch.made.items c.loop-batch.end c.loop-batch.batch-iterator.rest.items c.in-Some.batch c.next.new.self.rest.items c.in-Some.ensures.steps.0 c.loop-batch.invariant;
      short = c.in_ok-end.ensures.accepted;
    } in
    one_made c.args.batches.items c.args.offset c.loop-batch.made.items c.loop-batch.end c.loop-batch.batch-iterator.rest.items c.in-Some.batch c.next.new.self.rest.items
    c.in-Some.ensures.steps.0 c.loop-batch.invariant c.push.new.self.items c.finish_populate.new.self c.in_ok-end.field-0 _ c.in_ok-end.ensures.ok c.in_ok-push.ensures.items c.in_ok-end.ensures.len refl low w
