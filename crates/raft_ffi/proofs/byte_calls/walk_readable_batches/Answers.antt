use Rattle.raft_ffi.proofs.Common.{part_of, batch_inside, one_batch_more}
use Rattle.raft_ffi.proofs.byte_calls.walk_readable_batches.Goals as goal

pub loop-next-preserved-in-Ok-Some : goal.loop-next-preserved-in-Ok-Some
loop-next-preserved-in-Ok-Some c =
    let part = part_of c.args.file.now c.args.offset c.args.bytes.now in
    let stands = rw c.in-Ok-Some.field-0-is at c.in-Ok-Some.ensures.ok in
    record {
      inside = (batch_inside part c.loop-next.at _ c.in-Ok-Some.next stands).1;
      up_to = one_batch_more part c.loop-next.at _ c.in-Ok-Some.next c.loop-next.invariant.up_to stands;
    }
