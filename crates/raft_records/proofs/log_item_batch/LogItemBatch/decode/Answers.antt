use Rattle.raft_records.proofs.Common.{sym, subst, at_exit, signature_of, IsDecoded, uncompressed}
use Rattle.raft_records.proofs.BatchLemmas.{no_room_for_items}
use Rattle.raft_records.proofs.FrameLemmas.{same_compression}
use Rattle.raft_records.proofs.log_item_batch.LogItemBatch.decode.Goals as goal

pub returns-in_err-batch-clause-fault : goal.returns-in_err-batch-clause-fault
returns-in_err-batch-clause-fault c =
    let read = c.in_ok-rest.ensures.ok in
    at_exit c.from_residual-in_err-batch.result c.from_residual-in_err-batch.ensures.1 (λ _ is. rw is (no_room_for_items (signature_of c.args.context.now) c.args.buf.now.now
    c.in_ok-rest.rest.now read.read _ read.item_batch (rw c.in_err-batch.ensures.memory tt)))

pub returns-clause-ok : goal.returns-clause-ok
returns-clause-ok c =
    rw (same_compression c.args.compression_type uncompressed)
    (subst (λ items. IsDecoded c.args.buf.now.now (signature_of c.args.context.now) c.args.entries uncompressed items c.in_ok-rest.rest.now)
    (sym c.in_ok-batch.ensures.ok) c.in_ok-rest.ensures.ok)
