use Rattle.raft_records.proofs.Common.{◌∙◌, ap, signature_of, Batch, log_batch_bytes}
use Rattle.raft_records.proofs.log_batch.LogBatchReactiveBytes.as_bytes.Goals as goal

pub returns : goal.returns
returns c =
    let signature = signature_of c.args.ctx.now in
    c.encoded_bytes.ensures.bytes signature (ap (λ (b : Batch). b.stage) c.prepare_write.ensures) ∙ ap (λ (b : Batch). log_batch_bytes signature b.items b.entry_bytes) c.prepare_write.ensures
