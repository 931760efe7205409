use Rattle.raft_records.proofs.Common.{◌∙◌, ap, signature_of, Batch, sealed, entry_bytes_in}
use Rattle.raft_records.proofs.StageLemmas.{batch_with, made_of, signed_held}
use Rattle.raft_records.proofs.log_batch.LogBatch.prepare_write.Goals as goal

pub invariant_of-self : goal.invariant_of-self
invariant_of-self c =
    let held = signed_held (signature_of c.args.context.now) (made_of c.self.view_is c.requires) c.self.invariant c.seal_batch.ensures in
    rw c.get_signature.ensures held.0

pub returns : goal.returns
returns c =
    let held = signed_held (signature_of c.args.context.now) (made_of c.self.view_is c.requires) c.self.invariant c.seal_batch.ensures in
    ap (λ s. batch_with c.self.inside.item_batch (entry_bytes_in c.self.inside.item_batch c.seal_batch.new.buf.items) (sealed s)) c.get_signature.ensures
    ∙ ap (λ es. batch_with c.self.inside.item_batch es (sealed (signature_of c.args.context.now))) held.1
    ∙ ap (λ (b : Batch). batch_with b.items b.entry_bytes (sealed (signature_of c.args.context.now))) c.self.view_is
