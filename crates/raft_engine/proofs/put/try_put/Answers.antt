use Rattle.raft_engine.proofs.Common.{◌≡◌, ℕ, List, ap, subst, ◌∙◌, signature_of, Batch, log_batch_bytes, sealed, MayBeAsked, Put, ask, bytes_for}
use Rattle.raft_engine.proofs.put.try_put.Goals as goal

pub returns-in-Err-AsBefore-clause-fault : goal.returns-in-Err-AsBefore-clause-fault
returns-in-Err-AsBefore-clause-fault g c =
    let signed = signature_of c.args.file.now in
    let before : Batch = c.prepare_write.new.self in
    let stage_is : before.stage ≡ sealed signed = ap (λ (b : Batch). b.stage) c.prepare_write.ensures in
    let bytes : c.encoded_bytes.result.now ≡ bytes_for c.args.file.now c.args.batch.now =
    c.encoded_bytes.ensures.bytes signed stage_is ∙ ap (λ (b : Batch). log_batch_bytes signed b.items b.entry_bytes) c.prepare_write.ensures in
    subst (λ (b : List ℕ). g.F.EngineFiles.may_fail (g.F.EngineFiles.asked c.args.files.now) (ask c.args.file.now.id.queue (Put b)) c.in-Err-AsBefore.error) bytes
    (rw c.in-Err-AsBefore.field-0-is at c.in-Err-AsBefore.ensures.fault)

pub returns-in-Err-InPart-clause-err : goal.returns-in-Err-InPart-clause-err
returns-in-Err-InPart-clause-err g c =
    let signed = signature_of c.args.file.now in
    let before : Batch = c.prepare_write.new.self in
    let stage_is : before.stage ≡ sealed signed = ap (λ (b : Batch). b.stage) c.prepare_write.ensures in
    let bytes : c.encoded_bytes.result.now ≡ bytes_for c.args.file.now c.args.batch.now =
    c.encoded_bytes.ensures.bytes signed stage_is ∙ ap (λ (b : Batch). log_batch_bytes signed b.items b.entry_bytes) c.prepare_write.ensures in
    subst (λ (b : List ℕ). MayBeAsked (ask c.args.file.now.id.queue (Put b)) (g.F.EngineFiles.asked c.args.files.now) (g.F.EngineFiles.asked c.append.new.self)) bytes
    (rw c.in-Err-InPart.field-0-is at c.in-Err-InPart.ensures.err)

pub returns-in-Err-InPart-clause-fault : goal.returns-in-Err-InPart-clause-fault
returns-in-Err-InPart-clause-fault g c =
    let signed = signature_of c.args.file.now in
    let before : Batch = c.prepare_write.new.self in
    let stage_is : before.stage ≡ sealed signed = ap (λ (b : Batch). b.stage) c.prepare_write.ensures in
    let bytes : c.encoded_bytes.result.now ≡ bytes_for c.args.file.now c.args.batch.now =
    c.encoded_bytes.ensures.bytes signed stage_is ∙ ap (λ (b : Batch). log_batch_bytes signed b.items b.entry_bytes) c.prepare_write.ensures in
    subst (λ (b : List ℕ). g.F.EngineFiles.may_fail (g.F.EngineFiles.asked c.args.files.now) (ask c.args.file.now.id.queue (Put b)) c.in-Err-InPart.error) bytes
    (rw c.in-Err-InPart.field-0-is at c.in-Err-InPart.ensures.fault)
