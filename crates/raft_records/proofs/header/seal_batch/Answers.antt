use Rattle.raft_records.proofs.Common.{◌≡◌, ◌≢◌, ◌∙◌, ◌++◌, ◌≤◌, take, drop, length, ap, sym, subst, arith, common_steps, signature_of, IsEncoded, item_batch_bytes, checksum_bytes, item_offset, entry_bytes_in}
use Rattle.raft_records.proofs.BufferLemmas.{offset_within, encoded_at, sealed_at}
use Rattle.raft_records.proofs.StageLemmas.{nothing_sealed, unsealed_of, written_back, sealed_len}
use Rattle.raft_records.proofs.header.seal_batch.Goals as goal

pub returns-then-is_empty : goal.returns-then-is_empty
returns-then-is_empty c =
    let none : length c.args.buf.now.items ≡ 0 = grind (arith, common_steps) in
    nothing_sealed (signature_of c.args.context.now) c.args.item_batch.now (entry_bytes_in c.args.item_batch.now c.args.buf.now.items) c.args.buf.now.items c.requires none

pub seal_item_batch-requires : goal.seal_item_batch-requires
seal_item_batch-requires c =
    let es = entry_bytes_in c.args.item_batch.now c.args.buf.now.items in
    let some : length c.args.buf.now.items ≢ 0 = grind (arith, common_steps) in
    let u = unsealed_of c.args.item_batch.now es c.args.buf.now.items c.requires some in
    let at : c.item_batch_offset-offset.result ≡ item_offset es = c.item_batch_offset-offset.ensures es (c.requires.whole ∙ sym c.entries_size.ensures) in
    record {
      within = subst (λ xs. c.item_batch_offset-offset.result ≤ length xs) (sym c.as_mut_slice.ensures.value) (offset_within c.args.item_batch.now es c.args.buf.now.items c.item_batch_offset-offset.result u.1 at);
      encoded = subst (λ xs. IsEncoded c.args.item_batch.now (drop c.item_batch_offset-offset.result xs)) (sym c.as_mut_slice.ensures.value) (encoded_at c.args.item_batch.now es c.args.buf.now.items c.item_batch_offset-offset.result u.1 at);
    }

pub returns : goal.returns
returns c =
    let items = c.args.item_batch.now in
    let buf = c.args.buf.now.items in
    let es = entry_bytes_in items buf in
    let signature = signature_of c.args.context.now in
    let offset = c.item_batch_offset-offset.result in
    let some : length c.args.buf.now.items ≢ 0 = grind (arith, common_steps) in
    let u = unsealed_of items es buf c.requires some in
    let at : offset ≡ item_offset es = c.item_batch_offset-offset.ensures es (c.requires.whole ∙ sym c.entries_size.ensures) in
    let written : c.seal_item_batch.new.buf ≡ take offset
    buf ++ (item_batch_bytes items ++ checksum_bytes signature (item_batch_bytes items)) = c.seal_item_batch.ensures
    ∙ ap (λ xs. take offset xs ++ (item_batch_bytes items ++ checksum_bytes signature (item_batch_bytes items))) c.as_mut_slice.ensures.value
    in
    let sealed = sealed_at signature items es buf c.seal_item_batch.new.buf offset u.0 u.1 at written in
    let counted : length buf ≡ c.args.buf.now.len = sym (ap length c.as_mut_slice.ensures.value) ∙ c.as_mut_slice.ensures.len in
    written_back c.args.buf.now.len c.seal_item_batch.new.buf buf counted (sealed_len signature items es buf c.seal_item_batch.new.buf u.0 u.1 sealed) ∙ sealed
