use Rattle.raft_records.proofs.Common.{◌≡◌, ◌∙◌, ◌<◌, ◌^◌, sym, ap, subst, length, arith}
use Rattle.raft_records.proofs.BufferLemmas.{length_is}
use Rattle.raft_records.proofs.StageLemmas.{encoded_whole}
use Rattle.raft_records.proofs.header.complete_batch.Goals as goal

pub returns-clause-ok : goal.returns-clause-ok
returns-clause-ok c =
    let at : c.len-offset.result ≡ length c.append_entries_checksum.new.buf.items = omega (arith, c.len-offset.ensures) in
    let size : c.len-len.result ≡ length c.encode.new.buf.items = omega (arith, c.len-len.ensures) in
    let counted : length c.encode.new.buf.items ≡ c.encode.new.buf.len = sym (ap length c.as_mut_slice.ensures.value) ∙ c.as_mut_slice.ensures.len in
    encoded_whole c.args.item_batch.now c.args.buf.now.items c.append_entries_checksum.new.buf.items c.encode.new.buf.items c.as_mut_slice.result.now
    c.write_header.new.buf c.len-offset.result c.len-len.result c.encode.new.buf.len c.requires.some c.requires.room
    c.in_ok-append_entries_checksum.ensures.ok c.in_ok-encode.ensures.ok at size c.as_mut_slice.ensures.value counted c.write_header.ensures

pub returns-clause-accepted : goal.returns-clause-accepted
returns-clause-accepted c =
    let size : c.len-len.result ≡ length c.encode.new.buf.items = omega (arith, c.len-len.ensures) in
    let says = length_is c.args.item_batch.now c.args.buf.now.items c.append_entries_checksum.new.buf.items c.encode.new.buf.items c.requires.some c.requires.room c.in_ok-append_entries_checksum.ensures.ok c.in_ok-encode.ensures.ok in
    subst (λ n. n < 2 ^ 56) (size ∙ says.1) c.if-len-ge-LENGTH_LIMIT.false
