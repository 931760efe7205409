-- Blocks of the quotient.
use Rattle.raft_checksum.proofs.Common.{◌≡◌, ◌+◌, ◌-◌, min, get_or, length, sym, ap, ◌∙◌, arith, crc_steps}
use Rattle.raft_checksum.proofs.BlockLemmas.{stands_first, stands_next, remainder_settled}
use Rattle.raft_checksum.proofs.RemainderLemmas.{remainder_same}
use Rattle.raft_checksum.proofs.WordLemmas.{bytes_front, bytes_left}
use Rattle.raft_checksum.proofs.checksum.sparse.update_by_chunks.Goals as goal

pub loop-rest-init : goal.loop-rest-init
loop-rest-init c = record {
  long = c.requires;
  bytes = λ k. let fits = c.type_inv.bytes k in omega arith;
  stands = stands_first c.args.register 1900 c.args.bytes.now c.write_u32.new.buf (omega arith) c.write_u32.ensures;
}

pub loop-rest-preserved : goal.loop-rest-preserved
loop-rest-preserved c =
    let split = c.split_at.ensures in
    let len : length c.split_at.result.0.now ≡ c.min-len.result = split.front_len in
    let small = c.loop-rest.invariant.bytes in
    record {
      long = let len_is : c.min-len.result ≡ min (length c.loop-rest.rest.now - 300) 1600 = c.min-len.ensures in let left = split.back_len in omega arith;
      bytes = bytes_left c.min-len.result c.loop-rest.rest.now c.split_at.result.1.now split.back small;
      stands =
          stands_next c.loop-rest.quotient c.divide_chunk.new.quotient c.copy_within.new.self c.split_at.result.0.now c.split_at.result.1.now c.loop-rest.rest.now
          c.args.bytes.now c.args.register c.loop-rest.invariant.stands split.by_index.0
          (bytes_front c.min-len.result c.loop-rest.rest.now c.split_at.result.0.now split.front small) c.divide_chunk.ensures.quotient c.divide_chunk.ensures.before
          (λ k h.
          let place : c.min-len.result + (k - 0) ≡ length c.split_at.result.0.now + k = omega arith in
          c.copy_within.ensures.by_index.0 k 0 (omega arith) (omega arith) ∙ ap (λ i. get_or c.divide_chunk.new.quotient i 0) place);
    }

pub returns : goal.returns
returns c =
    let s = c.loop-rest.invariant.stands in
    let long : length c.loop-rest.rest.now ≡ 300 = omega arith in
    let same = remainder_same (λ k. get_or c.loop-rest.quotient k 0) (λ k. get_or c.clear_old_quotient.new.quotient k 0) (λ k h. sym (c.clear_old_quotient.ensures.before k h)) in
    c.update_by_vectors.ensures
    ∙ remainder_settled s.now c.loop-rest.rest.now c.compute_remainder.new.remainder c.clear_old_quotient.new.quotient long (omega arith)
    c.loop-rest.invariant.bytes (λ k h. rw (c.clear_old_quotient.ensures.before k h) (s.first k h)) c.compute_remainder.ensures c.clear_old_quotient.ensures.zeros
    (s.stands ∙ ap (crc_steps 2400) same)
    ∙ s.same
