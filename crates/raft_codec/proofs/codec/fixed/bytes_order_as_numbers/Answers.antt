use Rattle.raft_codec.proofs.Common.{◌∙◌, arith, complement, sign_flipped}
use Rattle.raft_codec.proofs.FixedOrder.{nat_cmp-complement, nat_cmp-sign_flipped, sign_flipped-lt, sign_flipped-offset, slice_cmp-big_bytes}
use Rattle.raft_codec.proofs.codec.fixed.bytes_order_as_numbers.Goals as goal

pub returns : goal.returns
returns c = record {
  big = slice_cmp-big_bytes;
  u64_desc = λ x y p q. slice_cmp-big_bytes 8 (complement x) (complement y) (omega arith) (omega arith) ∙ nat_cmp-complement x y p q;
  i64 = λ x y p q. slice_cmp-big_bytes 8 (sign_flipped x) (sign_flipped y) (sign_flipped-lt x p) (sign_flipped-lt y q) ∙ nat_cmp-sign_flipped x y p q;
  i64_desc = λ x y p q.
      let a = sign_flipped-lt x p in
      let b = sign_flipped-lt y q in
      slice_cmp-big_bytes 8 (complement (sign_flipped x)) (complement (sign_flipped y)) (omega arith) (omega arith)
      ∙ nat_cmp-complement (sign_flipped x) (sign_flipped y) a b ∙ nat_cmp-sign_flipped y x q p;
  distance = sign_flipped-offset;
}
