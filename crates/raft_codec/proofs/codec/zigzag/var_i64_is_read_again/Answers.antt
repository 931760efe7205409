use Rattle.raft_codec.proofs.Common.{◌≡◌, ◌^◌, ◌<◌, ℤ, pos, negsuc, ap, arith, w64, FitsSigned, zigzag}
use Rattle.raft_codec.proofs.VarintLemmas.{varint_spells, varint_shortest, varint_one_front}
use Rattle.raft_codec.proofs.codec.zigzag.var_i64_is_read_again.Goals as goal

code_fits : (z : ℤ) → FitsSigned w64 z → zigzag z < 2 ^ 64
code_fits (pos n) h = let lt : n < 2 ^ 63 = h.sfits in omega arith
code_fits (negsuc n) h = let lt : n < 2 ^ 63 = h.sfits in omega arith

-- a code is even from 0 on, and odd below
same_from_code : (x y : ℤ) → zigzag x ≡ zigzag y → x ≡ y
same_from_code (pos n) (pos m) e = ap pos (omega arith)
same_from_code (pos n) (negsuc m) e = absurd (omega arith)
same_from_code (negsuc n) (pos m) e = absurd (omega arith)
same_from_code (negsuc n) (negsuc m) e = ap negsuc (omega arith)

pub returns-clause-spelled : goal.returns-clause-spelled
returns-clause-spelled c = λ z fits. varint_spells (zigzag z) (code_fits z fits)

pub returns-clause-shortest : goal.returns-clause-shortest
returns-clause-shortest c = λ z bytes fits s. varint_shortest (zigzag z) bytes s

pub returns-clause-one_front : goal.returns-clause-one_front
returns-clause-one_front c = λ a b more rest x y p q e.
    let one = varint_one_front a b more rest (zigzag x) (zigzag y) p q e in
    (one.0, same_from_code x y one.1)
