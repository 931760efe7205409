use Rattle.std.proofs.Common.{◌≡◌, ◌/◌, sym, arith}
use Rattle.raft_codec.proofs.VarintLemmas.{four_septets}
use Rattle.raft_codec.proofs.codec.varint.encode_in_four_bytes.Goals as goal

pub returns : goal.returns
returns c =
    let n = c.args.number in
    let e : n / 16384 ≡ n / 128 / 128 = omega arith in
    let f : n / 2097152 ≡ n / 128 / 128 / 128 = omega arith in
    rw (c.continued_septet.ensures, c.continued_septet-2.ensures, c.continued_septet-3.ensures, e, f) (sym (four_septets n (omega (arith, c.requires.least)) (omega (arith, c.requires.below))))
