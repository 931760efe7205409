use Rattle.std.proofs.Common.{sym, arith}
use Rattle.raft_codec.proofs.VarintLemmas.{two_septets}
use Rattle.raft_codec.proofs.codec.varint.encode_in_two_bytes.Goals as goal

pub returns : goal.returns
returns c =
    rw (c.continued_septet.ensures) (sym (two_septets c.args.number (c.requires.least) (omega (arith, c.requires.below))))
