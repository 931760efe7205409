use Rattle.raft_codec.specs.Varint.{varint}
use Rattle.raft_codec.proofs.VarintLemmas.{septets_last}
use Rattle.raft_codec.proofs.codec.NumberEncoder.encode_var_u64.Goals as goal

pub returns-then-branch-clause-written : goal.returns-then-branch-clause-written
unfolding varint
returns-then-branch-clause-written g c =
    rw (septets_last 9 c.args.v c.if-v-lt128.true) (rw c.if-branch.true at c.in_ok-write_byte.ensures.written)
