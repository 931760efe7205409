use Rattle.std.proofs.Common.{rules}
use Rattle.raft_codec.proofs.FixedLemmas.{reads_big_8}
use Rattle.raft_codec.proofs.codec.fixed.decode_u64.Goals as goal

pub returns-clause-ok : goal.returns-clause-ok
returns-clause-ok c = reads_big_8 _ c.in_ok-bytes.bytes _ _ c.in_ok-bytes.ensures.ok (search rules) (search rules) (search rules) c.from_be_bytes.ensures
