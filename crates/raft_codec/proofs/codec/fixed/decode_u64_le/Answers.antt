use Rattle.std.proofs.Common.{rules}
use Rattle.raft_codec.proofs.FixedLemmas.{reads_little_8}
use Rattle.raft_codec.proofs.codec.fixed.decode_u64_le.Goals as goal

pub returns-clause-ok : goal.returns-clause-ok
returns-clause-ok c = reads_little_8 _ c.in_ok-bytes.bytes _ _ c.in_ok-bytes.ensures.ok (search rules) (search rules) (search rules) c.from_le_bytes.ensures
