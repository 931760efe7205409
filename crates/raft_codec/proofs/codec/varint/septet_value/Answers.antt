use Rattle.raft_codec.proofs.VarintLemmas.{shift-septet}
use Rattle.raft_codec.proofs.codec.varint.septet_value.Goals as goal

pub returns : goal.returns
returns c = rw c.from.ensures (shift-septet c.args.bits c.args.place c.requires.septet c.requires.place c.requires.tenth)
