use Rattle.raft_codec.proofs.VarintLemmas.{varint_spells, varint_shortest, varint_one_front}
use Rattle.raft_codec.proofs.codec.varint.varint_is_read_again.Goals as goal

pub returns-clause-spelled : goal.returns-clause-spelled
returns-clause-spelled c = varint_spells

pub returns-clause-shortest : goal.returns-clause-shortest
returns-clause-shortest c = λ n bytes lt s. varint_shortest n bytes s

pub returns-clause-one_front : goal.returns-clause-one_front
returns-clause-one_front c = varint_one_front
