use Rattle.raft_engine_prefixes.proofs.BatchPartLemmas.{one_front, part_unreadable}
use Rattle.raft_engine_prefixes.proofs.torn_tails.parts_of_batches_are_unreadable.Goals as goal

pub returns-clause-one_front : goal.returns-clause-one_front
returns-clause-one_front c = one_front

pub returns-clause-part : goal.returns-clause-part
returns-clause-part c = part_unreadable
