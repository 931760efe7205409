use Rattle.raft_records.proofs.BatchLemmas.{one_batch}
use Rattle.raft_records.proofs.ContentLemmas.{item_one_front}
use Rattle.raft_records.proofs.laws.items_are_read_again.Goals as goal

pub returns-clause-one_front : goal.returns-clause-one_front
returns-clause-one_front c = item_one_front

pub returns-clause-one_batch : goal.returns-clause-one_batch
returns-clause-one_batch c = one_batch
