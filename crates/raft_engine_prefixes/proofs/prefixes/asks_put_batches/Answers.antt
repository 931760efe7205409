use Rattle.raft_engine_prefixes.proofs.Common.{refl}
use Rattle.raft_engine_prefixes.proofs.StepLemmas.{written, began, synced_all, cut_off, deleted_one, read_one, unsynced_one, one_history}
use Rattle.raft_engine_prefixes.proofs.prefixes.asks_put_batches.Goals as goal

pub returns-clause-nothing : goal.returns-clause-nothing
returns-clause-nothing c = λ queue version. record { put = (refl, refl); whole = refl }

pub returns-clause-written : goal.returns-clause-written
returns-clause-written c = written

pub returns-clause-begun : goal.returns-clause-begun
returns-clause-begun c = began

pub returns-clause-synced : goal.returns-clause-synced
returns-clause-synced c = synced_all

pub returns-clause-found : goal.returns-clause-found
returns-clause-found c = λ queue version acts files h held. (refl, held)

pub returns-clause-cut : goal.returns-clause-cut
returns-clause-cut c = cut_off

pub returns-clause-deleted : goal.returns-clause-deleted
returns-clause-deleted c = deleted_one

pub returns-clause-read : goal.returns-clause-read
returns-clause-read c = read_one

pub returns-clause-unsynced : goal.returns-clause-unsynced
returns-clause-unsynced c = unsynced_one

pub returns-clause-one_history : goal.returns-clause-one_history
returns-clause-one_history c = one_history
