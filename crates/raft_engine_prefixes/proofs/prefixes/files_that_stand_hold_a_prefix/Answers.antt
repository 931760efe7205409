use Rattle.raft_engine_prefixes.proofs.PrefixLemmas.{all_held, prefix_left, synced_left}
use Rattle.raft_engine_prefixes.proofs.prefixes.files_that_stand_hold_a_prefix.Goals as goal

pub returns-clause-all : goal.returns-clause-all
returns-clause-all c = all_held

pub returns-clause-front : goal.returns-clause-front
returns-clause-front c = prefix_left

pub returns-clause-synced : goal.returns-clause-synced
returns-clause-synced c = synced_left
