use Rattle.raft_files.proofs.Common.{refl, Append, Rewrite}
use Rattle.raft_files.proofs.LeftLemmas.{whole_left, synced_left, found_left, put_left, read_left, unsynced_left, other_left}
use Rattle.raft_files.proofs.laws.files_that_are_left.Goals as goal

pub returns-clause-whole : goal.returns-clause-whole
returns-clause-whole c = whole_left

pub returns-clause-synced : goal.returns-clause-synced
returns-clause-synced c = synced_left

pub returns-clause-found : goal.returns-clause-found
returns-clause-found c = found_left

pub returns-clause-put : goal.returns-clause-put
returns-clause-put c = put_left

pub returns-clause-read : goal.returns-clause-read
returns-clause-read c = read_left

pub returns-clause-unsynced : goal.returns-clause-unsynced
returns-clause-unsynced c = unsynced_left

pub returns-clause-of_append : goal.returns-clause-of_append
returns-clause-of_append c = λ asked act files l. other_left Append Rewrite asked act files refl l

pub returns-clause-of_rewrite : goal.returns-clause-of_rewrite
returns-clause-of_rewrite c = λ asked act files l. other_left Rewrite Append asked act files refl l
