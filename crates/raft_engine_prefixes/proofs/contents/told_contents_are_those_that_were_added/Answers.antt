use Rattle.raft_engine_prefixes.proofs.ReadLemmas.{read_told}
use Rattle.raft_engine_prefixes.proofs.ToldLemmas.{written_told, added_told}
use Rattle.raft_engine_prefixes.proofs.contents.told_contents_are_those_that_were_added.Goals as goal

pub returns-clause-entry : goal.returns-clause-entry
returns-clause-entry c = written_told

pub returns-clause-added : goal.returns-clause-added
returns-clause-added c = added_told

pub returns-clause-read : goal.returns-clause-read
returns-clause-read c = read_told
