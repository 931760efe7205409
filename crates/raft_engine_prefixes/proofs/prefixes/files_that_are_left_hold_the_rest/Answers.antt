use Rattle.raft_engine_prefixes.proofs.RestLemmas.{rest_left, whole_rest}
use Rattle.raft_engine_prefixes.proofs.prefixes.files_that_are_left_hold_the_rest.Goals as goal

pub returns-clause-whole : goal.returns-clause-whole
returns-clause-whole c = whole_rest

pub returns-clause-left : goal.returns-clause-left
returns-clause-left c = rest_left
