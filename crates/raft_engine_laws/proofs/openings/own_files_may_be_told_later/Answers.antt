use Rattle.raft_engine_laws.proofs.OwnPrefixes.{own_joins}
use Rattle.raft_engine_laws.proofs.OwnTold.{nothing_told}
use Rattle.raft_engine_laws.proofs.openings.own_files_may_be_told_later.Goals as goal

pub returns-clause-joins : goal.returns-clause-joins
returns-clause-joins c = own_joins

pub returns-clause-at_once : goal.returns-clause-at_once
returns-clause-at_once c = nothing_told
