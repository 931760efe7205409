use Rattle.raft_engine_laws.proofs.TakingItems.{taking_told, placed_same}
use Rattle.raft_engine_laws.proofs.telling.items_that_take_nothing_away_need_no_telling.Goals as goal

pub returns-clause-same : goal.returns-clause-same
returns-clause-same c = taking_told

pub returns-clause-placed : goal.returns-clause-placed
returns-clause-placed c = placed_same
