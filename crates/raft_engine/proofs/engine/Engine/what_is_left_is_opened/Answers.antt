use Rattle.raft_engine.proofs.RestartLemmas.{kept_by_restarts}
use Rattle.raft_engine.proofs.engine.Engine.what_is_left_is_opened.Goals as goal

pub returns : goal.returns
returns g c = λ content told. kept_by_restarts c.restarts_find_what_lasts.ensures c.records_before_are_those_found.ensures content c.args.self.now (c.nothing_synced_is_lost.ensures content told)
