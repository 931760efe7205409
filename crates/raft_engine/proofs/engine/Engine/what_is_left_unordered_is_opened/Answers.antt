use Rattle.raft_engine.proofs.RestartLemmas.{kept_unordered}
use Rattle.raft_engine.proofs.engine.Engine.what_is_left_unordered_is_opened.Goals as goal

pub returns : goal.returns
returns g c = λ content told. kept_unordered c.restarts_find_what_lasts.ensures content c.args.self.now (c.nothing_synced_is_lost.ensures content told)
