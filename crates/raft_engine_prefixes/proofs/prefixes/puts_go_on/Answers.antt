use Rattle.raft_engine_prefixes.proofs.GoingOnLemmas.{puts_go_on}
use Rattle.raft_engine_prefixes.proofs.prefixes.puts_go_on.Goals as goal

pub returns : goal.returns
returns c = puts_go_on
