use Rattle.raft_history.proofs.JoinLemmas.{fold_is, fold_refused}
use Rattle.raft_history.proofs.contexts.merges_go_region_by_region.Goals as goal

pub returns : goal.returns
returns c = record { same = fold_is; refused = fold_refused }
