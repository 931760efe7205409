use Rattle.raft_history.proofs.KeptLaws.{kept_at_most}
use Rattle.raft_history.proofs.contexts.exact_contexts_keep_no_more_than_their_history.Goals as goal

pub returns : goal.returns
returns c = kept_at_most
