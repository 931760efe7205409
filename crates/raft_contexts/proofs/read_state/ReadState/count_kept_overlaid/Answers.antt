use Rattle.raft_contexts.proofs.Common.{ap, ◌∙◌, ◌+◌}
use Rattle.raft_history.specs.Kept as numbers
use Rattle.raft_contexts.proofs.ContextShownLemmas.{counted}
use Rattle.raft_contexts.proofs.read_state.ReadState.count_kept_overlaid.Goals as goal

pub returns : goal.returns
returns c = ap (λ (k : numbers.Kept). record k { marks = c.len.result + c.len-2.result; deleted_keys = c.deleted_keys.result }) c.count_kept.ensures
    ∙ counted c.args.self.now c.len.result c.len-2.result c.deleted_keys.result c.len.ensures c.len-2.ensures c.deleted_keys.ensures
