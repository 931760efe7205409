use Rattle.raft_plain.proofs.Common.{rules, filter_same, nat_lt, below}
use Rattle.raft_plain.proofs.region.entries_below.Goals as goal

pub returns : goal.returns
unfolding below
returns c = filter_same _ (λ e. nat_lt e.index c.args.index) _ (λ p b f' k. search rules) _ _ c.retain.ensures.filtered
