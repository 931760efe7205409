use Rattle.raft_plain.proofs.Common.{rules, filter_same, nat_le, from}
use Rattle.raft_plain.proofs.region.entries_from.Goals as goal

pub returns : goal.returns
unfolding from
returns c = filter_same _ (λ e. nat_le c.args.index e.index) _ (λ p b f' k. search rules) _ _ c.retain.ensures.filtered
