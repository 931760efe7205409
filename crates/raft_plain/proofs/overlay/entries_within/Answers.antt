use Rattle.raft_plain.proofs.Common.{rules, ◌&&◌, filter_same, nat_le, entries_within, is_under}
use Rattle.raft_plain.proofs.overlay.entries_within.Goals as goal

pub returns : goal.returns
unfolding entries_within
returns c = filter_same _ (λ e. nat_le c.args.floor e.index && is_under c.args.cut e.index) _ (λ p b f' k. search rules) _ _ c.retain.ensures.filtered
