use Rattle.raft_plain.proofs.Common.{rules, filter_same_pairs}
use Rattle.raft_plain.proofs.PairLemmas.{is_other, key_gone}
use Rattle.raft_plain.proofs.region.remove_key.Goals as goal

pub returns : goal.returns
returns c =
    key_gone c.args.keys.entries c.retain.new.self.entries c.args.key.now.items c.retain.ensures.was_ordered c.retain.ensures.ordered
    (filter_same_pairs _ (is_other c.args.key.now.items) _ (λ k v b w f' t. search rules) _ _ c.retain.ensures.filtered)
