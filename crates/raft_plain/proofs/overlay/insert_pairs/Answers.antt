use Rattle.raft_plain.proofs.Common.{sym, ap, ◌∙◌, map, entries-map_of, with_pairs, keys_shown, stored_shown}
use Rattle.raft_plain.proofs.PairLemmas.{Pairs, bytes_of, key_put}
use Rattle.raft_plain.proofs.overlay.insert_pairs.Goals as goal

pub loop-key-init : goal.loop-key-init
loop-key-init c =
    let given = c.into_iter-key-iterator.ensures.into_iter_gives in
    ap (λ (es : Pairs). with_pairs (keys_shown c.args.keys) (map (λ e. (e.0.items, stored_shown e.1)) es)) given.0
    ∙ ap (with_pairs (keys_shown c.args.keys)) (sym (entries-map_of bytes_of stored_shown c.args.newer.entries given.5))

pub loop-key-preserved-in_ok-insert : goal.loop-key-preserved-in_ok-insert
loop-key-preserved-in_ok-insert c =
    ap (λ m. with_pairs m (map (λ e. (e.0.items, stored_shown e.1)) c.next.new.self)) (key_put c.loop-key.keys.entries c.insert.new.self.entries c.in-Some.key c.in-Some.stored c.insert.ensures.was_ordered c.insert.ensures.ordered c.in_ok-insert.ensures.entries)
    ∙ ap (λ (es : Pairs). with_pairs (keys_shown c.loop-key.keys) (map (λ e. (e.0.items, stored_shown e.1)) es)) (sym c.in-Some.ensures.steps)
    ∙ c.loop-key.invariant

pub loop-key-preserved : goal.loop-key-preserved
loop-key-preserved c =
    ap (λ m. with_pairs m (map (λ e. (e.0.items, stored_shown e.1)) c.next.new.self)) (key_put c.loop-key.keys.entries c.insert.new.self.entries c.in-Some.key c.in-Some.stored c.insert.ensures.was_ordered c.insert.ensures.ordered c.in_ok-insert.ensures.entries)
    ∙ ap (λ (es : Pairs). with_pairs (keys_shown c.loop-key.keys) (map (λ e. (e.0.items, stored_shown e.1)) es)) (sym c.in-Some.ensures.steps)
    ∙ c.loop-key.invariant
