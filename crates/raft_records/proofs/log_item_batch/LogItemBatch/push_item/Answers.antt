use Rattle.raft_records.proofs.Common.{◌≡◌, ◌+◌, arith, ◌++◌, ◌∷◌, [], map, ap, ◌∙◌, map-append, item_of, item_size, at_most_usize}
use Rattle.raft_records.proofs.BatchLemmas.{kept_push}
use Rattle.raft_records.proofs.log_item_batch.LogItemBatch.push_item.Goals as goal

pub invariant_of-self-2 : goal.invariant_of-self-2
invariant_of-self-2 c =
    let items : map item_of c.push.new.self.items ≡ map item_of c.self.inside.items.items ++ item_of c.args.item ∷ [] = ap (map item_of) c.in_ok-push.ensures.items ∙ map-append item_of c.self.inside.items.items (c.args.item ∷ []) in
    let fits = rw (← c.self.view_is) at c.requires.fits in
    let ends = rw (← c.self.view_is) at c.requires.end in
    let size : c.saturating_add-self-inside.result ≡ at_most_usize (c.self.inside.item_size + at_most_usize (item_size (item_of c.args.item))) = rw (← c.approximate_size-size.ensures) (omega (arith, c.saturating_add-self-inside.ensures)) in
    let kept = kept_push (map item_of c.self.inside.items.items) (item_of c.args.item) c.self.inside.item_size c.self.inside.entries_size
    c.saturating_add-self-inside.result c.self.inside.checksum c.self.invariant.0 fits c.numbers_fit.ensures c.requires.in_bytes size in
    rw (items, ends) (kept, tt)
