use Rattle.raft_records.proofs.Common.{subst, sym, ap, ◌∙◌, ◌++◌, ◌∷◌, [], AreDecodedIn, Item}
use Rattle.raft_records.proofs.CopyLemmas.{all_copied, copied_end, next_item, one_more_copied, spans_tile}
use Rattle.raft_records.proofs.ReadBatchLemmas.{shown_in_file}
use Rattle.raft_records.proofs.read_batch.ReadBatch.to_batch.Goals as goal

pub end_of_spans-end-requires : goal.end_of_spans-end-requires
end_of_spans-end-requires c =
    let next = next_item c.loop-item.invariant c.loop-item-test.true c.split_at.ensures.front c.span_count.ensures c.entries_size.ensures in
    spans_tile c.entries_size.result c.self.inside.place _ c.split_at.result.0.now next.taken next.fits

pub to_item-requires : goal.to_item-requires
to_item-requires c = (next_item c.loop-item.invariant c.loop-item-test.true c.split_at.ensures.front c.span_count.ensures c.entries_size.ensures).in_file

pub push_item-requires-clause-end : goal.push_item-requires-clause-end
push_item-requires-clause-end c =
    let next = next_item c.loop-item.invariant c.loop-item-test.true c.split_at.ensures.front c.span_count.ensures c.entries_size.ensures in
    copied_end next c.end_of_spans-end.ensures c.entries_size.ensures (ap (λ x. x.content) c.in_ok-to_item.ensures.ok)

pub loop-item-preserved : goal.loop-item-preserved
loop-item-preserved c =
    let added = c.in_ok-push_item.ensures.ok ∙ ap (λ (x : Item). c.loop-item.batch ++ x ∷ []) c.in_ok-to_item.ensures.ok in
    one_more_copied c.loop-item.invariant c.loop-item-test.true c.split_at.ensures.front c.split_at.ensures.back c.span_count.ensures added

pub with_file-requires : goal.with_file-requires
with_file-requires c =
    let all = all_copied c.loop-item.invariant c.loop-item-test.false in
    subst (AreDecodedIn c.self.inside.place.id) (c.self.view_is ∙ sym all) (shown_in_file c.self.inside.place 0 c.self.inside.items.items c.self.inside.spans.items c.self.invariant.fit)
