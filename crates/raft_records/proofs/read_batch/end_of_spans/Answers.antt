use Rattle.raft_records.proofs.Common.{◌≡◌, ◌-◌, ◌+◌, ◌<◌, ◌^◌, suc, length, arith, sym, subst, ap, ◌∙◌, ltb-true}
use Rattle.raft_records.proofs.CopyLemmas.{end_of_block, tail_of_block}
use Rattle.raft_records.proofs.read_batch.end_of_spans.Goals as goal

-- the index of the last span
last : (c : goal.After-row_known-in-Some-1) → length c.args.spans.now ≡ suc (length c.args.spans.now - 1)
last c = let some : 0 < length c.args.spans.now = ltb-true _ _ (sym c.in-Some.ensures.item.0) in omega (arith, some)

pub overflow_add-result : goal.overflow_add-result
overflow_add-result c =
    let spans = c.args.spans.now in
    let low = tail_of_block c.args.start c.requires.0 c.requires.1 spans (length spans - 1) c.in-Some.field-0.now (last c) c.requires.2 in
    omega (arith, subst (λ s. s.0 + s.1 < 2 ^ 32) (sym c.in-Some.ensures.item.1) low)

pub returns-in-Some : goal.returns-in-Some
returns-in-Some c = λ first place.
    ap (λ s. s.0 + s.1) c.in-Some.ensures.item.1 ∙ sym (end_of_block c.args.start first place c.args.spans.now (length c.args.spans.now - 1) c.in-Some.field-0.now (last c))
