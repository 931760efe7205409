use Rattle.raft_engine.proofs.Common.{inl, inr, refl, ◌∙◌, ap, drop, subst, HasNoFront, IsHeader}
use Rattle.raft_engine.proofs.BlockLemmas.{block_ends, block_sound, block_unsound, has_header}
use Rattle.raft_engine.proofs.damaged.gather_if_damaged.Goals as goal

pub damaged_batch-requires : goal.damaged_batch-requires
damaged_batch-requires c =
    let r = c.requires in
    let same = c.split_at.ensures.back ∙ ap (drop c.args.at) c.bytes.ensures in
    (r.0, (r.1.0, r.1.1, r.1.2, block_unsound c.args.file.now c.args.at r.1.1 r.1.0 r.1.2 c.split_at.result.1.now same c.in_ok-items_at.ensures.ok c.in_default.ensures.refused))

pub returns-in_err-items_at-clause-memory : goal.returns-in_err-items_at-clause-memory
returns-in_err-items_at-clause-memory c =
    let r = c.requires in
    let same = c.split_at.ensures.back ∙ ap (drop c.args.at) c.bytes.ensures in
    absurd (has_header c.args.file.now c.args.at r.1.1 r.1.0 r.1.2 (subst (HasNoFront IsHeader) same c.in_err-items_at.ensures.refused))

pub returns-clause-ok : goal.returns-clause-ok
returns-clause-ok c items next b =
    let same = c.split_at.ensures.back ∙ ap (drop c.args.at) c.bytes.ensures in
    block_ends c.args.file.now c.args.at next items b c.split_at.result.1.now same c.in_ok-items_at.ensures.ok

pub returns-clause-gathered : goal.returns-clause-gathered
returns-clause-gathered c =
    let same = c.split_at.ensures.back ∙ ap (drop c.args.at) c.bytes.ensures in
    inl (λ items next b. block_sound c.args.file.now c.args.at next items b c.split_at.result.1.now same c.in_ok-items_at.ensures.ok c.in-Ok.field-0.now c.in-Ok.ensures.ok, refl)

pub returns-in_default-clause-ok : goal.returns-in_default-clause-ok
returns-in_default-clause-ok c items next b =
    let same = c.split_at.ensures.back ∙ ap (drop c.args.at) c.bytes.ensures in
    block_ends c.args.file.now c.args.at next items b c.split_at.result.1.now same c.in_ok-items_at.ensures.ok

pub returns-in_default-clause-gathered : goal.returns-in_default-clause-gathered
returns-in_default-clause-gathered c = inr (c.in_ok-damaged_batch.field-0, c.in_ok-damaged_batch.ensures.ok, c.in_ok-damaged_batch.ensures.offset, c.in_ok-push.ensures.items)
