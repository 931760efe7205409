use Rattle.raft_engine.proofs.Common.{◌∙◌, ap, drop, subst, err_from_is_err_and, IsCorruption, FileId, HasNoFront, IsHeader, damaged_entries_text}
use Rattle.raft_engine.proofs.BlockLemmas.{block_ends, block_sound, block_unsound, has_header}
use Rattle.raft_engine.proofs.blocks.check_block.Goals as goal

pub returns-in_err-items_at-clause-refused : goal.returns-in_err-items_at-clause-refused
returns-in_err-items_at-clause-refused c =
    let same = c.split_at.ensures.back ∙ ap (drop c.args.at) c.bytes.ensures in
    let p = err_from_is_err_and c.from_residual.result c.from_residual.ensures.1 in
    rw (p.1, p.2)
    (λ other. absurd (has_header c.args.file.now c.args.at c.requires.1 c.requires.0 c.requires.2 (subst (HasNoFront IsHeader) same c.in_err-items_at.ensures.refused)))

pub returns-clause-ok : goal.returns-clause-ok
returns-clause-ok c items next b =
    let same = c.split_at.ensures.back ∙ ap (drop c.args.at) c.bytes.ensures in (
      block_sound c.args.file.now c.args.at next items b c.split_at.result.1.now same c.in_ok-items_at.ensures.ok c.in-Ok.field-0.now c.in-Ok.ensures.ok,
      block_ends c.args.file.now c.args.at next items b c.split_at.result.1.now same c.in_ok-items_at.ensures.ok,
    )

pub returns-in_default-clause-refused : goal.returns-in_default-clause-refused
returns-in_default-clause-refused c other =
    let same = c.split_at.ensures.back ∙ ap (drop c.args.at) c.bytes.ensures in (
      λ items next b.
          block_unsound c.args.file.now c.args.at next items b c.split_at.result.1.now same c.in_ok-items_at.ensures.ok c.in_default.ensures.refused,
      subst (λ (id : FileId). IsCorruption (damaged_entries_text id c.args.at) c.corruption_at.result) c.id.ensures c.corruption_at.ensures,
    )
