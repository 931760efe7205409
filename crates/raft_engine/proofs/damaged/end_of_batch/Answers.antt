use Rattle.raft_engine.proofs.Common.{◌∙◌, ap, drop, subst, HasNoFront, IsHeader}
use Rattle.raft_engine.proofs.BlockLemmas.{block_ends, has_header}
use Rattle.raft_engine.proofs.damaged.end_of_batch.Goals as goal

pub returns-in_err-len-clause-memory : goal.returns-in_err-len-clause-memory
returns-in_err-len-clause-memory c =
    let r = c.requires in
    let same = c.split_at.ensures.back ∙ ap (drop c.args.at) c.bytes.ensures in
    absurd (has_header c.args.file.now c.args.at r.1 r.0 r.2 (subst (HasNoFront IsHeader) same c.in_err-len.ensures.refused))

pub returns-clause-ok : goal.returns-clause-ok
returns-clause-ok c items next b =
    let same = c.split_at.ensures.back ∙ ap (drop c.args.at) c.bytes.ensures in
    block_ends c.args.file.now c.args.at next items b c.split_at.result.1.now same c.in_ok-len.ensures.ok
