-- Sixteen bytes, and what is behind them.
use Rattle.raft_checksum.proofs.Common.{◌∙◌, ap, sym, register_after}
use Rattle.raft_checksum.proofs.BlockLemmas.{register_append}
use Rattle.raft_checksum.proofs.checksum.vectors.skip_vector.Goals as goal

pub returns-clause-joins : goal.returns-clause-joins
returns-clause-joins c = λ register.
    let split = c.split_at.ensures in
    ap (λ front. register_after (register_after register front) c.split_at.result.1.now) (sym split.front)
    ∙ sym (register_append register c.split_at.result.0.now c.split_at.result.1.now) ∙ ap (register_after register) (sym split.by_index.0)
