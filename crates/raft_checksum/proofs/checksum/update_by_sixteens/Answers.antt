-- Sixteen bytes join the register.
use Rattle.raft_checksum.proofs.Common.{◌∙◌, ap, sym, register_after}
use Rattle.raft_checksum.proofs.BlockLemmas.{register_append}
use Rattle.raft_checksum.proofs.checksum.update_by_sixteens.Goals as goal

pub loop-rest-preserved : goal.loop-rest-preserved
loop-rest-preserved c =
    ap (λ r. register_after r c.split_at.result.1.now) c.update_by_sixteen_bytes-register.ensures
    ∙ sym (register_append c.loop-rest.register c.split_at.result.0.now c.split_at.result.1.now)
    ∙ ap (register_after c.loop-rest.register) (sym c.split_at.ensures.by_index.0) ∙ c.loop-rest.invariant

pub returns : goal.returns
returns c =
    c.update_by_bytes-2.ensures ∙ ap (λ r. register_after r c.first_eight_bytes-word.result.1.now) c.word_then_zeros.ensures
    ∙ c.first_eight_bytes-word.ensures.joins c.loop-rest.register ∙ c.loop-rest.invariant
