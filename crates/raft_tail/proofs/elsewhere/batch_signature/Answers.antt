use Rattle.raft_tail.proofs.Common.{ap, drop, ◌∙◌}
use Rattle.raft_tail.proofs.SignerLemmas.{headless_signer, short_signer, signer_behind}
use Rattle.raft_tail.proofs.elsewhere.batch_signature.Goals as goal

pub returns-in-Some : goal.returns-in-Some
returns-in-Some c =
    signer_behind c.in-Some.ensures.some (c.split_at-in-Some.ensures.back ∙ ap (drop c.in-Some.offset) c.split_at.ensures.front) c.item_batch_signature.ensures

pub returns-in_default : goal.returns-in_default
returns-in_default c = short_signer c.in-Some.ensures.some c.if-len-bytes.false

pub returns-in_default-2 : goal.returns-in_default-2
returns-in_default-2 c = headless_signer (rw c.in_default.is at c.read_header.ensures.none)
