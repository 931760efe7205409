use Rattle.raft_size.proofs.Common.{sym, ◌∙◌, arith, prefix_len_is, is_number_character}
use Rattle.raft_size.proofs.size_text.number_prefix_len.Goals as goal

pub returns-then-not-is_number_byte : goal.returns-then-not-is_number_byte
returns-then-not-is_number_byte c =
    sym (prefix_len_is is_number_character c.args.text.now c.loop-len.len 0 (omega arith) c.loop-len.invariant (λ _. sym c.is_number_byte.ensures ∙ c.if-not-is_number_byte.true))

pub returns : goal.returns
returns c = sym (prefix_len_is is_number_character c.args.text.now _ 0 (omega arith) (λ k h. c.loop-len.invariant k (omega arith)) (λ h. absurd (omega (arith, h))))
