use Rattle.raft_records.proofs.Common.{at_exit}
use Rattle.raft_records.proofs.ItemLemmas.{no_length, too_long_text}
use Rattle.raft_records.proofs.key_value.parse_byte_string.Goals as goal

pub returns-in_err-len-clause-refused : goal.returns-in_err-len-clause-refused
returns-in_err-len-clause-refused c = at_exit _ c.from_residual.ensures.1 (λ _ _. no_length c.in_err-len.ensures.refused)

pub returns-in_err-format-clause-refused : goal.returns-in_err-format-clause-refused
returns-in_err-format-clause-refused c = at_exit _ c.from_residual-in_err-format.ensures.1 (λ _ _. too_long_text c.in_ok-len.ensures.ok c.if-len-rest.true)

pub returns-then-len-rest-clause-refused : goal.returns-then-len-rest-clause-refused
returns-then-len-rest-clause-refused c = too_long_text c.in_ok-len.ensures.ok c.if-len-rest.true
