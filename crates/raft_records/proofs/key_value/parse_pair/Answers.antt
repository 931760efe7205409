use Rattle.raft_records.proofs.Common.{at_exit}
use Rattle.raft_records.proofs.ItemLemmas.{no_key, no_value, no_put, no_del}
use Rattle.raft_records.proofs.key_value.parse_pair.Goals as goal

pub returns-in_err-key-in-Put-clause-refused : goal.returns-in_err-key-in-Put-clause-refused
returns-in_err-key-in-Put-clause-refused c =
    at_exit _ c.from_residual-in_err-key-in-Put.ensures.1 (λ _ _. no_put (rw (c.in_ok-from_u8.ensures.ok, c.in-Put.is) at c.in-Some.ensures.cases.0) (no_key c.in_err-key-in-Put.ensures.refused))

pub returns-in_err-value-in-Put-clause-refused : goal.returns-in_err-value-in-Put-clause-refused
returns-in_err-value-in-Put-clause-refused c =
    at_exit _ c.from_residual-in_err-value-in-Put.ensures.1 (λ _ _. no_put (rw (c.in_ok-from_u8.ensures.ok, c.in-Put.is) at c.in-Some.ensures.cases.0) (no_value c.in_ok-key-in-Put.ensures.ok c.in_err-value-in-Put.ensures.refused))

pub returns-in_err-key-in-Del-clause-refused : goal.returns-in_err-key-in-Del-clause-refused
returns-in_err-key-in-Del-clause-refused c =
    at_exit _ c.from_residual-in_err-key-in-Del.ensures.1 (λ _ _. no_del (rw (c.in_ok-from_u8.ensures.ok, c.in-Del.is) at c.in-Some.ensures.cases.0) c.in_err-key-in-Del.ensures.refused)
