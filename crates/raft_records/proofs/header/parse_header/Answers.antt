use Rattle.raft_records.proofs.Common.{inl, inr, at_exit}
use Rattle.raft_records.proofs.HeaderLemmas.{unknown_type, offset_past_end, offset_in_header, type_ok, header_numbers_fault}
use Rattle.raft_records.proofs.header.parse_header.Goals as goal

pub returns-in_err-compression_type-clause-refused :
    goal.returns-in_err-compression_type-clause-refused
returns-in_err-compression_type-clause-refused c =
    at_exit _ c.from_residual-in_err-compression_type.ensures.1 (λ _ _. unknown_type _ _ _ _ _ c.parse_u64-len_and_type.ensures.read c.parse_u64-offset.ensures.read c.in_err-compression_type.ensures.fault.0)

pub returns-in_err-compression_type-clause-fault :
    goal.returns-in_err-compression_type-clause-fault
returns-in_err-compression_type-clause-fault c =
    at_exit c.from_residual-in_err-compression_type.result c.from_residual-in_err-compression_type.ensures.1 (λ _ is. rw is (inr (header_numbers_fault _ _ _ _ _ _ c.parse_u64-len_and_type.ensures.read
    c.parse_u64-offset.ensures.read (inl c.in_err-compression_type.ensures.fault))))

pub returns-then-offset-len-clause-refused : goal.returns-then-offset-len-clause-refused
returns-then-offset-len-clause-refused c =
    offset_past_end _ _ _ _ _ c.parse_u64-len_and_type.ensures.read c.parse_u64-offset.ensures.read c.if-offset-len.true

pub returns-then-offset-len-clause-fault : goal.returns-then-offset-len-clause-fault
returns-then-offset-len-clause-fault c =
    inr (header_numbers_fault _ _ _ _ _ _ c.parse_u64-len_and_type.ensures.read c.parse_u64-offset.ensures.read (inr (type_ok _ _ c.in_ok-compression_type.ensures.ok, inl (c.if-offset-len.true, c.corruption.ensures))))

pub returns-then-offset-clause-refused : goal.returns-then-offset-clause-refused
returns-then-offset-clause-refused c =
    offset_in_header _ _ _ _ _ c.parse_u64-len_and_type.ensures.read c.parse_u64-offset.ensures.read c.if-offset.true

pub returns-then-offset-clause-fault : goal.returns-then-offset-clause-fault
returns-then-offset-clause-fault c =
    inr (header_numbers_fault _ _ _ _ _ _ c.parse_u64-len_and_type.ensures.read c.parse_u64-offset.ensures.read
    (inr (type_ok _ _ c.in_ok-compression_type.ensures.ok, inr (c.if-offset-len.false, c.if-offset.true, c.corruption-then-offset.ensures))))
