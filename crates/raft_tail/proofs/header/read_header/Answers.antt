use Rattle.raft_tail.proofs.Common.{inl, inr, too_short_for_header}
use Rattle.raft_tail.proofs.HeaderLemmas.{header_seen, no_header_seen}
use Rattle.raft_tail.proofs.header.read_header.Goals as goal

pub returns-then-bytes-lt-LOG_BATCH_HEADER_LEN-clause-none :
    goal.returns-then-bytes-lt-LOG_BATCH_HEADER_LEN-clause-none
returns-then-bytes-lt-LOG_BATCH_HEADER_LEN-clause-none c = too_short_for_header c.args.bytes.now c.if-bytes-lt-LOG_BATCH_HEADER_LEN.true

pub returns-then-len_and_type-ne0-clause-none : goal.returns-then-len_and_type-ne0-clause-none
returns-then-len_and_type-ne0-clause-none c =
    no_header_seen c.parse_u64-len_and_type.ensures.read c.parse_u64-offset.ensures.read
    (elim (c.then-len_and_type-ne0.either) [ inl type ↦ inl type | inr (inl past) ↦ inr (inl past.1) | inr (inr low) ↦ inr (inr low.2) ])

pub returns-clause-some : goal.returns-clause-some
returns-clause-some c =
    header_seen c.parse_u64-len_and_type.ensures.read c.parse_u64-offset.ensures.read c.if-len_and_type-ne0.false c.if-offset-len.false c.if-offset.false
