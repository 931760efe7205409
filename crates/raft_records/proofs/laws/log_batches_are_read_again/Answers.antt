use Rattle.raft_records.proofs.FrameLemmas.{header_one, readable, parts, one_log_batch}
use Rattle.raft_records.proofs.laws.log_batches_are_read_again.Goals as goal

pub returns-clause-sections : goal.returns-clause-sections
returns-clause-sections c = parts

pub returns-clause-readable : goal.returns-clause-readable
returns-clause-readable c = readable

pub returns-clause-one_header : goal.returns-clause-one_header
returns-clause-one_header c = header_one

pub returns-clause-one_batch : goal.returns-clause-one_batch
returns-clause-one_batch c = one_log_batch
