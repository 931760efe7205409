use Rattle.raft_records.proofs.Common.{ℕ, ◌%◌, ◌^◌, Some, subst, arith, IsLogBatch}
use Rattle.raft_records.proofs.FrameLemmas.{one_file_readable}
use Rattle.raft_records.proofs.laws.log_batches_belong_to_one_file.Goals as goal

pub returns-clause-other_file : goal.returns-clause-other_file
returns-clause-other_file c =
    λ bytes seq seq' items items' h k. one_file_readable bytes (seq % 2 ^ 32) (seq' % 2 ^ 32) items items' (omega arith) (omega arith) h k

pub returns-clause-same_bits : goal.returns-clause-same_bits
returns-clause-same_bits c =
    λ bytes es seq seq' items same h. subst (λ (s : ℕ). IsLogBatch bytes (Some s) items es) same h
