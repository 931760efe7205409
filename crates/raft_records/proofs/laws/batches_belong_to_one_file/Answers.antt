use Rattle.raft_records.proofs.Common.{ℕ, ◌%◌, ◌^◌, Some, subst, arith, IsItemBatch}
use Rattle.raft_records.proofs.BatchLemmas.{one_file}
use Rattle.raft_records.proofs.laws.batches_belong_to_one_file.Goals as goal

pub returns-clause-other_file : goal.returns-clause-other_file
returns-clause-other_file c =
    λ bytes rest rest' seq seq' items items' b d. one_file bytes rest rest' (seq % 2 ^ 32) (seq' % 2 ^ 32) items items' (omega arith) (omega arith) b d

pub returns-clause-same_bits : goal.returns-clause-same_bits
returns-clause-same_bits c =
    λ bytes rest seq seq' items same b. subst (λ (s : ℕ). IsItemBatch bytes (Some s) items rest) same b
