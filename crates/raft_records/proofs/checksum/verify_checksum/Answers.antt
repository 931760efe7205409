use Rattle.raft_records.proofs.Common.{inr}
use Rattle.raft_records.proofs.SealLemmas.{checksum_fault}
use Rattle.raft_records.proofs.checksum.verify_checksum.Goals as goal

pub returns-then-found-sign_checksum-clause-fault : goal.returns-then-found-sign_checksum-clause-fault
returns-then-found-sign_checksum-clause-fault c =
    inr (checksum_fault _ _ c.split_at.ensures.front c.split_at.ensures.back c.read_checksum-found.type_inv c.read_checksum-found.ensures
    c.crc32-actual.ensures c.sign_checksum.ensures c.if-found-sign_checksum.true (rw (← c.sign_checksum-expected.ensures, ← c.crc32-actual.ensures) c.in_ok-format-2.ensures.ok))
