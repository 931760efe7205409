use Rattle.raft_tail.proofs.Common.{refl}
use Rattle.raft_tail.proofs.SignerLemmas.{only_signer}
use Rattle.raft_tail.proofs.elsewhere.item_batch_signature.Goals as goal

pub returns-in-Ok : goal.returns-in-Ok
returns-in-Ok c =
    only_signer c.split_at.ensures.front c.split_at.ensures.back refl c.if-bytes-le-LOG_BATCH_CHECKSUM_LEN.false c.in-Ok.ensures.ok c.crc32.ensures c.crc32.type_inv
