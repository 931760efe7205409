use Rattle.raft_tail.proofs.Common.{refl}
use Rattle.raft_tail.proofs.WholeLemmas.{no_seal, not_counted, sealed}
use Rattle.raft_tail.proofs.items.begins_with_whole_items.Goals as goal

pub returns-in_default-clause-ok : goal.returns-in_default-clause-ok
returns-in_default-clause-ok c = not_counted (rw c.in_default.is at c.in_ok-rest.ensures.ok)

pub returns-in-Ok-clause-ok : goal.returns-in-Ok-clause-ok
returns-in-Ok-clause-ok c =
    sealed (rw c.in-Some.is at c.in_ok-rest.ensures.ok) c.split_at.ensures.front c.in-Ok.ensures.ok c.crc32.ensures c.sign_checksum.ensures c.sign_checksum.type_inv

pub returns-in-Err-clause-ok : goal.returns-in-Err-clause-ok
returns-in-Err-clause-ok c = no_seal (rw c.in-Some.is at c.in_ok-rest.ensures.ok) (c.in-Err.ensures.refused.0 refl)
