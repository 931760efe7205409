-- The register and the bytes that are left come to what the whole does.
use Rattle.raft_checksum.proofs.Common.{◌≡◌, length, register_after}
use Rattle.raft_checksum.proofs.checksum.update_by_sixteens.Given as goal

abbrev pub invariant-loop-rest : goal.invariant-loop-rest
invariant-loop-rest l = register_after l.register l.rest ≡ register_after l.fn.register l.bytes

abbrev pub decreases-loop-rest : goal.decreases-loop-rest
decreases-loop-rest l = length l.rest
