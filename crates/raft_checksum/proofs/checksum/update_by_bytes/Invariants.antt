-- The register and the bytes that are left come to what the whole does.
use Rattle.raft_checksum.proofs.Common.{◌≡◌, drop, register_after}
use Rattle.raft_checksum.proofs.checksum.update_by_bytes.Given as goal

abbrev pub invariant-loop-byte : goal.invariant-loop-byte
invariant-loop-byte l = register_after l.register (drop l.byte-index l.bytes) ≡ register_after l.fn.register l.bytes
