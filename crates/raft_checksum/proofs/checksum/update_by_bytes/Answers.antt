-- Each byte joins the register by its look-up.
use Rattle.std.proofs.Common.{◌∙◌, sym, arith}
use Rattle.raft_checksum.proofs.WordLemmas.{byte_next, bytes_done}
use Rattle.raft_checksum.proofs.checksum.update_by_bytes.Goals as goal

pub loop-byte-preserved : goal.loop-byte-preserved
loop-byte-preserved c =
    byte_next c.loop-byte.register c.byte_then_zeros.result c.loop-byte.byte-index c.args.bytes.now c.loop-byte-test.true
    (λ k. let fits = c.type_inv.bytes k in omega arith) c.byte_then_zeros.ensures
    ∙ c.loop-byte.invariant

pub returns : goal.returns
returns c = sym (bytes_done c.loop-byte.register c.loop-byte.byte-index c.args.bytes.now c.loop-byte-test.false) ∙ c.loop-byte.invariant
