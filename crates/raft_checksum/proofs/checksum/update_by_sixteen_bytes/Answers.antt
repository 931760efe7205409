-- Two words join the register.
use Rattle.raft_checksum.proofs.Common.{◌∙◌, sym, arith, bit_xor, crc_steps}
use Rattle.raft_checksum.proofs.WordLemmas.{none_behind}
use Rattle.raft_checksum.proofs.checksum.update_by_sixteen_bytes.Goals as goal

pub returns : goal.returns
returns c =
    c.register_after_two_words.ensures
    ∙ sym (none_behind (crc_steps 64 (bit_xor (crc_steps 64 (bit_xor c.args.register c.first_eight_bytes-first.result.0)) c.first_eight_bytes-second.result.0)) c.first_eight_bytes-second.result.1.now
    (omega (arith, c.first_eight_bytes-first.ensures.behind, c.first_eight_bytes-second.ensures.behind)))
    ∙ c.first_eight_bytes-second.ensures.joins (crc_steps 64 (bit_xor c.args.register c.first_eight_bytes-first.result.0))
    ∙ c.first_eight_bytes-first.ensures.joins c.args.register
