-- The look-ups of two words come to their steps.
use Rattle.std.proofs.Common.{◌∙◌}
use lib.Bits.{xor_comm}
use Rattle.raft_checksum.proofs.WordLemmas.{words_looked_up}
use Rattle.raft_checksum.proofs.checksum.register_after_two_words.Goals as goal

pub returns : goal.returns
returns c =
    xor_comm c.word_then_zeros.result c.word_then_zeros-2.result
    ∙ words_looked_up c.args.first c.args.second c.word_then_zeros-2.result c.word_then_zeros.result c.word_then_zeros-2.ensures c.word_then_zeros.ensures
