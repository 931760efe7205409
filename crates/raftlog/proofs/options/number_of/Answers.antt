use Rattle.std.proofs.Common.{decimal}
use Rattle.std.specs.Str.Parse.{ExplainsUnsignedError, HasUnsignedDigitsIfOk, ParsesUnsigned}
use Rattle.raftlog.proofs.WordLemmas.{number_read}
use Rattle.raftlog.proofs.options.number_of.Goals as goal

-- the text is read as a number
pub returns : goal.returns
returns c = record {
  named = λ n low is. number_read (λ text r. ParsesUnsigned 64 10 text r × ExplainsUnsignedError 10 text r × HasUnsignedDigitsIfOk text r) (λ text r gives. gives.0) n c.get_one.result low (c.get_one.ensures.value (decimal n) is);
  unnamed = λ none. c.get_one.ensures.none none;
}
