use Rattle.std.proofs.Common.{inl, inr, refl, rules}
use Rattle.raft_size.proofs.SizeExponentLemmas.{exponent_read}
use Rattle.raft_size.proofs.size_number.parse_exponent.Goals as goal

pub returns-in-101-clause-exponent : goal.returns-in-101-clause-exponent
returns-in-101-clause-exponent c =
    exponent_read c.parse_power.result c.args.text.now 101 (inl refl) c.in-101.len_at_least (search rules) c.parse_power.ensures.minus c.parse_power.ensures.digits c.parse_power.ensures.numeral

pub returns-in-69-clause-exponent : goal.returns-in-69-clause-exponent
returns-in-69-clause-exponent c =
    exponent_read c.parse_power-in-69.result c.args.text.now 69 (inr refl) c.in-69.len_at_least (search rules) c.parse_power-in-69.ensures.minus c.parse_power-in-69.ensures.digits c.parse_power-in-69.ensures.numeral
