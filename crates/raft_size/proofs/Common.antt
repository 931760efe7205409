-- What proofs of this crate import of std, of the definitions and of the crates below, in one place.
pub use Rattle.std.proofs.Common.{Bool, Bor, Err, IfNone, IfSome, List, None, Ok, Option, Result, Some, [], ap, arith, codes, drop, false, get_or, if◌then◌else◌, inl, inr, le-leb, length, lit<, lit≤, min, not, refl, rules, subst, suc, sym}
pub use Rattle.std.proofs.Common.{take, true, zero-add, ℕ, ◌%◌, ◌&&◌, ◌*◌, ◌++◌, ◌+◌, ◌-◌, ◌/◌, ◌<◌, ◌==◌, ◌^◌, ◌∙◌, ◌∷◌, ◌≡◌, ◌≢◌, ◌≤◌, ◌⊎◌}
pub use Rattle.std.proofs.Math.Nat.{div-eq_of_lt, div-le_self, div-one, mod-one, mul-div-mul_right, mul-div_cancel, mul-le-mul_left, mul-le-mul_right, mul-one, mul_assoc, one-le-pow, pow-le-pow_right, pow-suc, zero-div, zero-mul}
pub use Rattle.std.proofs.lemmas.Bool.{and_parts, both_ways, cases_eq, cases_lt, eq-eqb, eqb-false, eqb-true, ne_eqb, not-true}
pub use Rattle.std.proofs.lemmas.Bool.Decides.{nat_tests}
pub use Rattle.std.proofs.lemmas.Fmt.{decimal_digit, decimal_is_IsNumeral}
pub use Rattle.std.proofs.lemmas.Int.Digits.{digits_more, digits_value-lt}
pub use Rattle.std.proofs.lemmas.List.{append-nil, append_assoc, drop_at, get_or_past, length-append, take_at, take_more, take_rest}
pub use Rattle.std.proofs.lemmas.List.Sums.{prefix_len-le-length, prefix_len_is}
pub use Rattle.std.proofs.lemmas.Nat.{div-add-mod', le-div, pow-add}
pub use Rattle.std.proofs.lemmas.Str.{IsCharBoundary-from_ascii, chars-IsAscii, digit_value_digit, encodes-IsAscii}
pub use Rattle.std.proofs.lemmas.Str.Ascii.{IsAscii-cons, IsAscii-nil}
pub use Rattle.std.proofs.lemmas.Str.Parse.{digit_at, digit_from_value}
pub use Rattle.std.specs.Bool.{⊤}
pub use Rattle.std.specs.Char.{digit_value, is_whitespace}
pub use Rattle.std.specs.Cmp.{unsigned_Decides}
pub use Rattle.std.specs.Cmp.Lexicographic.{pointwise, pointwise_decides}
pub use Rattle.std.specs.Fmt.{decimal}
unfoldable pub use Rattle.std.specs.Fmt.Cut.{cut_to}
pub use Rattle.std.specs.Fmt.InlineText.{inline_text}
pub use Rattle.std.specs.Prelude.{nat_eq}
pub use Rattle.std.specs.Result.{OnOk}
pub use Rattle.std.specs.Str.{IsAscii, IsNotAscii, drop_trailing_whitespace, encode_utf8_all, skip_leading_whitespace, trim}
unfoldable pub use Rattle.std.specs.Str.{trim_end, trim_start}
pub use Rattle.std.specs.Str.Parse.{AllDigits, IsNumeral, digits_value, digits_value_after}
pub use Rattle.raft_size.specs.SizeNumber.{IsExponent, IsMantissa, IsNumber, IsPower, IsSign, Number, digits_of, significant, size_of}
pub use Rattle.raft_size.specs.SizePrint.{size_text}
pub use Rattle.raft_size.specs.SizeReading.{NoDigitFirst, NoPointFirst, TakesFraction, behind_sign, has_minus, number_shown, scaled_size}
pub use Rattle.raft_size.specs.SizeText.{HasManyDigits, HasUnit, IsSizeText, IsSpellingFault, LacksNumber, SpellsSize, is_number_character, number_len, number_text, unit_text}
pub use Rattle.raft_size.specs.SizeUnits.{IsAmong, IsUnit, units}
pub use Rattle.raft_size.specs.SizeValue.{IsReadAs}
pub use Rattle.raft_size.specs.declared.readable_size.ReadableSize.{ReadableSize}
pub use Rattle.raft_size.specs.declared.size_text.SizeError.{SizeError}
pub use Rattle.serde.specs.Event.{Logs, text}
