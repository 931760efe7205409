-- What the contracts of this crate import of std, of the crates below and of the definitions, in one place.
pub use Rattle.std.specs.Fmt.{decimal}
pub use Rattle.std.specs.Str.{IsAscii}
pub use Rattle.std.specs.Str.Parse.{AllDigits, IsNumeral, digits_value, digits_value_after}
pub use Rattle.serde.specs.Event.{Logs, text}
pub use Rattle.toml.specs.View.{view}
pub use Rattle.raft_size.specs.SizeNumber.{IsExponent, IsNumber, Number, digits_of, significant, size_of}
pub use Rattle.raft_size.specs.SizePrint.{size_text}
pub use Rattle.raft_size.specs.SizeReading.{HasDigitsAlone, NoDigitFirst, TakesFraction, behind_sign, has_minus, number_shown, scaled_size}
pub use Rattle.raft_size.specs.SizeText.{IsSizeFault, IsSizeText, IsSpellingFault, SpellsSize, is_number_character, number_len}
pub use Rattle.raft_size.specs.SizeUnits.{IsUnit}
pub use Rattle.raft_size.specs.SizeValue.{IsReadAs, IsValueReadAs, ReadsSize}
