-- Sizes as texts.
use Rattle.std.specs.Prelude.{◌≡◌, ◌≢◌, ◌<◌, ◌≤◌, ◌||◌, ◌==◌, ℕ, Bool, List, [], length, take, drop}
use Rattle.std.specs.Char.{is_ascii_digit}
use Rattle.std.specs.List.{prefix_len}
use Rattle.std.specs.Str.{IsAscii, IsNotAscii, trim}
use Rattle.raft_size.specs.declared.size_text.SizeError.{SizeError}
use Rattle.raft_size.specs.declared.size_text.SizeError.TheVariants as faults
use Rattle.raft_size.specs.SizeNumber.{Number, IsNumber, digits_of, significant, size_of}
use Rattle.raft_size.specs.SizeUnits.{IsUnit}

-- a digit, a point, e, E or a sign
abbrev pub is_number_character : ℕ → Bool
is_number_character c = is_ascii_digit c || c == 46 || c == 101 || c == 69 || c == 45 || c == 43

-- how long the longest front of such characters is
abbrev pub number_len : List ℕ → ℕ
number_len text = prefix_len is_number_character text

-- that front
abbrev pub number_text : List ℕ → List ℕ
number_text text = take (number_len text) text

-- the rest without the white space round it
abbrev pub unit_text : List ℕ → List ℕ
unit_text text = trim (drop (number_len text) text)

-- a text in ASCII that ends in a unit
pub record HasUnit (text : List ℕ) (factor : ℕ) : Type 0 where
  pub some_text : text ≢ []
  pub ascii : IsAscii text
  pub unit : IsUnit (unit_text text) factor

-- a number of at most twenty digits, and a unit after it
pub record SpellsSize (text : List ℕ) (size : ℕ) : Type 0 where
  pub factor : ℕ
  pub number : Number
  pub has_unit : HasUnit text factor
  pub is_number : IsNumber (number_text text) number
  pub few_digits : length (significant (digits_of number)) ≤ 20
  pub value : size ≡ size_of number factor

-- a text in ASCII that ends in no unit
pub record LacksUnit (text : List ℕ) : Type 0 where
  pub some_text : text ≢ []
  pub ascii : IsAscii text
  pub no_unit : (factor : ℕ) → IsUnit (unit_text text) factor → ⊥

-- no number in front of the unit
pub record LacksNumber (text : List ℕ) : Type 0 where
  pub factor : ℕ
  pub has_unit : HasUnit text factor
  pub no_number : (number : Number) → IsNumber (number_text text) number → ⊥

-- a number of more than twenty digits there
pub record HasManyDigits (text : List ℕ) : Type 0 where
  pub factor : ℕ
  pub number : Number
  pub has_unit : HasUnit text factor
  pub is_number : IsNumber (number_text text) number
  pub many_digits : 20 < length (significant (digits_of number))

-- why a text spells no size
abbrev pub IsSpellingFault : List ℕ → SizeError → Type 0
IsSpellingFault text faults.Empty = text ≡ []
IsSpellingFault text faults.NotAscii = IsNotAscii text
IsSpellingFault text faults.Unit = LacksUnit text
IsSpellingFault text faults.Number = LacksNumber text
IsSpellingFault text faults.Digits = HasManyDigits text
IsSpellingFault text faults.Kind = ⊥

-- the text stands for a size, white space round it aside
abbrev pub IsSizeText : List ℕ → ℕ → Type 0
IsSizeText text = SpellsSize (trim text)

-- why a text stands for no size
abbrev pub IsSizeFault : List ℕ → SizeError → Type 0
IsSizeFault text = IsSpellingFault (trim text)
