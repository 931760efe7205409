-- What the reader of a size's number holds between its steps.
use Rattle.std.specs.Prelude.{◌≡◌, ◌≢◌, ◌⊎◌, ◌≤◌, ◌*◌, ◌/◌, ◌^◌, ◌-◌, ◌==◌, ◌||◌, ⊤, min, ℕ, Bool, false, if◌then◌else◌, List, [], ◌∷◌, ◌++◌}
use Rattle.std.specs.Char.{digit_value}
use Rattle.std.specs.Str.Parse.{AllDigits}
use Rattle.raft_size.specs.declared.size_number.SizeNumber.{SizeNumber}
use Rattle.raft_size.specs.SizeNumber.{Number}

-- a minus sign stands in front
abbrev pub has_minus : List ℕ → Bool
has_minus [] = false
has_minus (c ∷ cs) = c == 45

-- what follows a sign, or all where none stands in front
abbrev pub behind_sign : List ℕ → List ℕ
behind_sign [] = []
behind_sign (c ∷ cs) = if c == 45 || c == 43 then cs else c ∷ cs

-- no digit stands in front
abbrev pub NoDigitFirst : List ℕ → Type 0
NoDigitFirst [] = ⊤
NoDigitFirst (c ∷ cs) = 10 ≤ digit_value c

-- no point stands in front
abbrev pub NoPointFirst : List ℕ → Type 0
NoPointFirst [] = ⊤
NoPointFirst (c ∷ cs) = c ≢ 46

-- a point with the digits after it was taken off, or no point stands there
abbrev pub TakesFraction : List ℕ → List ℕ → List ℕ → Type 0
TakesFraction behind fraction rest =
    (behind ≡ 46 ∷ (fraction ++ rest)) ⊎ ((behind ≡ rest) × (fraction ≡ []) × NoPointFirst rest)

-- the number that the reader found
abbrev pub number_shown : SizeNumber → Number
number_shown n = record {
  minus = n.is_negative;
  whole = n.whole.now;
  fraction = n.fraction.now;
  exponent_minus = n.is_exponent_negative;
  exponent = n.exponent.now;
}

-- nothing but digits in each of the three
pub record HasDigitsAlone (n : Number) : Type 0 where
  pub whole : AllDigits 10 n.whole
  pub fraction : AllDigits 10 n.fraction
  pub exponent : AllDigits 10 n.exponent

-- multiplied by powers of ten and divided by others, capped at the greatest size
abbrev pub scaled_size : ℕ → ℕ → ℕ → ℕ
scaled_size value up down = min (2 ^ 64 - 1) (value * 10 ^ up / 10 ^ down)
