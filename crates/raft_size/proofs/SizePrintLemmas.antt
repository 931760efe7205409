-- What is printed of a size stands for that size.
use Rattle.raft_size.proofs.Common.{◌≡◌, ◌≢◌, ℕ, ◌-◌, ◌*◌, ◌/◌, ◌%◌, ◌^◌, ◌<◌, ◌≤◌, ◌==◌, min, true, false, List, [], ◌∷◌, ◌++◌, length, take, drop, codes, if◌then◌else◌, refl, sym, ap, subst, ◌∙◌, inl, inr, lit<, arith, rules, ⊤}
use Rattle.raft_size.proofs.Common.{digit_value, is_whitespace, decimal, IsAscii, encode_utf8_all, trim, trim_start, trim_end, skip_leading_whitespace, drop_trailing_whitespace, AllDigits, digits_value, cases_eq, eq-eqb, ne_eqb, nat_tests}
use Rattle.raft_size.proofs.Common.{decimal_is_IsNumeral, decimal_digit, append-nil, length-append, take_at, drop_at, div-add-mod', chars-IsAscii, encodes-IsAscii, IsAscii-nil, IsAscii-cons, digit_from_value, div-le_self, div-one, mul-one}
use Rattle.raft_size.proofs.Common.{mod-one, Number, IsNumber, size_text, is_number_character, number_len, number_text, unit_text, SpellsSize, IsSizeText, IsUnit}
use Rattle.raft_size.proofs.SizeDigitLemmas.{few_digits}

-- ---- characters that show

abbrev IsGraphic : List ℕ → Type 0
IsGraphic [] = ⊤
IsGraphic (c ∷ cs) = (33 ≤ c) × (c ≤ 126) × IsGraphic cs

graphic_append : (xs ys : List ℕ) → IsGraphic xs → IsGraphic ys → IsGraphic (xs ++ ys)
graphic_append [] ys g h = h
graphic_append (x ∷ xs) ys g h = (g.0, g.1, graphic_append xs ys g.2 h)

graphic_digits : (ds : List ℕ) → AllDigits 10 ds → IsGraphic ds
graphic_digits [] h = tt
graphic_digits (d ∷ ds) h = let r = digit_from_value d h.0 in (omega (arith, r.0), omega (arith, r.1), graphic_digits ds h.1)

graphic_ascii : (text : List ℕ) → IsGraphic text → IsAscii text
graphic_ascii [] g = IsAscii-nil
graphic_ascii (c ∷ cs) g = IsAscii-cons c cs (omega (arith, g.1)) (graphic_ascii cs g.2)

no_space : (c : ℕ) → 33 ≤ c → c ≤ 126 → is_whitespace c ≡ false
no_space c low high = grind (arith, nat_tests)

skip_graphic : (text : List ℕ) → IsGraphic text → skip_leading_whitespace text ≡ text
skip_graphic [] g = refl
skip_graphic (c ∷ cs) g = rw (no_space c g.0 g.1) refl

drop_graphic : (text : List ℕ) → IsGraphic text → drop_trailing_whitespace text ≡ text
drop_graphic [] g = refl
drop_graphic (c ∷ cs) g = rw (no_space c g.0 g.1) (ap (λ (rest : List ℕ). c ∷ rest) (drop_graphic cs g.2))

trim_start_graphic : (text : List ℕ) → IsGraphic text → trim_start text ≡ text
unfolding trim_start
trim_start_graphic text g =
    let ascii = graphic_ascii text g in
    ap (λ (cs : List ℕ). encode_utf8_all (skip_leading_whitespace cs)) (chars-IsAscii text ascii) ∙ ap encode_utf8_all (skip_graphic text g) ∙ encodes-IsAscii text ascii

trim_end_graphic : (text : List ℕ) → IsGraphic text → trim_end text ≡ text
unfolding trim_end
trim_end_graphic text g =
    let ascii = graphic_ascii text g in
    ap (λ (cs : List ℕ). encode_utf8_all (drop_trailing_whitespace cs)) (chars-IsAscii text ascii) ∙ ap encode_utf8_all (drop_graphic text g) ∙ encodes-IsAscii text ascii

trim_graphic : (text : List ℕ) → IsGraphic text → trim text ≡ text
trim_graphic text g = ap trim_end (trim_start_graphic text g) ∙ trim_end_graphic text g

-- ---- a number with a unit behind it

digit_passes : (c : ℕ) → digit_value c < 10 → is_number_character c ≡ true
digit_passes c digit = let r = digit_from_value c digit in let low : 48 ≤ c = r.0 in let high : c ≤ 57 = r.1 in grind (arith, nat_tests)

number_len_digits : (ds unit : List ℕ) → AllDigits 10 ds → number_len unit ≡ 0 → number_len (ds ++ unit) ≡ length ds
number_len_digits [] unit h stops = stops
number_len_digits (d ∷ ds) unit h stops = rw (digit_passes d h.0) (let more = number_len_digits ds unit h.1 stops in omega (arith, more))

printed_number : (digits : List ℕ) → Number
printed_number digits = record { minus = false; whole = digits; fraction = []; exponent_minus = false; exponent = [] }

printed_spells : (q factor : ℕ) (unit : List ℕ) → q < 2 ^ 64 → q * factor < 2 ^ 64 → IsUnit unit factor → IsGraphic unit → number_len unit ≡ 0 → SpellsSize (decimal q ++ unit) (q * factor)
unfolding printed_number
printed_spells q factor unit small fits is_unit visible stops =
    let numeral = decimal_is_IsNumeral q small in
    let digits = decimal q in
    let text = digits ++ unit in
    let front : number_len text ≡ length digits = number_len_digits digits unit numeral.0.1 stops in
    let graphic : IsGraphic text = graphic_append digits unit (graphic_digits digits numeral.0.1) visible in
    let number : number_text text ≡ digits = ap (λ (n : ℕ). take n text) front ∙ take_at digits unit (length digits) refl in
    let rest : unit_text text ≡ unit = ap (λ (n : ℕ). trim (drop n text)) front ∙ ap trim (drop_at digits unit (length digits) refl) ∙ trim_graphic unit visible in
    let is_number : IsNumber digits (printed_number digits) = record {
      sign = [];
      mantissa = digits;
      exponent = [];
      is_sign = inl refl;
      is_mantissa = record { whole_digits = numeral.0.1; fraction_digits = tt; some_digit = omega (arith, numeral.0.0); point = inl (refl, refl) };
      is_exponent = inl (refl, refl, refl);
      split = sym (append-nil digits);
    } in
    let value : digits_value 10 (digits ++ []) ≡ q = ap (digits_value 10) (append-nil digits) ∙ numeral.1 in
    record {
      factor = factor;
      number = printed_number digits;
      has_unit = record { some_text = λ e. omega (arith, numeral.0.0, length-append digits unit, ap length e); ascii = graphic_ascii text graphic; unit = subst (λ (t : List ℕ). IsUnit t factor) (sym rest) is_unit };
      is_number = subst (λ (t : List ℕ). IsNumber t (printed_number digits)) (sym number) is_number;
      few_digits = few_digits (digits ++ []) (subst (λ (ds : List ℕ). AllDigits 10 ds) (sym (append-nil digits)) numeral.0.1) (omega (arith, value));
      value = rw (value, mul-one, div-one) (let held : min (2 ^ 64 - 1) (q * factor) ≡ q * factor = omega arith in sym held);
    }

-- ---- the units that are printed

-- a text that spells a size and has no white space
record Shows (text : List ℕ) (n : ℕ) : Type 0 where
  spells : SpellsSize text n
  graphic : IsGraphic text

number_shows : (q factor : ℕ) (unit : List ℕ) → q < 2 ^ 64 → q * factor < 2 ^ 64 → IsUnit unit factor → IsGraphic unit → number_len unit ≡ 0 → Shows (decimal q ++ unit) (q * factor)
number_shows q factor unit small fits is_unit visible stops = record {
  spells = printed_spells q factor unit small fits is_unit visible stops;
  graphic = graphic_append (decimal q) unit (graphic_digits (decimal q) (decimal_is_IsNumeral q small).0.1) visible;
}

row_shows : (n factor : ℕ) (unit rest : List ℕ) → n < 2 ^ 64 → IsUnit unit factor → IsGraphic unit → number_len unit ≡ 0 → (n % factor ≢ 0 → Shows rest n) →
    Shows (if n % factor == 0 then decimal (n / factor) ++ unit else rest) n
row_shows n factor unit rest small is_unit visible stops other = elim (cases_eq (n % factor) 0) [
  | inl divides ↦
      (let whole : n / factor * factor ≡ n = omega (arith, div-add-mod' n factor, divides) in
      rw (eq-eqb (n % factor) 0 divides)
      (subst (Shows (decimal (n / factor) ++ unit)) whole (number_shows (n / factor) factor unit (omega (arith, div-le_self n factor)) (omega (arith, whole, small)) is_unit visible stops)))
  | inr stays ↦ rw (ne_eqb (n % factor) 0 stays) (other stays)
]

zero_shows : Shows (codes "0KiB") 0
zero_shows = subst (λ (digits : List ℕ). Shows (digits ++ codes "KiB") 0) (decimal_digit 0 (lit< tt)) (number_shows 0 (2 ^ 10) (codes "KiB") (lit< tt) (lit< tt) (search rules) (search rules) refl)

size_text_shows : (n : ℕ) → n < 2 ^ 64 → Shows (size_text n) n
size_text_shows n small = elim (cases_eq n 0) [
  | inl none ↦ rw none zero_shows
  | inr some ↦ rw (ne_eqb n 0 some)
      (row_shows n (2 ^ 50) (codes "PiB") _ small (search rules) (search rules) refl (λ _. row_shows n (2 ^ 40) (codes "TiB") _ small (search rules) (search rules) refl
      (λ _. row_shows n (2 ^ 30) (codes "GiB") _ small (search rules) (search rules) refl (λ _. row_shows n (2 ^ 20) (codes "MiB") _ small (search rules) (search rules) refl
      (λ _. row_shows n (2 ^ 10) (codes "KiB") _ small (search rules) (search rules) refl (λ _. row_shows n 1 (codes "B") _ small (search rules) (search rules) refl
      (λ odd. absurd (odd (omega (arith, mod-one n))))))))))
]

pub printed_is_size : (n : ℕ) → n < 2 ^ 64 → IsSizeText (size_text n) n
printed_is_size n small =
    let shown = size_text_shows n small in
    subst (λ (t : List ℕ). SpellsSize t n) (sym (trim_graphic (size_text n) shown.graphic)) shown.spells
