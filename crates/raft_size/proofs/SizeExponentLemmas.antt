-- The signs and exponents of numbers, as their reader finds them.
use Rattle.raft_size.proofs.Common.{◌≡◌, ◌≢◌, ◌⊎◌, ℕ, ◌-◌, ◌<◌, ◌≤◌, Bool, true, false, Option, None, Some, IfSome, Bor, List, [], ◌∷◌, ◌++◌, length, get_or, take, drop, refl, sym, ap, subst, ◌∙◌, inl, inr, arith, ⊤, digit_value, IsNumeral}
use Rattle.raft_size.proofs.Common.{cases_eq, ne_eqb, append_assoc, take_rest, digit_from_value, IsSign, IsPower, IsExponent, has_minus, behind_sign, NoDigitFirst, NoPointFirst}

-- ---- signs

-- every text is a sign and what stands behind it
pub sign_split : (text : List ℕ) → (sign : List ℕ) × IsSign sign (has_minus text) × (text ≡ sign ++ behind_sign text)
sign_split [] = ([], inl refl, refl)
sign_split (c ∷ cs) = elim (cases_eq c 45) [
  | inl minus ↦ rw minus (45 ∷ [], refl, refl)
  | inr no_minus ↦ elim (cases_eq c 43) [
    | inl plus ↦ rw plus (43 ∷ [], inr refl, refl)
    | inr no_plus ↦ rw (ne_eqb c 45 no_minus, ne_eqb c 43 no_plus) ([], inl refl, refl)
  ]
]

abbrev pub NoSignFirst : List ℕ → Type 0
NoSignFirst [] = ⊤
NoSignFirst (c ∷ cs) = (c ≢ 45) × (c ≢ 43)

no_sign : (body : List ℕ) → NoSignFirst body → (has_minus body ≡ false) × (behind_sign body ≡ body)
no_sign [] free = (refl, refl)
no_sign (c ∷ cs) free = rw (ne_eqb c 45 free.0, ne_eqb c 43 free.1) (refl, refl)

pub sign_found : (sign body : List ℕ) (minus : Bool) → IsSign sign minus → NoSignFirst body → (has_minus (sign ++ body) ≡ minus) × (behind_sign (sign ++ body) ≡ body)
sign_found sign body true h free = rw h (refl, refl)
sign_found sign body false (inl h) free = rw h (no_sign body free)
sign_found sign body false (inr h) free = rw h (refl, refl)

pub digit_no_sign : (c : ℕ) (cs : List ℕ) → digit_value c < 10 → NoSignFirst (c ∷ cs)
digit_no_sign c cs digit = let r = digit_from_value c digit in (λ e. omega (arith, r.0, r.1, e), λ e. omega (arith, r.0, r.1, e))

-- ---- exponents

-- a letter, and a sign with digits behind it
record PowerAt (text : List ℕ) (minus : Bool) (digits : List ℕ) : Type 0 where
  letter : ℕ
  power : List ℕ
  is_letter : (letter ≡ 101) ⊎ (letter ≡ 69)
  split : text ≡ letter ∷ power
  minus_is : has_minus power ≡ minus
  digits_are : behind_sign power ≡ digits
  numeral : IsNumeral 10 digits

numeral_no_sign : (digits : List ℕ) → IsNumeral 10 digits → NoSignFirst digits
numeral_no_sign [] h = tt
numeral_no_sign (c ∷ cs) h = digit_no_sign c cs h.1.0

power_at : (text : List ℕ) (minus : Bool) (digits : List ℕ) → IsPower text minus digits → PowerAt text minus digits
power_at text minus digits h =
    let found = sign_found h.sign digits minus h.is_sign (numeral_no_sign digits h.is_numeral) in
    let at : (c : ℕ) → (c ≡ 101) ⊎ (c ≡ 69) → h.letter ≡ c ∷ [] → PowerAt text minus digits =
    λ c is_letter e. record {
      letter = c;
      power = h.sign ++ digits;
      is_letter = is_letter;
      split = h.split ∙ append_assoc h.letter h.sign digits ∙ ap (λ (m : List ℕ). m ++ (h.sign ++ digits)) e;
      minus_is = found.0;
      digits_are = found.1;
      numeral = h.is_numeral;
    } in
    elim h.is_letter [ inl e ↦ at 101 (inl refl) e | inr e ↦ at 69 (inr refl) e ]

-- what stands behind a letter is the power
pub power_behind : (letter : ℕ) (power : List ℕ) → (letter ≡ 101) ⊎ (letter ≡ 69) → IsNumeral 10 (behind_sign power) → IsExponent (letter ∷ power) (has_minus power) (behind_sign power)
power_behind letter power is_letter numeral =
    let sign = sign_split power in
    inr (record {
      letter = letter ∷ [];
      sign = sign.0;
      is_letter = elim is_letter [ inl e ↦ inl (ap (λ (c : ℕ). c ∷ []) e) | inr e ↦ inr (ap (λ (c : ℕ). c ∷ []) e) ];
      is_sign = sign.1;
      is_numeral = numeral;
      split = ap (λ (p : List ℕ). letter ∷ p) sign.2;
    })

-- an exponent begins with its letter
pub exponent_marked : (c : ℕ) (cs : List ℕ) (minus : Bool) (digits : List ℕ) → IsExponent (c ∷ cs) minus digits → (c ≡ 101) ⊎ (c ≡ 69)
exponent_marked c cs minus digits (inl h) = absurd (let e : c ∷ cs ≡ [] = h.0 in cc)
exponent_marked c cs minus digits (inr h) =
    let p = power_at (c ∷ cs) minus digits h in
    let same : c ≡ p.letter = cc in
    elim p.is_letter [ inl e ↦ inl (same ∙ e) | inr e ↦ inr (same ∙ e) ]

pub exponent_stops : (text : List ℕ) (minus : Bool) (digits : List ℕ) → IsExponent text minus digits → NoDigitFirst text × NoPointFirst text
exponent_stops [] minus digits h = (tt, tt)
exponent_stops (c ∷ cs) minus digits h = elim (exponent_marked c cs minus digits h) [
  | inl e ↦ rw e (omega arith, λ f. omega (arith, f))
  | inr e ↦ rw e (omega arith, λ f. omega (arith, f))
]

pub exponent_once : (text : List ℕ) (a b : Bool) (ds es : List ℕ) → IsExponent text a ds → IsExponent text b es → (a ≡ b) × (ds ≡ es)
exponent_once text a b ds es (inl h) (inl k) = (h.1 ∙ sym k.1, h.2 ∙ sym k.2)
exponent_once text a b ds es (inl h) (inr k) = let p = power_at text b es k in let none : text ≡ [] = h.0 in absurd (cc)
exponent_once text a b ds es (inr h) (inl k) = let p = power_at text a ds h in let none : text ≡ [] = k.0 in absurd (cc)
exponent_once text a b ds es (inr h) (inr k) =
    let p = power_at text a ds h in
    let q = power_at text b es k in
    let same : p.power ≡ q.power = cc in
    (sym p.minus_is ∙ ap has_minus same ∙ q.minus_is, sym p.digits_are ∙ ap behind_sign same ∙ q.digits_are)

-- ---- what the reader answers

-- a text is its first byte and what stands behind it
first_and_rest : (text : List ℕ) (letter : ℕ) → 1 ≤ length text → get_or text 0 0 ≡ letter → text ≡ letter ∷ take (length text - 1) (drop 1 text)
first_and_rest [] letter some first = absurd (omega (arith, some))
first_and_rest (c ∷ cs) letter some first = ap (λ (rest : List ℕ). c ∷ rest) (sym (take_rest (c ∷ cs) 1)) ∙ ap (λ (m : ℕ). m ∷ take (length (c ∷ cs) - 1) (drop 1 (c ∷ cs))) first

pub exponent_read : (r : Option (Bool × Bor (List ℕ))) (text : List ℕ) (letter : ℕ) → let power = take (length text - 1) (drop 1 text) in (letter ≡ 101) ⊎ (letter ≡ 69) → 1 ≤ length text → get_or text 0 0 ≡ letter
    → IfSome r (λ p. p.0 ≡ has_minus power) → IfSome r (λ p. p.1.now ≡ behind_sign power) → IfSome r (λ p. IsNumeral 10 (behind_sign power)) → IfSome r (λ p. IsExponent text p.0 p.1.now)
exponent_read None text letter is_letter some first minus digits numeral = tt
exponent_read (Some p) text letter is_letter some first minus digits numeral =
    let power = take (length text - 1) (drop 1 text) in
    rw (minus, digits) (subst (λ (t : List ℕ). IsExponent t (has_minus power) (behind_sign power)) (sym (first_and_rest text letter some first)) (power_behind letter power is_letter numeral))
