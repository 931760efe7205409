-- Lists of digits and the numbers that they make.
use Rattle.raft_size.proofs.Common.{◌≡◌, ℕ, suc, ◌+◌, ◌-◌, ◌*◌, ◌^◌, ◌<◌, ◌≤◌, min, List, [], ◌∷◌, ◌++◌, length, get_or, take, refl, sym, ap, subst, ◌∙◌, inl, inr, lit≤, arith, digit_value, AllDigits, IsNumeral, digits_value}
use Rattle.raft_size.proofs.Common.{digits_value_after, cases_lt, cases_eq, eq-eqb, ne_eqb, digits_value-lt, pow-suc, one-le-pow, mul-le-mul_left, mul-le-mul_right, pow-le-pow_right, append-nil, take_more, digit_value_digit, digit_at}
use Rattle.raft_size.proofs.Common.{digit_from_value, significant, NoDigitFirst}

-- one more digit
value_after-push : (start : ℕ) (ds : List ℕ) (d : ℕ) → digits_value_after 10 start (ds ++ d ∷ []) ≡ digits_value_after 10 start ds * 10 + digit_value d
value_after-push start [] d = refl
value_after-push start (c ∷ cs) d = value_after-push (start * 10 + digit_value c) cs d

pub value_after-more : (start : ℕ) (ds : List ℕ) (i : ℕ) → i < length ds → digits_value_after 10 start (take (i + 1) ds) ≡ digits_value_after 10 start (take i ds) * 10 + digit_value (get_or ds i 0)
value_after-more start ds i h = ap (digits_value_after 10 start) (take_more ds i 0 h) ∙ value_after-push start (take i ds) (get_or ds i 0)

pub value_after-append : (start : ℕ) (xs ys : List ℕ) → digits_value_after 10 start (xs ++ ys) ≡ digits_value_after 10 (digits_value_after 10 start xs) ys
value_after-append start [] ys = refl
value_after-append start (x ∷ xs) ys = value_after-append (start * 10 + digit_value x) xs ys

pub AllDigits-append : (xs ys : List ℕ) → AllDigits 10 xs → AllDigits 10 ys → AllDigits 10 (xs ++ ys)
AllDigits-append [] ys h k = k
AllDigits-append (x ∷ xs) ys h k = (h.0, AllDigits-append xs ys h.1 k)

-- a digit by its code
pub digit_code : (ds : List ℕ) (i : ℕ) → AllDigits 10 ds → i < length ds → (48 ≤ get_or ds i 0) × (digit_value (get_or ds i 0) + 48 ≡ get_or ds i 0)
digit_code ds i h k = let r = digit_at ds i h k in (r.0, digit_value_digit (get_or ds i 0) r)

-- the longest front of digits is one
pub digits_front : (a b x y : List ℕ) → AllDigits 10 a → AllDigits 10 b → NoDigitFirst x → NoDigitFirst y → a ++ x ≡ b ++ y → (a ≡ b) × (x ≡ y)
digits_front [] [] x y da db nx ny e = (refl, e)
digits_front [] (d ∷ b) x y da db nx ny e = let n : NoDigitFirst (d ∷ (b ++ y)) = subst NoDigitFirst e nx in absurd (omega (arith, n, db.0))
digits_front (c ∷ a) [] x y da db nx ny e = let n : NoDigitFirst (c ∷ (a ++ x)) = subst NoDigitFirst (sym e) ny in absurd (omega (arith, n, da.0))
digits_front (c ∷ a) (d ∷ b) x y da db nx ny e =
    let first : c ≡ d = cc in
    let more = digits_front a b x y da.1 db.1 nx ny (let rest : a ++ x ≡ b ++ y = cc in rest) in
    (let same = more.0 in cc, more.1)

-- of a numeral nothing is left behind its digits
pub numeral_whole : (text digits rest : List ℕ) → text ≡ digits ++ rest → AllDigits 10 digits → NoDigitFirst rest → IsNumeral 10 text → (0 < length digits) × (length rest ≡ 0)
numeral_whole text digits rest split d stops h =
    let same = digits_front text digits [] rest h.1 d tt stops (append-nil text ∙ split) in
    (subst (λ (t : List ℕ). 0 < length t) same.0 h.0, ap length (sym same.1))

-- ---- how large the number of some digits is

pub value_after-ge : (n : ℕ) (ds : List ℕ) → n * 10 ^ length ds ≤ digits_value_after 10 n ds
value_after-ge n [] = omega arith
value_after-ge n (d ∷ ds) =
    let more = value_after-ge (n * 10 + digit_value d) ds in
    let power : 10 ^ suc (length ds) ≡ 10 ^ length ds * 10 = pow-suc 10 (length ds) in
    let product : (n * 10 + digit_value d) * 10 ^ length ds ≡ n * (10 ^ length ds * 10) + digit_value d * 10 ^ length ds = omega arith in
    rw power (omega (arith, more, product))

pub value_after-ge_start : (n : ℕ) (ds : List ℕ) → n ≤ digits_value_after 10 n ds
value_after-ge_start n ds = let more = value_after-ge n ds in let h : n * 1 ≤ n * 10 ^ length ds = mul-le-mul_left n (one-le-pow (length ds) 10 (lit≤ tt)) in omega arith

-- behind the leading zeros
AllDigits-significant : (ds : List ℕ) → AllDigits 10 ds → AllDigits 10 (significant ds)
AllDigits-significant [] h = tt
AllDigits-significant (c ∷ cs) h = elim (cases_eq c 48) [
  | inl zero_digit ↦ rw (eq-eqb c 48 zero_digit) (AllDigits-significant cs h.1)
  | inr other ↦ rw (ne_eqb c 48 other) h
]

value-significant : (ds : List ℕ) → digits_value 10 (significant ds) ≡ digits_value 10 ds
value-significant [] = refl
value-significant (c ∷ cs) = elim (cases_eq c 48) [
  | inl zero_digit ↦ rw (eq-eqb c 48 zero_digit) (value-significant cs ∙ (rw zero_digit refl))
  | inr other ↦ rw (ne_eqb c 48 other) refl
]

first_significant : (ds : List ℕ) (m : ℕ) → AllDigits 10 ds → length (significant ds) ≡ suc m → 10 ^ m ≤ digits_value 10 (significant ds)
first_significant [] m h some = absurd (omega (arith, some))
first_significant (c ∷ cs) m h some = elim (cases_eq c 48) [
  | inl zero_digit ↦ rw (eq-eqb c 48 zero_digit) (first_significant cs m h.1 (rw (eq-eqb c 48 zero_digit) at some))
  | inr other ↦ rw (ne_eqb c 48 other)
      (let code = digit_value_digit c (digit_from_value c h.0) in
      let digit : 1 ≤ 0 * 10 + digit_value c = omega (arith, code, other) in
      let more = value_after-ge (0 * 10 + digit_value c) cs in
      let power : 1 * 10 ^ length cs ≤ (0 * 10 + digit_value c) * 10 ^ length cs = mul-le-mul_right (10 ^ length cs) digit in
      let whole : suc (length cs) ≡ suc m = rw (ne_eqb c 48 other) at some in
      let same : m ≡ length cs = omega (arith, whole) in
      rw same (omega (arith, more, power)))
]

-- at most twenty of them, and more
pub few_digits : (ds : List ℕ) → AllDigits 10 ds → digits_value 10 ds < 10 ^ 20 → length (significant ds) ≤ 20
few_digits ds h small = elim (cases_lt 20 (length (significant ds))) [
  | inl many ↦
      (let m = length (significant ds) - 1 in
      let first = first_significant ds m h (omega arith) in
      let power : 10 ^ 20 ≤ 10 ^ m = pow-le-pow_right (lit≤ tt) {i = 20} {j = m} (omega arith) in
      absurd (omega (arith, first, power, value-significant ds)))
  | inr few ↦ few
]

pub many_digits : (ds : List ℕ) → AllDigits 10 ds → 10 ^ 20 ≤ digits_value 10 ds → 20 < length (significant ds)
many_digits ds h large = elim (cases_lt 20 (length (significant ds))) [
  | inl many ↦ many
  | inr few ↦
      (let below = digits_value-lt 10 (significant ds) (AllDigits-significant ds h) in
      let power : 10 ^ length (significant ds) ≤ 10 ^ 20 = pow-le-pow_right (lit≤ tt) few in
      absurd (omega (arith, below, power, value-significant ds)))
]

-- ---- held at a limit

-- two runs of digits, one behind the other
pub value_held : (limit whole_value value : ℕ) (whole fraction : List ℕ) → whole_value ≡ min limit (digits_value 10 whole) →
    value ≡ min limit (digits_value_after 10 whole_value fraction) → value ≡ min limit (digits_value 10 (whole ++ fraction))
value_held limit whole_value value whole fraction e f =
    let all = value_after-append 0 whole fraction in
    elim (cases_lt (digits_value 10 whole) limit) [
      | inl below ↦ f ∙ ap (λ (n : ℕ). min limit (digits_value_after 10 n fraction)) (let same : whole_value ≡ digits_value 10 whole = omega arith in same) ∙ ap (λ (n : ℕ). min limit n) (sym all)
      | inr past ↦
          (let held : whole_value ≡ limit = omega arith in
          omega (arith, value_after-ge_start whole_value fraction, value_after-ge_start (digits_value 10 whole) fraction, all))
    ]
