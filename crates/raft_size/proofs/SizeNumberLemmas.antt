-- A number is spelled in one way, and its reader finds it.
use Rattle.raft_size.proofs.Common.{◌≡◌, ℕ, ◌+◌, ◌<◌, Bool, Option, None, Some, IfNone, List, [], ◌∷◌, ◌++◌, length, refl, sym, ap, subst, ◌∙◌, inl, inr, arith, AllDigits, append_assoc, Number, IsSign, IsMantissa, IsExponent, IsNumber}
use Rattle.raft_size.proofs.Common.{has_minus, behind_sign, NoDigitFirst, NoPointFirst, TakesFraction}
use Rattle.raft_size.proofs.SizeDigitLemmas.{digits_front}
use Rattle.raft_size.proofs.SizeExponentLemmas.{sign_split, NoSignFirst, sign_found, digit_no_sign, exponent_stops, exponent_once}

-- ---- numbers

-- what the reader has taken off in front of the exponent
pub record Taken (text : List ℕ) (minus : Bool) (whole fraction rest : List ℕ) : Type 0 where
  pub behind : List ℕ
  pub minus_is : has_minus text ≡ minus
  pub body_is : behind_sign text ≡ whole ++ behind
  pub whole_digits : AllDigits 10 whole
  pub behind_stops : NoDigitFirst behind
  pub takes : TakesFraction behind fraction rest
  pub fraction_digits : AllDigits 10 fraction
  pub rest_stops : NoDigitFirst rest

fraction_once : (behind f g x y : List ℕ) → AllDigits 10 f → AllDigits 10 g → NoDigitFirst x → NoDigitFirst y → TakesFraction behind f x → TakesFraction behind g y → (f ≡ g) × (x ≡ y)
fraction_once behind f g x y df dg nx ny (inl h) (inl k) = digits_front f g x y df dg nx ny (let e : f ++ x ≡ g ++ y = cc in e)
fraction_once behind f g x y df dg nx ny (inl h) (inr k) = absurd (subst NoPointFirst (sym k.0 ∙ h) k.2 refl)
fraction_once behind f g x y df dg nx ny (inr h) (inl k) = absurd (subst NoPointFirst (sym h.0 ∙ k) h.2 refl)
fraction_once behind f g x y df dg nx ny (inr h) (inr k) = (h.1 ∙ sym k.1, sym h.0 ∙ k.0)

pub record SameTaken (m n : Bool) (v w f g x y : List ℕ) : Type 0 where
  pub minus : m ≡ n
  pub whole : v ≡ w
  pub fraction : f ≡ g
  pub rest : x ≡ y

pub taken_once : (text : List ℕ) (m n : Bool) (v w f g x y : List ℕ) → Taken text m v f x → Taken text n w g y → SameTaken m n v w f g x y
taken_once text m n v w f g x y a b =
    let front = digits_front v w a.behind b.behind a.whole_digits b.whole_digits a.behind_stops b.behind_stops (sym a.body_is ∙ b.body_is) in
    let more = fraction_once b.behind f g x y a.fraction_digits b.fraction_digits a.rest_stops b.rest_stops (subst (λ (t : List ℕ). TakesFraction t f x) front.1 a.takes) b.takes in
    record { minus = sym a.minus_is ∙ b.minus_is; whole = front.0; fraction = more.0; rest = more.1 }

mantissa_no_sign : (mantissa whole fraction rest : List ℕ) → IsMantissa mantissa whole fraction → NoSignFirst (mantissa ++ rest)
mantissa_no_sign mantissa (c ∷ cs) fraction rest h = elim h.point [
  | inl e ↦ rw e.0 (digit_no_sign c (cs ++ rest) h.whole_digits.0)
  | inr e ↦ rw e (digit_no_sign c ((cs ++ (46 ∷ [])) ++ fraction ++ rest) h.whole_digits.0)
]
mantissa_no_sign mantissa [] fraction rest h = elim h.point [
  | inl e ↦ absurd (omega (arith, h.some_digit, ap length e.1))
  | inr e ↦ rw e ((λ f. omega (arith, f)), (λ f. omega (arith, f)))
]

pub number_taken : (text : List ℕ) (n : Number) (h : IsNumber text n) → Taken text n.minus n.whole n.fraction h.exponent
number_taken text n h =
    let body = h.mantissa ++ h.exponent in
    let split : text ≡ h.sign ++ body = h.split ∙ append_assoc h.sign h.mantissa h.exponent in
    let found = sign_found h.sign body n.minus h.is_sign (mantissa_no_sign h.mantissa n.whole n.fraction h.exponent h.is_mantissa) in
    let stops = exponent_stops h.exponent n.exponent_minus n.exponent h.is_exponent in
    let taken : (behind : List ℕ) → body ≡ n.whole ++ behind → NoDigitFirst behind → TakesFraction behind n.fraction h.exponent → Taken text n.minus n.whole n.fraction h.exponent =
    λ behind e free takes. record {
      behind = behind;
      minus_is = ap has_minus split ∙ found.0;
      body_is = ap behind_sign split ∙ found.1 ∙ e;
      whole_digits = h.is_mantissa.whole_digits;
      behind_stops = free;
      takes = takes;
      fraction_digits = h.is_mantissa.fraction_digits;
      rest_stops = stops.0;
    } in
    elim h.is_mantissa.point [
      | inl e ↦ taken h.exponent (ap (λ (m : List ℕ). m ++ h.exponent) e.0) stops.0 (inr (refl, e.1, stops.1))
      | inr e ↦
          taken (46 ∷ (n.fraction ++ h.exponent))
          (ap (λ (m : List ℕ). m ++ h.exponent) e ∙ append_assoc (n.whole ++ (46 ∷ [])) n.fraction h.exponent ∙ append_assoc n.whole (46 ∷ []) (n.fraction ++ h.exponent))
          (omega arith) (inl refl)
    ]

pub taken_number : (text : List ℕ) (n : Number) (rest : List ℕ) → Taken text n.minus n.whole n.fraction rest → 0 < length n.whole + length n.fraction → IsExponent rest n.exponent_minus n.exponent → IsNumber text n
taken_number text n rest t some exponent =
    let sign = sign_split text in
    let is_sign : IsSign sign.0 n.minus = subst (IsSign sign.0) t.minus_is sign.1 in
    let body : text ≡ sign.0 ++ (n.whole ++ t.behind) = sign.2 ∙ ap (λ (b : List ℕ). sign.0 ++ b) t.body_is in
    let number : (mantissa : List ℕ) → n.whole ++ t.behind ≡ mantissa ++ rest → IsMantissa mantissa n.whole n.fraction → IsNumber text n =
    λ mantissa split is_mantissa. record {
      sign = sign.0;
      mantissa = mantissa;
      exponent = rest;
      is_sign = is_sign;
      is_mantissa = is_mantissa;
      is_exponent = exponent;
      split = body ∙ ap (λ (b : List ℕ). sign.0 ++ b) split ∙ sym (append_assoc sign.0 mantissa rest);
    } in
    elim t.takes [
      | inl e ↦
          number (n.whole ++ (46 ∷ []) ++ n.fraction)
          (ap (λ (b : List ℕ). n.whole ++ b) e ∙ sym (append_assoc (n.whole ++ (46 ∷ [])) n.fraction rest ∙ append_assoc n.whole (46 ∷ []) (n.fraction ++ rest)))
          (record { whole_digits = t.whole_digits; fraction_digits = t.fraction_digits; some_digit = some; point = inr refl })
      | inr e ↦
          number n.whole (ap (λ (b : List ℕ). n.whole ++ b) e.0)
          (record { whole_digits = t.whole_digits; fraction_digits = t.fraction_digits; some_digit = some; point = inl (refl, e.1) })
    ]

same_number : (m n : Number) → m.minus ≡ n.minus → m.whole ≡ n.whole → m.fraction ≡ n.fraction → m.exponent_minus ≡ n.exponent_minus → m.exponent ≡ n.exponent → m ≡ n
same_number m n a b c d e = λ i. record { minus = a i; whole = b i; fraction = c i; exponent_minus = d i; exponent = e i }

pub number_once : (text : List ℕ) (m n : Number) → IsNumber text m → IsNumber text n → m ≡ n
number_once text m n h k =
    let same = taken_once text m.minus n.minus m.whole n.whole m.fraction n.fraction h.exponent k.exponent (number_taken text m h) (number_taken text n k) in
    let exponent = exponent_once k.exponent m.exponent_minus n.exponent_minus m.exponent n.exponent
    (subst (λ (t : List ℕ). IsExponent t m.exponent_minus m.exponent) same.rest h.is_exponent) k.is_exponent in
    same_number m n same.minus same.whole same.fraction exponent.0 exponent.1

-- the steps of the reader up to the exponent
pub taken_by : (text : List ℕ) (minus : Bool) (body whole behind fraction rest : List ℕ) → minus ≡ has_minus text → body ≡ behind_sign text →
    body ≡ whole ++ behind → AllDigits 10 whole → NoDigitFirst behind → TakesFraction behind fraction rest → AllDigits 10 fraction →
    NoDigitFirst rest → Taken text minus whole fraction rest
taken_by text minus body whole behind fraction rest minus_is body_is split w bs t f rs = record {
  behind = behind;
  minus_is = sym minus_is;
  body_is = sym body_is ∙ split;
  whole_digits = w;
  behind_stops = bs;
  takes = t;
  fraction_digits = f;
  rest_stops = rs;
}

-- without a digit there is no number
pub no_digit : (text : List ℕ) (minus : Bool) (whole fraction rest : List ℕ) → Taken text minus whole fraction rest → length whole ≡ 0 → length fraction ≡ 0 → (n : Number) → IsNumber text n → ⊥
no_digit text minus whole fraction rest t no_whole no_fraction n h =
    let same = taken_once text n.minus minus n.whole whole n.fraction fraction h.exponent rest (number_taken text n h) t in
    omega (arith, h.is_mantissa.some_digit, ap length same.whole, ap length same.fraction)

-- nor without an exponent, where something is left
pub no_exponent : (text : List ℕ) (minus : Bool) (whole fraction rest : List ℕ) → Taken text minus whole fraction rest → ((m : Bool) (digits : List ℕ) → IsExponent rest m digits → ⊥) → (n : Number) → IsNumber text n → ⊥
no_exponent text minus whole fraction rest t none n h =
    let same = taken_once text n.minus minus n.whole whole n.fraction fraction h.exponent rest (number_taken text n h) t in
    none n.exponent_minus n.exponent (subst (λ (e : List ℕ). IsExponent e n.exponent_minus n.exponent) same.rest h.is_exponent)

pub IfNone-from : {X : Type 0} {P : Type 0} (r : Option X) → P → IfNone r P
IfNone-from None p = p
IfNone-from (Some x) p = tt
