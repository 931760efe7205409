-- Products with powers of ten and quotients by them, held at the greatest size.
use Rattle.raft_size.proofs.Common.{◌≡◌, ℕ, ◌+◌, ◌-◌, ◌*◌, ◌/◌, ◌^◌, ◌<◌, ◌≤◌, min, sym, ap, ◌∙◌, inl, inr, zero-add, true, false, length, lit≤, arith, digits_value, cases_lt, pow-add, le-div, pow-le-pow_right, one-le-pow}
use Rattle.raft_size.proofs.Common.{mul-div-mul_right, mul-div_cancel, mul-le-mul_right, mul-le-mul_left, div-one, zero-div, mul-one, zero-mul, div-eq_of_lt, mul_assoc, Number, digits_of, size_of, scaled_size}

pub pow-le : (i j : ℕ) → i ≤ j → 10 ^ i ≤ 10 ^ j
pow-le i j h = pow-le-pow_right (lit≤ tt) h

pub pow_pos : (k : ℕ) → 0 < 10 ^ k
pow_pos k = omega (arith, one-le-pow k 10 (lit≤ tt))

-- powers of ten on both sides cancel
pub scaled_down : (value up down : ℕ) → up < down → scaled_size value 0 (down - up) ≡ scaled_size value up down
scaled_down value up down h =
    let power : 10 ^ down ≡ 10 ^ (down - up) * 10 ^ up = ap (λ (k : ℕ). 10 ^ k) (let e : down ≡ down - up + up = omega arith in e) ∙ pow-add 10 (down - up) up in
    let same : value * 10 ^ up / 10 ^ down ≡ value / 10 ^ (down - up) =
    ap (λ (m : ℕ). value * 10 ^ up / m) power ∙ mul-div-mul_right value (10 ^ (down - up)) (pow_pos up) in
    ap (λ (m : ℕ). min (2 ^ 64 - 1) m) (ap (λ (m : ℕ). m / 10 ^ (down - up)) (mul-one value) ∙ sym same)

pub scaled_up : (value up down : ℕ) → down ≤ up → scaled_size value (up - down) 0 ≡ scaled_size value up down
scaled_up value up down h =
    let power : 10 ^ up ≡ 10 ^ (up - down) * 10 ^ down = ap (λ (k : ℕ). 10 ^ k) (let e : up ≡ up - down + down = omega arith in e) ∙ pow-add 10 (up - down) down in
    let same : value * 10 ^ up / 10 ^ down ≡ value * 10 ^ (up - down) =
    ap (λ (m : ℕ). m / 10 ^ down) (ap (λ (m : ℕ). value * m) power ∙ sym (mul_assoc value (10 ^ (up - down)) (10 ^ down)))
    ∙ mul-div_cancel (value * 10 ^ (up - down)) (pow_pos down) in
    ap (λ (m : ℕ). min (2 ^ 64 - 1) m) (div-one (value * 10 ^ (up - down)) ∙ sym same)

-- a small value is divided away
pub lowered_away : (value down : ℕ) → value < 2 ^ 120 → 37 ≤ down → scaled_size value 0 down ≡ 0
lowered_away value down small far =
    let above : 10 ^ 37 ≤ 10 ^ down = pow-le 37 down far in
    ap (λ (m : ℕ). min (2 ^ 64 - 1) m) (ap (λ (m : ℕ). m / 10 ^ down) (mul-one value) ∙ div-eq_of_lt (omega arith))

-- 0 stays 0, and any other value grows past every size
pub raised_zero : (up down : ℕ) → scaled_size 0 up down ≡ 0
raised_zero up down = ap (λ (m : ℕ). min (2 ^ 64 - 1) m) (ap (λ (m : ℕ). m / 10 ^ down) (zero-mul (10 ^ up)) ∙ zero-div (10 ^ down))

held_at_greatest : (n : ℕ) → 2 ^ 64 - 1 ≤ n → min (2 ^ 64 - 1) n ≡ 2 ^ 64 - 1
held_at_greatest n h = omega arith

pub raised_away : (value up down : ℕ) → 0 < value → down + 20 ≤ up → scaled_size value up down ≡ 2 ^ 64 - 1
raised_away value up down some far =
    let power : 10 ^ 20 * 10 ^ down ≤ 10 ^ up = rw (← pow-add 10 20 down) (pow-le (20 + down) up (omega arith)) in
    let more : 1 * 10 ^ up ≤ value * 10 ^ up = mul-le-mul_right (10 ^ up) (omega arith) in
    held_at_greatest (value * 10 ^ up / 10 ^ down)
    (let q : 10 ^ 20 ≤ value * 10 ^ up / 10 ^ down = le-div (10 ^ 20) (value * 10 ^ up) (10 ^ down) (pow_pos down) (omega arith) in omega arith)

-- an exponent may be held where it is past all that counts
pub held_up : (value up down limit : ℕ) → down + 20 ≤ limit → scaled_size value (min limit up) down ≡ scaled_size value up down
held_up value up down limit far =
    elim (cases_lt limit up) [
      | inl past ↦ elim (cases_lt 0 value) [
        | inl some ↦ raised_away value (min limit up) down some (omega arith) ∙ sym (raised_away value up down some (omega arith))
        | inr none ↦
            (let zero_value : value ≡ 0 = omega arith in
            ap (λ (v : ℕ). scaled_size v (min limit up) down) zero_value ∙ raised_zero (min limit up) down
            ∙ sym (ap (λ (v : ℕ). scaled_size v up down) zero_value ∙ raised_zero up down))
      ]
      | inr within ↦ ap (λ (k : ℕ). scaled_size value k down) (let e : min limit up ≡ up = omega arith in e)
    ]

pub held_down : (value down places limit : ℕ) → value < 2 ^ 120 → 37 ≤ limit → scaled_size value 0 (min limit down + places) ≡ scaled_size value 0 (down + places)
held_down value down places limit small far =
    elim (cases_lt limit down) [
      | inl past ↦ lowered_away value (min limit down + places) small (omega arith) ∙ sym (lowered_away value (down + places) small (omega arith))
      | inr within ↦ ap (λ (k : ℕ). scaled_size value 0 (k + places)) (let e : min limit down ≡ down = omega arith in e)
    ]

-- ---- a number's size

pub product_small : (significand factor : ℕ) → significand < 10 ^ 20 → factor ≤ 2 ^ 50 → significand * factor < 2 ^ 120
product_small significand factor few small =
    let wide : significand * factor ≤ significand * 2 ^ 50 = mul-le-mul_left significand small in
    omega (arith, wide)

pub size_raised : (n : Number) (factor value exponent : ℕ) → n.minus ≡ false → n.exponent_minus ≡ false →
    value ≡ digits_value 10 (digits_of n) * factor → exponent ≡ min (2 ^ 65) (digits_value 10 n.exponent) → length n.fraction < 2 ^ 64 →
    scaled_size value exponent (length n.fraction) ≡ size_of n factor
size_raised n factor value exponent plus up value_is exponent_is short = rw (plus, up, value_is, exponent_is)
    (held_up (digits_value 10 (digits_of n) * factor) (digits_value 10 n.exponent) (length n.fraction) (2 ^ 65) (omega arith)
    ∙ ap (λ (k : ℕ). scaled_size (digits_value 10 (digits_of n) * factor) (digits_value 10 n.exponent) k) (sym (zero-add (length n.fraction))))

pub size_lowered : (n : Number) (factor value exponent : ℕ) → n.minus ≡ false → n.exponent_minus ≡ true →
    value ≡ digits_value 10 (digits_of n) * factor → value < 2 ^ 120 → exponent ≡ min (2 ^ 65) (digits_value 10 n.exponent) →
    scaled_size value 0 (exponent + length n.fraction) ≡ size_of n factor
size_lowered n factor value exponent plus down value_is small exponent_is = rw (plus, down, exponent_is, ← value_is)
    (held_down value (digits_value 10 n.exponent) (length n.fraction) (2 ^ 65) small (omega arith))
