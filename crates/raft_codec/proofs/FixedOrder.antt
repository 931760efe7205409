-- Numbers and their bytes order alike, and numbers that have the same bytes are the same.
use Rattle.raft_codec.proofs.Common.{◌≡◌, ℕ, zero, suc, ◌+◌, ◌-◌, ◌*◌, ◌/◌, ◌%◌, ◌^◌, ◌<◌, ◌≤◌, ℤ, pos, negsuc, refl, sym, ap, ◌∙◌, arith, bit_xor, w64, Ordering, ◌+ℤ◌, FitsSigned, byte_at, xor_assoc, xor_comm, xor_self, xor_shifted}
use Rattle.raft_codec.proofs.Common.{xor_zero_r, nat_cmp, int_cmp, ordering_then, nat_cmp_is, slice_cmp, nat_tests, ranked, ints, mod-mul, div-one, mod-eq_of_lt, mod-lt, mul-le-mul_right, one-le-pow, pow-succ', big_bytes, complement}
use Rattle.raft_codec.proofs.Common.{sign_flipped}
use Rattle.std.specs.declared.cmp.Ordering.TheVariants.{Less, Equal, Greater}

-- ---- order

-- the higher part of two numbers decides, and else the lower
parts : (m a b r s : ℕ) (o : Ordering) → o ≡ nat_cmp a b → r < m → s < m → ordering_then o (nat_cmp r s) ≡ nat_cmp (a * m + r) (b * m + s)
parts m a b r s Less e p q =
    let lt : a < b = ranked a b Less e in
    let row : (a + 1) * m ≤ b * m = mul-le-mul_right m (omega arith) in
    nat_cmp_is (a * m + r) (b * m + s) Less (omega arith)
parts m a b r s Greater e p q =
    let lt : b < a = ranked a b Greater e in
    let row : (b + 1) * m ≤ a * m = mul-le-mul_right m (omega arith) in
    nat_cmp_is (a * m + r) (b * m + s) Greater (omega arith)
parts m a b r s Equal e p q =
    let same : a ≡ b = ranked a b Equal e in
    rw same (tails (b * m) (nat_cmp r s) refl)
  where
    tails : (k : ℕ) (t : Ordering) → t ≡ nat_cmp r s → t ≡ nat_cmp (k + r) (k + s)
    tails k Less f = nat_cmp_is (k + r) (k + s) Less (let h = ranked r s Less f in omega arith)
    tails k Equal f = nat_cmp_is (k + r) (k + s) Equal (let h = ranked r s Equal f in omega arith)
    tails k Greater f = nat_cmp_is (k + r) (k + s) Greater (let h = ranked r s Greater f in omega arith)

byte_at-pow : (k x : ℕ) → byte_at k x ≡ x / 256 ^ k % 256
byte_at-pow zero x = ap (λ (y : ℕ). y % 256) (sym (div-one x))
byte_at-pow (suc k) x = refl

-- a number below the next place, by its highest byte
digits : (n x : ℕ) → byte_at n x * 256 ^ n + x % 256 ^ n ≡ x % 256 ^ suc n
digits n x =
    let low = one-le-pow n 256 (omega arith) in
    rw (byte_at-pow n x, pow-succ' 256 n) (sym (mod-mul x {m = 256} {c = 256 ^ n} (omega arith) (omega arith)))

slice_cmp-low : (n x y : ℕ) → slice_cmp nat_cmp (big_bytes n x) (big_bytes n y) ≡ nat_cmp (x % 256 ^ n) (y % 256 ^ n)
slice_cmp-low zero x y =
    let a : x % 256 ^ 0 ≡ 0 = omega arith in
    let b : y % 256 ^ 0 ≡ 0 = omega arith in
    rw (a, b) refl
slice_cmp-low (suc n) x y =
    let low = one-le-pow n 256 (omega arith) in
    rw (slice_cmp-low n x y, ← digits n x, ← digits n y) (parts (256 ^ n) (byte_at n x) (byte_at n y) (x % 256 ^ n) (y % 256 ^ n) (nat_cmp (byte_at n x) (byte_at n y)) refl (mod-lt x (omega arith)) (mod-lt y (omega arith)))

pub slice_cmp-big_bytes : (n x y : ℕ) → x < 256 ^ n → y < 256 ^ n → slice_cmp nat_cmp (big_bytes n x) (big_bytes n y) ≡ nat_cmp x y
slice_cmp-big_bytes n x y p q =
    let a : x % 256 ^ n ≡ x = mod-eq_of_lt p in
    let b : y % 256 ^ n ≡ y = mod-eq_of_lt q in
    rw (slice_cmp-low n x y, a, b) refl

pub nat_cmp-complement : (x y : ℕ) → x < 2 ^ 64 → y < 2 ^ 64 → nat_cmp (complement x) (complement y) ≡ nat_cmp y x
nat_cmp-complement x y p q = grind (arith, nat_tests)

-- ---- signs

xor_twice : (n m : ℕ) → bit_xor (bit_xor n m) m ≡ n
xor_twice n m = xor_assoc n m m ∙ ap (bit_xor n) (xor_self m) ∙ xor_zero_r n

-- bit 63 is set where it was not, and taken off where it was
flip_low : (n : ℕ) → n < 2 ^ 63 → bit_xor n (2 ^ 63) ≡ n + 2 ^ 63
flip_low n h = xor_comm n (2 ^ 63) ∙ omega (arith, xor_shifted 1 63 n h)

flip_high : (n r : ℕ) → n ≡ r + 2 ^ 63 → r < 2 ^ 63 → bit_xor n (2 ^ 63) ≡ r
flip_high n r e h = rw (e, ← flip_low r h) (xor_twice r (2 ^ 63))

pub sign_flipped-pos : (n : ℕ) → n < 2 ^ 63 → sign_flipped (pos n) ≡ n + 2 ^ 63
sign_flipped-pos n h = flip_low n h

pub sign_flipped-negsuc : (n : ℕ) → n < 2 ^ 63 → sign_flipped (negsuc n) ≡ 2 ^ 63 - suc n
sign_flipped-negsuc n h = flip_high (2 ^ 64 - suc n) (2 ^ 63 - suc n) (omega arith) (omega arith)

-- the flipped number is the value counted from the least i64
pub sign_flipped-offset : (z : ℤ) → FitsSigned w64 z → pos (sign_flipped z) ≡ z +ℤ pos (2 ^ 63)
sign_flipped-offset (pos n) h = ap pos (sign_flipped-pos n h.sfits)
sign_flipped-offset (negsuc n) h =
    let lt : n < 2 ^ 63 = h.sfits in
    rw (sign_flipped-negsuc n lt) (omega (arith, ints))

pub sign_flipped-lt : (z : ℤ) → FitsSigned w64 z → sign_flipped z < 2 ^ 64
sign_flipped-lt (pos n) h = let lt : n < 2 ^ 63 = h.sfits in omega (arith, sign_flipped-pos n lt)
sign_flipped-lt (negsuc n) h = let lt : n < 2 ^ 63 = h.sfits in omega (arith, sign_flipped-negsuc n lt)

pub nat_cmp-sign_flipped : (x y : ℤ) → FitsSigned w64 x → FitsSigned w64 y → nat_cmp (sign_flipped x) (sign_flipped y) ≡ int_cmp x y
nat_cmp-sign_flipped (pos n) (pos m) h k =
    rw (sign_flipped-pos n h.sfits, sign_flipped-pos m k.sfits) (grind (arith, nat_tests))
nat_cmp-sign_flipped (pos n) (negsuc m) h k =
    let lt : m < 2 ^ 63 = k.sfits in
    rw (sign_flipped-pos n h.sfits, sign_flipped-negsuc m lt) (grind (arith, nat_tests))
nat_cmp-sign_flipped (negsuc n) (pos m) h k =
    let lt : n < 2 ^ 63 = h.sfits in
    rw (sign_flipped-negsuc n lt, sign_flipped-pos m k.sfits) (grind (arith, nat_tests))
nat_cmp-sign_flipped (negsuc n) (negsuc m) h k =
    let lt : n < 2 ^ 63 = h.sfits in
    let less : m < 2 ^ 63 = k.sfits in
    rw (sign_flipped-negsuc n lt, sign_flipped-negsuc m less) (grind (arith, nat_tests))
