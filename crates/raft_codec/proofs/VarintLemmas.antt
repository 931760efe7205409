-- On spellings of numbers in base 128.
use Rattle.raft_codec.proofs.Common.{◌≡◌, ℕ, zero, suc, ◌+◌, ◌*◌, ◌^◌, ◌%◌, ◌/◌, ◌<◌, ◌≤◌, List, [], ◌∷◌, ◌++◌, length, take, drop, set, get_or, refl, sym, ap, ◌∙◌, subst, arith, add-one, inl, inr, cases_lt, nat_tests, drop_more}
use Rattle.raft_codec.proofs.Common.{get_or-take, get_or_past, length-append, length-drop, length-take, length-take-le, take-append-drop, take_all, take_more, take_more_set, pow-suc, pow-le-pow_right, mul-le-mul_left, pow-add, shl_whole}
use Rattle.raft_codec.proofs.Common.{Reads, IsContinued, base_128, IsVarint, IsShortVarint, AllContinue, EndsEarly, IsTooLong, septets_of, varint}
use Rattle.std.proofs.lemmas.List.{append_assoc}

-- ---- a septet at its place

-- seven places of bits are one septet
pub pow-septets : (k : ℕ) → 2 ^ (7 * k) ≡ 128 ^ k
pow-septets zero = refl
pow-septets (suc k) =
    let e : 7 * suc k ≡ 7 * k + 7 = omega arith in
    rw (e, pow-add, pow-septets k, pow-suc 128 k) refl

-- a septet that fits is shifted whole
pub shift-septet : (bits place : ℕ) → bits < 128 → place < 10 → (place ≡ 9 → bits ≤ 1) → bits * 2 ^ (7 * place) % 2 ^ 64 ≡ bits * 128 ^ place
shift-septet bits place septet lt tenth =
    elim (cases_lt place 9) [
      | inl below ↦ rw (shl_whole bits 7 (7 * place) 64 septet (omega arith), pow-septets) refl
      | inr above ↦ rw (shl_whole bits 1 (7 * place) 64 (let one : bits ≤ 1 = tenth (omega arith) in omega arith) (omega arith), pow-septets) refl
    ]

-- ---- the bytes read so far

pub AllContinue-push : (xs : List ℕ) (b : ℕ) → AllContinue xs → 128 ≤ b → b < 256 → AllContinue (xs ++ b ∷ [])
AllContinue-push [] b h low high = (low, high, tt)
AllContinue-push (x ∷ xs) b h low high = (h.0, h.1, AllContinue-push xs b h.2 low high)

pub IsContinued-push : (xs : List ℕ) (b : ℕ) → AllContinue xs → b < 128 → IsContinued (xs ++ b ∷ [])
IsContinued-push [] b h lt = lt
IsContinued-push (x ∷ []) b h lt = (h.0, h.1, lt)
IsContinued-push (x ∷ y ∷ xs) b h lt = (h.0, h.1, IsContinued-push (y ∷ xs) b h.2 lt)

pub base_128-push : (xs : List ℕ) (b : ℕ) → base_128 (xs ++ b ∷ []) ≡ base_128 xs + b % 128 * 128 ^ length xs
base_128-push [] b = omega arith
base_128-push (x ∷ xs) b =
    let e = base_128-push xs b in
    let p : 128 ^ suc (length xs) ≡ 128 ^ length xs * 128 = pow-suc 128 (length xs) in
    rw (e, p) (omega arith)

pub base_128-lt : (xs : List ℕ) → base_128 xs < 128 ^ length xs
base_128-lt [] = omega arith
base_128-lt (x ∷ xs) =
    let h = base_128-lt xs in
    rw (pow-suc 128 (length xs)) (omega arith)

-- the numbers below the tenth septet and with it
pub fits : (number bits place : ℕ) → number < 128 ^ place → bits < 128 → place < 10 → (place ≡ 9 → bits ≤ 1) → number + bits * 128 ^ place < 2 ^ 64
fits number bits place lt septet below tenth =
    elim (cases_lt place 9) [
      | inl low ↦
          let most : 128 ^ place ≤ 128 ^ 8 = pow-le-pow_right {n = 128} (omega arith) {i = place} {j = 8} (omega arith) in
          let product : bits * 128 ^ place ≤ 127 * 128 ^ 8 = le_product bits 127 (128 ^ place) (128 ^ 8) (omega arith) most in
          omega arith
      | inr high ↦
          let nine : place ≡ 9 = omega arith in
          let one : bits ≤ 1 = tenth nine in
          let power : 128 ^ place ≡ 128 ^ 9 = ap (λ (k : ℕ). 128 ^ k) nine in
          let product : bits * 128 ^ place ≤ 1 * 128 ^ 9 = le_product bits 1 (128 ^ place) (128 ^ 9) one (omega arith) in
          omega arith
    ]
  where
    le_product : (a b x y : ℕ) → a ≤ b → x ≤ y → a * x ≤ b * y
    le_product a b x y h k = omega (arith, mul-le-mul_left b k, mul-le-mul_left x h)

-- ---- where no number stands in front

-- the last byte of a spelling doesn't continue
pub none_in : (front rest : List ℕ) → AllContinue (front ++ rest) → IsContinued front → ⊥
none_in [] rest h c = c
none_in (b ∷ []) rest h c = absurd (omega arith)
none_in (b ∷ x ∷ bs) rest h c = none_in (x ∷ bs) rest h.2 c.2

pub ends_early : (bytes : List ℕ) → EndsEarly bytes → (front rest : List ℕ) (n : ℕ) → IsVarint front n → bytes ≡ front ++ rest → ⊥
ends_early bytes early front rest n spelled split = none_in front rest (subst AllContinue split early.continued) spelled.continued

-- behind bytes that continue a spelling goes on
past : (front : List ℕ) (tenth : ℕ) (rest f r : List ℕ) → front ++ tenth ∷ rest ≡ f ++ r → AllContinue front → IsContinued f → (length front < length f) × (get_or f (length front) 0 ≡ tenth)
past front tenth rest [] r e h c = absurd c
past [] tenth rest (b ∷ bs) r e h c = (omega arith, cc)
past (x ∷ xs) tenth rest (b ∷ []) r e h c = let same : x ≡ b = cc in absurd (omega arith)
past (x ∷ xs) tenth rest (b ∷ d ∷ bs) r e h c =
    let tail : xs ++ tenth ∷ rest ≡ (d ∷ bs) ++ r = cc in
    let p = past xs tenth rest (d ∷ bs) r tail h.2 c.2 in
    (omega (arith, p.0), p.1)

pub too_long : (bytes : List ℕ) → IsTooLong bytes → (front rest : List ℕ) (n : ℕ) → IsVarint front n → bytes ≡ front ++ rest → ⊥
too_long bytes long front rest n spelled split =
    let p = past long.front long.tenth long.rest front rest (sym long.split ∙ split) long.continued spelled.continued in
    let e : get_or front 9 0 ≡ long.tenth = subst (λ (k : ℕ). get_or front k 0 ≡ long.tenth) long.nine p.1 in
    let one : get_or front 9 0 ≤ 1 = spelled.tenth in
    let above : 1 < long.tenth = long.above in
    absurd (omega arith)

-- ---- the shortest spelling

pub septets_last : (k n : ℕ) → n < 128 → septets_of k n ≡ n ∷ []
unfolding septets_of
septets_last zero n lt = refl
septets_last (suc k) n lt = grind (arith, nat_tests)

pub septets_more : (k j n : ℕ) → k ≡ suc j → 128 ≤ n → septets_of k n ≡ (n % 128 + 128) ∷ septets_of j (n / 128)
unfolding septets_of
septets_more zero j n e le = absurd (omega arith)
septets_more (suc k) j n e le =
    let same : k ≡ j = omega arith in
    rw same (grind (arith, nat_tests))

IsContinued-cons : (b : ℕ) (xs : List ℕ) → 128 ≤ b → b < 256 → IsContinued xs → IsContinued (b ∷ xs)
IsContinued-cons b [] low high c = absurd c
IsContinued-cons b (x ∷ xs) low high c = (low, high, c)

pub two_septets : (n : ℕ) → 128 ≤ n → n / 128 < 128 → varint n ≡ (n % 128 + 128) ∷ n / 128 ∷ []
unfolding varint
two_septets n many few = septets_more 9 8 n refl many ∙ ap (λ (t : List ℕ). (n % 128 + 128) ∷ t) (septets_last 8 (n / 128) few)

pub three_septets : (n : ℕ) → 128 ≤ n / 128 → n / 128 / 128 < 128 → varint n ≡ (n % 128 + 128) ∷ (n / 128 % 128 + 128) ∷ n / 128 / 128 ∷ []
unfolding varint
three_septets n many few =
    septets_more 9 8 n refl (omega arith) ∙ ap (λ (t : List ℕ). (n % 128 + 128) ∷ t) (septets_more 8 7 (n / 128) refl many) ∙ ap (λ (t : List ℕ). (n % 128 + 128) ∷ (n / 128 % 128 + 128) ∷ t) (septets_last 7 (n / 128 / 128) few)

pub four_septets : (n : ℕ) → 128 ≤ n / 128 / 128 → n / 128 / 128 / 128 < 128 → varint n ≡ (n % 128 + 128) ∷ (n / 128 % 128 + 128) ∷ (n / 128 / 128 % 128 + 128) ∷ n / 128 / 128 / 128 ∷ []
unfolding varint
four_septets n many few =
    septets_more 9 8 n refl (omega arith) ∙ ap (λ (t : List ℕ). (n % 128 + 128) ∷ t) (septets_more 8 7 (n / 128) refl (omega arith))
    ∙ ap (λ (t : List ℕ). (n % 128 + 128) ∷ (n / 128 % 128 + 128) ∷ t) (septets_more 7 6 (n / 128 / 128) refl many)
    ∙ ap (λ (t : List ℕ). (n % 128 + 128) ∷ (n / 128 % 128 + 128) ∷ (n / 128 / 128 % 128 + 128) ∷ t) (septets_last 6 (n / 128 / 128 / 128) few)

-- what k + 1 septets spell
record Spells (k n : ℕ) (bytes : List ℕ) : Type 0 where
  pub continued : IsContinued bytes
  pub value : n ≡ base_128 bytes
  pub bound : length bytes ≤ suc k
  pub last : get_or bytes k 0 * 128 ^ k ≤ n

spells : (k n : ℕ) → n < 128 ^ suc k → Spells k n (septets_of k n)
spells zero n lt =
    let few : n < 128 = lt in
    rw (septets_last zero n few) (record { continued = few; value = omega arith; bound = omega arith; last = omega arith })
spells (suc k) n lt =
    elim (cases_lt n 128) [
      | inl few ↦ rw (septets_last (suc k) n few) (record { continued = few; value = omega arith; bound = omega arith; last = omega arith })
      | inr many ↦
          let power : 128 ^ suc (suc k) ≡ 128 ^ suc k * 128 = pow-suc 128 (suc k) in
          let less : n / 128 < 128 ^ suc k = omega arith in
          let rest = spells k (n / 128) less in
          let e : 128 ^ suc k ≡ 128 ^ k * 128 = pow-suc 128 k in
          rw (septets_more (suc k) k n refl many) (record {
            continued = IsContinued-cons (n % 128 + 128) (septets_of k (n / 128)) (omega arith) (omega arith) rest.continued;
            value = omega (arith, rest.value);
            bound = omega (arith, rest.bound);
            last = rw e (omega (arith, rest.last));
          })
    ]

pub varint_spells : (n : ℕ) → n < 2 ^ 64 → IsVarint (varint n) n
unfolding varint
varint_spells n lt =
    let s = spells 9 n (omega arith) in
    record { continued = s.continued; value = s.value; at_most_ten = s.bound; tenth = omega (arith, s.last) }

more : (m n : ℕ) → n < 128 ^ suc m → 128 ≤ n → 0 < m
more zero n lt many = absurd (omega arith)
more (suc m) n lt many = omega arith

septets_bound : (k m n : ℕ) → n < 128 ^ m → 0 < m → length (septets_of k n) ≤ m
unfolding septets_of
septets_bound zero m n lt some = some
septets_bound (suc k) zero n lt some = absurd (omega arith)
septets_bound (suc k) (suc m) n lt some =
    elim (cases_lt n 128) [
      | inl few ↦ rw (septets_last (suc k) n few) (omega arith)
      | inr many ↦
          let power : 128 ^ suc m ≡ 128 ^ m * 128 = pow-suc 128 m in
          let less : n / 128 < 128 ^ m = omega arith in
          rw (septets_more (suc k) k n refl many) (omega (arith, septets_bound k m (n / 128) less (more m n lt many)))
    ]

not_empty : (bytes : List ℕ) → IsContinued bytes → 0 < length bytes
not_empty [] c = absurd c
not_empty (b ∷ bs) c = omega arith

pub varint_shortest : (n : ℕ) (bytes : List ℕ) → IsVarint bytes n → length (varint n) ≤ length bytes
unfolding varint
varint_shortest n bytes s =
    septets_bound 9 (length bytes) n (rw s.value (base_128-lt bytes)) (not_empty bytes s.continued)

-- m bytes are enough for a number below 128 ^ m
pub varint_within : (m n : ℕ) → n < 128 ^ m → 0 < m → length (varint n) ≤ m
unfolding varint
varint_within m n lt some = septets_bound 9 m n lt some

-- a number takes a byte at least
pub varint_some : (bytes : List ℕ) (n : ℕ) → IsVarint bytes n → 0 < length bytes
varint_some bytes n s = not_empty bytes s.continued

-- ---- no spelling begins another

same_front : (a b more rest : List ℕ) → IsContinued a → IsContinued b → a ++ more ≡ b ++ rest → a ≡ b
same_front [] b more rest c d e = absurd c
same_front (x ∷ a) [] more rest c d e = absurd d
same_front (x ∷ []) (y ∷ []) more rest c d e = cc
same_front (x ∷ []) (y ∷ z ∷ b) more rest c d e = let same : x ≡ y = cc in absurd (omega arith)
same_front (x ∷ w ∷ a) (y ∷ []) more rest c d e = let same : x ≡ y = cc in absurd (omega arith)
same_front (x ∷ w ∷ a) (y ∷ z ∷ b) more rest c d e =
    let tails : (w ∷ a) ++ more ≡ (z ∷ b) ++ rest = cc in
    let same = same_front (w ∷ a) (z ∷ b) more rest c.2 d.2 tails in
    cc

pub varint_one_front : (a b more rest : List ℕ) (x y : ℕ) → IsVarint a x → IsVarint b y → a ++ more ≡ b ++ rest → (a ≡ b) × (x ≡ y)
varint_one_front a b more rest x y s t e =
    let same = same_front a b more rest s.continued t.continued e in
    (same, s.value ∙ ap base_128 same ∙ sym t.value)

-- ---- what a reader finds

pub one_byte : (b : ℕ) (rest : List ℕ) → b < 128 → Reads IsVarint (b ∷ rest) rest b
one_byte b rest lt = record {
  front = b ∷ [];
  spells = record { continued = lt; value = omega arith; at_most_ten = omega arith; tenth = omega arith };
  split = refl;
}

-- numbers of two to four bytes, as they stand in front
pub one_septet : (bytes : List ℕ) → 1 ≤ length bytes → get_or bytes 0 0 < 128 → Reads IsVarint bytes (drop 1 bytes) (get_or bytes 0 0)
one_septet [] len a = absurd (omega arith)
one_septet (a ∷ rest) len lt = one_byte a rest lt

-- a number behind which all but four bytes at most are left is a short one
pub short_read : (bytes : List ℕ) (n k : ℕ) → k ≤ 4 → Reads IsVarint bytes (drop k bytes) n → Reads IsShortVarint bytes (drop k bytes) n
short_read bytes n k few r =
    let whole : length bytes ≡ length r.front + length (drop k bytes) = ap length r.split ∙ length-append r.front (drop k bytes) in
    record { front = r.front; spells = record { number = r.spells; at_most_four = omega (arith, whole, length-drop k bytes) }; split = r.split }

-- a short number is a number
pub short_is_read : (bytes rest : List ℕ) (n : ℕ) → Reads IsShortVarint bytes rest n → Reads IsVarint bytes rest n
short_is_read bytes rest n r = record { front = r.front; spells = r.spells.number; split = r.split }

-- and below 2 ^ 28
pub short_below : (bytes : List ℕ) (n : ℕ) → IsShortVarint bytes n → n < 2 ^ 28
short_below bytes n s =
    let most : 128 ^ length bytes ≤ 128 ^ 4 = pow-le-pow_right {n = 128} (omega arith) {i = length bytes} {j = 4} s.at_most_four in
    omega (arith, s.number.value, base_128-lt bytes, most)

pub three_septets_read : (bytes : List ℕ) → 3 ≤ length bytes → 128 ≤ get_or bytes 0 0 → get_or bytes 0 0 < 256 → 128 ≤ get_or bytes 1 0 →
    get_or bytes 1 0 < 256 → get_or bytes 2 0 < 128 →
    Reads IsVarint bytes (drop 3 bytes) (get_or bytes 0 0 % 128 + 128 * (get_or bytes 1 0 % 128) + get_or bytes 2 0 * 16384)
three_septets_read [] len h i j k l = absurd (omega arith)
three_septets_read (a ∷ []) len h i j k l = absurd (omega arith)
three_septets_read (a ∷ b ∷ []) len h i j k l = absurd (omega arith)
three_septets_read (a ∷ b ∷ c ∷ rest) len h i j k l = record {
  front = a ∷ b ∷ c ∷ [];
  spells = record { continued = (h, i, (j, k, l)); value = omega arith; at_most_ten = omega arith; tenth = omega arith };
  split = refl;
}

pub four_septets_read : (bytes : List ℕ) → 4 ≤ length bytes → 128 ≤ get_or bytes 0 0 → get_or bytes 0 0 < 256 → 128 ≤ get_or bytes 1 0 →
    get_or bytes 1 0 < 256 → 128 ≤ get_or bytes 2 0 → get_or bytes 2 0 < 256 → get_or bytes 3 0 < 128 →
    Reads IsVarint bytes (drop 4 bytes)
    (get_or bytes 0 0 % 128 + 128 * (get_or bytes 1 0 % 128) + (get_or bytes 2 0 % 128 + 128 * (get_or bytes 3 0 % 128)) * 16384)
four_septets_read [] len h i j k m n l = absurd (omega arith)
four_septets_read (a ∷ []) len h i j k m n l = absurd (omega arith)
four_septets_read (a ∷ b ∷ []) len h i j k m n l = absurd (omega arith)
four_septets_read (a ∷ b ∷ c ∷ []) len h i j k m n l = absurd (omega arith)
four_septets_read (a ∷ b ∷ c ∷ d ∷ rest) len h i j k m n l = record {
  front = a ∷ b ∷ c ∷ d ∷ [];
  spells = record { continued = (h, i, (j, k, (m, n, l))); value = omega arith; at_most_ten = omega arith; tenth = omega arith };
  split = refl;
}

-- a septet that ends the number: i septets were read before it
pub last_septet : (bytes : List ℕ) (i number : ℕ) → i < length bytes → i ≤ 9 → (i ≡ 9 → get_or bytes i 0 ≤ 1) → AllContinue (take i bytes) →
    number ≡ base_128 (take i bytes) → get_or bytes i 0 < 128 → Reads IsVarint bytes (drop (i + 1) bytes) (number + get_or bytes i 0 % 128 * 128 ^ i)
last_septet bytes i number lt bound tenth continue value last =
    let byte = get_or bytes i 0 in
    let len : length (take i bytes) ≡ i = length-take-le i bytes (omega arith) in
    let whole : take (i + 1) bytes ≡ take i bytes ++ byte ∷ [] = take_more bytes i 0 lt in
    let pushed : base_128 (take i bytes ++ byte ∷ []) ≡ number + byte % 128 * 128 ^ i = rw (value, base_128-push, len) refl in
    let ends : get_or (take (i + 1) bytes) 9 0 ≤ 1 = elim (cases_lt i 9) [
      | inl below ↦ rw (get_or_past (take (i + 1) bytes) 9 0 (omega (arith, length-take (i + 1) bytes))) (omega arith)
      | inr above ↦
          let nine : i ≡ 9 = omega arith in
          rw (get_or-take (i + 1) bytes 9 0 (omega arith)) (subst (λ (k : ℕ). get_or bytes k 0 ≤ 1) nine (tenth nine))
    ] in
    record {
      front = take (i + 1) bytes;
      spells = record {
        continued = rw whole (IsContinued-push (take i bytes) byte continue last);
        value = sym (ap base_128 whole ∙ pushed);
        at_most_ten = omega (arith, length-take (i + 1) bytes);
        tenth = ends;
      };
      split = sym (take-append-drop (i + 1) bytes);
    }

-- the number so far and one more septet fit
pub sum_fits : (bytes : List ℕ) (i number : ℕ) → i < length bytes → i ≤ 9 → (i ≡ 9 → get_or bytes i 0 ≤ 1) → number ≡ base_128 (take i bytes) → number + get_or bytes i 0 % 128 * 128 ^ i < 2 ^ 64
sum_fits bytes i number lt bound tenth value =
    let len : length (take i bytes) ≡ i = length-take-le i bytes (omega arith) in
    let below : number < 128 ^ i = rw value (subst (λ (k : ℕ). base_128 (take i bytes) < 128 ^ k) len (base_128-lt (take i bytes))) in
    fits number (get_or bytes i 0 % 128) i below (omega arith) (omega arith) (λ nine. let one : get_or bytes i 0 ≤ 1 = tenth nine in omega arith)

-- a septet behind which the number goes on
pub next_septet : (bytes : List ℕ) (i number : ℕ) → i < length bytes → AllContinue (take i bytes) → number ≡ base_128 (take i bytes) →
    128 ≤ get_or bytes i 0 → get_or bytes i 0 < 256 →
    AllContinue (take (i + 1) bytes) × (number + get_or bytes i 0 % 128 * 128 ^ i ≡ base_128 (take (i + 1) bytes))
next_septet bytes i number lt continue value low high =
    let byte = get_or bytes i 0 in
    let len : length (take i bytes) ≡ i = length-take-le i bytes (omega arith) in
    let whole : take (i + 1) bytes ≡ take i bytes ++ byte ∷ [] = take_more bytes i 0 lt in
    let pushed : base_128 (take i bytes ++ byte ∷ []) ≡ number + byte % 128 * 128 ^ i = rw (value, base_128-push, len) refl in
    (rw whole (AllContinue-push (take i bytes) byte continue low high), sym (ap base_128 whole ∙ pushed))

-- nine bytes that go on, and a tenth above 1
pub is_too_long : (bytes : List ℕ) (i : ℕ) → i ≡ 9 → i < length bytes → AllContinue (take i bytes) → 1 < get_or bytes i 0 → IsTooLong bytes
is_too_long bytes i nine lt continue above =
    record {
      front = take i bytes;
      rest = drop (i + 1) bytes;
      tenth = get_or bytes i 0;
      continued = continue;
      nine = length-take-le i bytes (omega arith) ∙ nine;
      above = above;
      split = sym (rw (← drop_more bytes i 0 lt) (take-append-drop i bytes));
    }

-- no byte is left, and fewer than ten went on
pub is_early : (bytes : List ℕ) (i : ℕ) → length bytes ≤ i → i ≤ 9 → AllContinue (take i bytes) → EndsEarly bytes
is_early bytes i end bound continue = record { continued = subst AllContinue (take_all i bytes end) continue; short = omega arith }

-- ---- what a writer leaves

pub written_last : (bytes front : List ℕ) (i k rest : ℕ) → i < length bytes → rest < 128 → take i bytes ++ septets_of k rest ≡ front → take (i + 1) (set bytes i rest) ≡ front
written_last bytes front i k rest lt few e = rw take_more_set (rw (septets_last k rest few) at e)

pub written_more : (bytes front : List ℕ) (i k j rest : ℕ) → i < length bytes → 128 ≤ rest → k ≡ suc j → take i bytes ++ septets_of k rest ≡ front → front ≡ take (i + 1) (set bytes i (rest % 128 + 128)) ++ septets_of j (rest / 128)
written_more bytes front i k j rest lt many e h =
    rw take_more_set (sym h ∙ rw (septets_more k j rest e many) (simp append_assoc))

pub rest_falls : (rest i number : ℕ) → rest * 128 ^ i ≤ number → rest / 128 * 128 ^ (i + 1) ≤ number
rest_falls rest i number h =
    let e : 128 ^ (i + 1) ≡ 128 ^ i * 128 = rw (add-one, pow-suc) refl in
    let less : 128 ^ i * (rest / 128 * 128) ≤ 128 ^ i * rest = mul-le-mul_left (128 ^ i) (omega arith) in
    rw e (omega (arith, less))
