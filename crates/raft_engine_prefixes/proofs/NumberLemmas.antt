-- Numbers of files that rise.
use Rattle.raft_engine_prefixes.proofs.Common.{◌≡◌, ℕ, zero, suc, ◌<◌, ◌≤◌, List, [], ◌∷◌, ◌++◌, length, take, drop, inl, inr, refl, sym, ap, ◌∙◌, subst, arith, append-nil, cases_lt, map-append, AllByRecursion, Act, Put, Begin, Sync, Unsynced, Delete, Cut, Found, Read}
use Rattle.raft_engine_prefixes.proofs.Common.{NumberedBytes, on_last, put_behind, cut_last, begun, MayStand, IsNext, numbers, AreRisingFrom, AreConsecutive, Follows, AreBelow}

-- ---- the numbers of files that stand

pub numbers_on_last : (change : List ℕ → List ℕ) (files : List NumberedBytes) → numbers (on_last change files) ≡ numbers files
numbers_on_last change [] = refl
numbers_on_last change (f ∷ []) = refl
numbers_on_last change (f ∷ g ∷ files) = ap (λ (ms : List ℕ). f.0 ∷ ms) (numbers_on_last change (g ∷ files))

pub numbers_more : (files : List NumberedBytes) (seq : ℕ) → numbers (files ++ (seq, []) ∷ []) ≡ numbers files ++ seq ∷ []
numbers_more files seq = map-append (λ (f : NumberedBytes). f.0) files ((seq, []) ∷ [])

-- all stand
none_lost : (xs ys : List ℕ) → xs ≡ ys → (rest : List ℕ) × (xs ≡ ys ++ rest)
none_lost xs ys e = ([], e ∙ sym (append-nil ys))

-- these are the first of the numbers of all files
pub first_stand : (acts : List Act) (files : List NumberedBytes) → MayStand acts files → (rest : List ℕ) × (numbers (begun acts) ≡ numbers files ++ rest)
first_stand [] files s = none_lost [] (numbers files) (ap numbers (sym s))
first_stand (Put bytes ∷ acts) files s =
    let same = numbers_on_last (λ (b : List ℕ). b ++ bytes) (begun acts) in
    elim s [
      | inl before ↦ let r = first_stand acts files before in (r.0, same ∙ r.1)
      | inr f ↦ none_lost (numbers (put_behind bytes (begun acts))) (numbers files) (same ∙ sym (ap numbers f.put ∙ numbers_on_last (λ (b : List ℕ). b ++ f.front) (begun acts)))
    ]
first_stand (Begin seq ∷ acts) files s =
    elim s [
      | inl is ↦ (seq ∷ [], numbers_more (begun acts) seq ∙ ap (λ (fs : List NumberedBytes). numbers fs ++ seq ∷ []) (sym is))
      | inr is ↦ none_lost (numbers (begun acts ++ (seq, []) ∷ [])) (numbers files) (ap numbers (sym is))
    ]
first_stand (Sync ∷ acts) files s = none_lost (numbers (begun acts)) (numbers files) (ap numbers (sym s))
first_stand (Delete ∷ acts) files s = first_stand acts files s
first_stand (Cut len ∷ acts) files s =
    let same = numbers_on_last (λ (b : List ℕ). take len b) (begun acts) in
    elim s [
      | inl before ↦ let r = first_stand acts files before in (r.0, same ∙ r.1)
      | inr is ↦ none_lost (numbers (cut_last len (begun acts))) (numbers files) (ap numbers (sym is))
    ]
first_stand (Found found ∷ acts) files s = none_lost (numbers found) (numbers files) (ap numbers (sym s))
first_stand (Read place bytes ∷ acts) files s = first_stand acts files s
first_stand (Unsynced ∷ acts) files s = first_stand acts files s

-- ---- rising numbers

pub rising_low : (n m : ℕ) (ms : List ℕ) → n ≤ m → AreRisingFrom m ms → AreRisingFrom n ms
rising_low n m [] l r = tt
rising_low n m (i ∷ ms) l r = (let k : m ≤ i = r.0 in omega (arith, l, k), r.1)

pub rising_prefix : (n : ℕ) (ms rest : List ℕ) → AreRisingFrom n (ms ++ rest) → AreRisingFrom n ms
rising_prefix n [] rest r = tt
rising_prefix n (m ∷ ms) rest r = (r.0, rising_prefix (suc m) ms rest r.1)

pub rising_last : (n : ℕ) (ms : List ℕ) (m : ℕ) → AreRisingFrom n (ms ++ m ∷ []) → n ≤ m
rising_last n [] m r = r.0
rising_last n (i ∷ ms) m r = let k = rising_last (suc i) ms m r.1 in let j : n ≤ i = r.0 in omega (arith, k, j)

next_above : (n seq : ℕ) (f : NumberedBytes) (files : List NumberedBytes) → AreRisingFrom n (numbers (f ∷ files)) → IsNext seq (f ∷ files) → suc f.0 ≤ seq
next_above n seq f [] r next = let k : f.0 < seq = next in omega (arith, k)
next_above n seq f (g ∷ files) r next = let k = next_above (suc f.0) seq g files r.1 next in let j : suc f.0 ≤ g.0 = r.1.0 in omega (arith, k, j)

pub rising_more : (n seq : ℕ) (files : List NumberedBytes) → AreRisingFrom n (numbers files) → IsNext seq files → n ≤ seq → AreRisingFrom n (numbers files ++ seq ∷ [])
rising_more n seq [] r next l = (l, tt)
rising_more n seq (f ∷ []) r next l = (r.0, ((let k : f.0 < seq = next in omega (arith, k)), tt))
rising_more n seq (f ∷ g ∷ files) r next l = (r.0, rising_more (suc f.0) seq (g ∷ files) r.1 next (next_above n seq f (g ∷ files) r next))

-- ---- consecutive numbers

rises_behind : (m : ℕ) (ms : List ℕ) → AreConsecutive (m ∷ ms) → AreRisingFrom (suc m) ms
rises_behind m [] c = tt
rises_behind m (n ∷ ms) c = ((let next : n ≡ suc m = c.0 in omega (arith, next)), rises_behind n ms c.1)

pub consecutive_rise : (ms : List ℕ) → AreConsecutive ms → AreRisingFrom 0 ms
consecutive_rise [] c = tt
consecutive_rise (m ∷ ms) c = (omega arith, rises_behind m ms c)

pub consecutive_prefix : (ms rest : List ℕ) → AreConsecutive (ms ++ rest) → AreConsecutive ms
consecutive_prefix [] rest c = tt
consecutive_prefix (m ∷ []) rest c = tt
consecutive_prefix (m ∷ n ∷ ms) rest c = (c.0, consecutive_prefix (n ∷ ms) rest c.1)

consecutive_rest : (m : ℕ) (ms : List ℕ) → AreConsecutive (m ∷ ms) → AreConsecutive ms
consecutive_rest m [] c = tt
consecutive_rest m (n ∷ ms) c = c.1

pub consecutive_drop : (count : ℕ) (ms : List ℕ) → AreConsecutive ms → AreConsecutive (drop count ms)
consecutive_drop zero ms c = c
consecutive_drop (suc count) [] c = tt
consecutive_drop (suc count) (m ∷ ms) c = consecutive_drop count ms (consecutive_rest m ms c)

pub consecutive_more : (seq : ℕ) (files : List NumberedBytes) → AreConsecutive (numbers files) → Follows seq files → AreConsecutive (numbers files ++ seq ∷ [])
consecutive_more seq [] c follows = tt
consecutive_more seq (f ∷ []) c follows = (follows, tt)
consecutive_more seq (f ∷ g ∷ files) c follows = (c.0, consecutive_more seq (g ∷ files) c.1 follows)

pub follows_next : (seq : ℕ) (files : List NumberedBytes) → Follows seq files → IsNext seq files
follows_next seq [] follows = tt
follows_next seq (f ∷ []) follows = let next : seq ≡ suc f.0 = follows in omega (arith, next)
follows_next seq (f ∷ g ∷ files) follows = follows_next seq (g ∷ files) follows

-- ---- those below a number

pub below_prefix : (n count : ℕ) (ms rest : List ℕ) → AreBelow n count (ms ++ rest) → AreBelow n count ms
below_prefix n count [] rest b = tt
below_prefix n zero (m ∷ ms) rest b = b
below_prefix n (suc count) (m ∷ ms) rest b = (b.0, below_prefix n count ms rest b.1)

pub below_more : (n count seq : ℕ) (ms : List ℕ) → AreBelow n count ms → count ≤ length ms → n ≤ seq → AreBelow n count (ms ++ seq ∷ [])
below_more n zero seq [] b few l = l
below_more n (suc count) seq [] b few l = absurd (omega (arith, few))
below_more n zero seq (m ∷ ms) b few l = b
below_more n (suc count) seq (m ∷ ms) b few l = (b.0, below_more n count seq ms b.1 (omega (arith, few)) l)

pub below_none : (n : ℕ) (ms : List ℕ) → AreRisingFrom n ms → AreBelow n 0 ms
below_none n [] r = tt
below_none n (m ∷ ms) r = r.0

-- where not all are below it, the last one isn't
pub below_last : (n i count : ℕ) (ms : List ℕ) (m : ℕ) → AreBelow n count (ms ++ m ∷ []) → AreRisingFrom i (ms ++ m ∷ []) → count ≤ length ms → n ≤ m
below_last n i zero [] m b r few = b
below_last n i (suc count) [] m b r few = absurd (omega (arith, few))
below_last n i zero (j ∷ ms) m b r few = let k = rising_last (suc j) ms m r.1 in let l : n ≤ j = b in omega (arith, k, l)
below_last n i (suc count) (j ∷ ms) m b r few = below_last n (suc j) count ms m b.1 r.1 (omega (arith, few))

-- the others rise from the number on
pub below_drop : (n m count : ℕ) (ms : List ℕ) → AreBelow n count ms → AreRisingFrom m ms → AreRisingFrom n (drop count ms)
below_drop n m zero [] b r = tt
below_drop n m (suc count) [] b r = tt
below_drop n m zero (i ∷ ms) b r = (b, r.1)
below_drop n m (suc count) (i ∷ ms) b r = below_drop n (suc i) count ms b.1 r.1

pub below_take : (n count : ℕ) (ms : List ℕ) → AreBelow n count ms → AllByRecursion (λ (m : ℕ). m < n) (take count ms)
below_take n zero [] b = tt
below_take n (suc count) [] b = tt
below_take n zero (m ∷ ms) b = tt
below_take n (suc count) (m ∷ ms) b = (b.0, below_take n count ms b.1)

oldest_high : (n : ℕ) (gone : List ℕ) (oldest : ℕ) (rest : List ℕ) → AreRisingFrom n (gone ++ oldest ∷ rest) → n ≤ oldest
oldest_high n [] oldest rest r = r.0
oldest_high n (g ∷ gone) oldest rest r = let k = oldest_high (suc g) gone oldest rest r.1 in let j : n ≤ g = r.0 in omega (arith, k, j)

-- one more is below a number between it and the next
pub below_next : (n i : ℕ) (gone : List ℕ) (oldest next : ℕ) (rest : List ℕ) → AreRisingFrom i (gone ++ oldest ∷ next ∷ rest) → oldest < n → n ≤ next
    → AreBelow n (suc (length gone)) (gone ++ oldest ∷ next ∷ rest)
below_next n i [] oldest next rest r low high = (low, high)
below_next n i (g ∷ gone) oldest next rest r low high = ((let k = oldest_high (suc g) gone oldest (next ∷ rest) r.1 in omega (arith, k, low)), below_next n (suc g) gone oldest next rest r.1 low high)

-- the number below which so many are is not above the one behind these
pub below_oldest : (n : ℕ) (gone : List ℕ) (oldest : ℕ) (rest : List ℕ) → AreBelow n (length gone) (gone ++ oldest ∷ rest) → n ≤ oldest
below_oldest n [] oldest rest b = b
below_oldest n (g ∷ gone) oldest rest b = below_oldest n gone oldest rest b.1

-- ---- a number between two others

abbrev number_at : ℕ → List ℕ → ℕ
number_at count [] = 0
number_at zero (m ∷ ms) = m
number_at (suc count) (m ∷ ms) = number_at count ms

rising_at : (n count : ℕ) (ms : List ℕ) → AreRisingFrom n ms → count < length ms → n ≤ number_at count ms
rising_at n count [] r lt = absurd (omega (arith, lt))
rising_at n zero (m ∷ ms) r lt = r.0
rising_at n (suc count) (m ∷ ms) r lt = let k = rising_at (suc m) count ms r.1 (omega (arith, lt)) in let j : n ≤ m = r.0 in omega (arith, k, j)

below_at : (n count : ℕ) (ms : List ℕ) → AreRisingFrom n ms → count < length ms → AreBelow (number_at count ms) count ms
below_at n count [] r lt = tt
below_at n zero (m ∷ ms) r lt = omega arith
below_at n (suc count) (m ∷ ms) r lt = (let k = rising_at (suc m) count ms r.1 (omega (arith, lt)) in omega (arith, k), below_at (suc m) count ms r.1 (omega (arith, lt)))

least_at : (n low few count : ℕ) (ms : List ℕ) → AreBelow low few ms → AreRisingFrom n ms → few ≤ count → count < length ms → low ≤ number_at count ms
least_at n low few count [] b r le lt = absurd (omega (arith, lt))
least_at n low zero zero (m ∷ ms) b r le lt = b
least_at n low zero (suc count) (m ∷ ms) b r le lt = let k = rising_at (suc m) count ms r.1 (omega (arith, lt)) in let j : low ≤ m = b in omega (arith, k, j)
least_at n low (suc few) zero (m ∷ ms) b r le lt = absurd (omega (arith, le))
least_at n low (suc few) (suc count) (m ∷ ms) b r le lt = least_at (suc m) low few count ms b.1 r.1 (omega (arith, le)) (omega (arith, lt))

most_at : (high many count : ℕ) (ms : List ℕ) → AreBelow high many ms → count < many → count < length ms → number_at count ms < high
most_at high many count [] b lt some = absurd (omega (arith, some))
most_at high zero count (m ∷ ms) b lt some = absurd (omega (arith, lt))
most_at high (suc many) zero (m ∷ ms) b lt some = b.0
most_at high (suc many) (suc count) (m ∷ ms) b lt some = most_at high many count ms b.1 (omega (arith, lt)) (omega (arith, some))

-- a number between two others, below which are so many
pub record IsBetween (low high count : ℕ) (ms : List ℕ) : Type 0 where
  pub number : ℕ
  pub at_least : low ≤ number
  pub at_most : number ≤ high
  pub below : AreBelow number count ms

pub between : (n low high few many count : ℕ) (ms : List ℕ) → AreRisingFrom n ms → AreBelow low few ms → AreBelow high many ms → low ≤ high → few ≤ count → count ≤ many → many < length ms
    → IsBetween low high count ms
between n low high few many count ms r least most up le ge some =
    elim (cases_lt count many) [
      | inl lt ↦ record {
        number = number_at count ms;
        at_least = least_at n low few count ms least r le (omega (arith, lt, some));
        at_most = let k = most_at high many count ms most lt (omega (arith, lt, some)) in omega (arith, k);
        below = below_at n count ms r (omega (arith, lt, some));
      }
      | inr all ↦ record { number = high; at_least = up; at_most = omega arith; below = subst (λ (c : ℕ). AreBelow high c ms) (let e : many ≡ count = omega (arith, all, ge) in e) most }
    ]
