-- How many entries are the first part.
use Rattle.raft_engine.proofs.Common.{◌≡◌, ◌≢◌, inl, inr, ℕ, zero, suc, ◌+◌, ◌<◌, ◌≤◌, Bool, true, false, cond, List, [], ◌∷◌, ◌++◌, get_or, length, take, drop, Option, Some, None, refl, sym, ap, subst, ◌∙◌, arith, ◌^◌, drop-drop, drop_more, length-drop, length-take-le}
use Rattle.raft_engine.proofs.Common.{take-append-drop, take_all, take_more, take-add, slice_get, EntryIndex, FileBlockHandle, are_same_places, block_count, change_count, other_place_is, same_place_self, AreOnePart, IsCapped, IsFirstBlock, IsFirstPart, bytes_of_entries}

-- ---- numbers

zero_left : (n : ℕ) → 0 + n ≡ n
zero_left n = omega arith

zero_plus : (n : ℕ) → n ≡ 0 → 0 + n ≡ 0
zero_plus n e = omega (arith, e)

none_low : 0 ≤ 4096
none_low = omega arith

none_most : 0 ≤ 1
none_most = omega arith

none_none : 0 ≤ 0 + 0
none_none = omega arith

-- ---- places

same_places : (x : Option FileBlockHandle) → are_same_places x x ≡ true
same_places None = refl
same_places (Some p) = same_place_self p

other_places : (x y : Option FileBlockHandle) → y ≢ x → are_same_places x y ≡ false
other_places None None n = absurd (n refl)
other_places None (Some q) n = refl
other_places (Some p) None n = refl
other_places (Some p) (Some q) n = other_place_is p q (λ e. n (ap Some (sym e)))

-- each of these entries has this place
abbrev pub HavePlace : Option FileBlockHandle → List EntryIndex → Type 0
HavePlace p [] = Unit {0}
HavePlace p (e ∷ es) = (e.entries ≡ p) × HavePlace p es

pub place_more : (p : Option FileBlockHandle) (es : List EntryIndex) (e : EntryIndex) → HavePlace p es → e.entries ≡ p → HavePlace p (es ++ e ∷ [])
place_more p [] e h k = (k, tt)
place_more p (x ∷ es) e h k = (h.0, place_more p es e h.1 k)

one_change : (p : Option FileBlockHandle) (es : List EntryIndex) → HavePlace p es → change_count es ≡ 0
one_change p [] h = refl
one_change p (a ∷ []) h = refl
one_change p (a ∷ b ∷ es) h =
    let same : are_same_places a.entries b.entries ≡ true = rw (h.0, h.1.0) (same_places p) in
    let none = one_change p (b ∷ es) h.1 in
    ap (λ (k : Bool). cond k 0 1 + change_count (b ∷ es)) same ∙ zero_plus (change_count (b ∷ es)) none

pub one_block : (p : Option FileBlockHandle) (es : List EntryIndex) → HavePlace p es → block_count es ≤ 1
one_block p [] h = omega arith
one_block p (e ∷ es) h = let none = one_change p (e ∷ es) h in omega (arith, none)

-- another block behind
change_behind : (p : Option FileBlockHandle) (es : List EntryIndex) (x : EntryIndex) (e : EntryIndex) (rest : List EntryIndex) → HavePlace p (x ∷ es) → e.entries ≢ p
    → change_count (x ∷ es ++ e ∷ rest) ≡ change_count (x ∷ es) + suc (change_count (e ∷ rest))
change_behind p [] x e rest h n =
    let other : are_same_places x.entries e.entries ≡ false = rw h.0 (other_places p e.entries n) in
    ap (λ (k : Bool). cond k 0 1 + change_count (e ∷ rest)) other ∙ one (change_count (e ∷ rest))
  where
    one : (k : ℕ) → 1 + k ≡ 0 + suc k
    one k = omega arith
change_behind p (y ∷ es) x e rest h n =
    let more = change_behind p es y e rest h.1 n in
    add (cond (are_same_places x.entries y.entries) 0 1) (change_count (y ∷ es ++ e ∷ rest)) (change_count (y ∷ es)) (suc (change_count (e ∷ rest))) more
  where
    add : (k a b c : ℕ) → a ≡ b + c → k + a ≡ k + b + c
    add k a b c h = omega (arith, h)

pub blocks_behind : (p : Option FileBlockHandle) (es : List EntryIndex) (e : EntryIndex) (rest : List EntryIndex) → HavePlace p es → e.entries ≢ p → block_count es + block_count (e ∷ rest) ≡ block_count (es ++ e ∷ rest)
blocks_behind p [] e rest h n = zero_left (block_count (e ∷ rest))
blocks_behind p (x ∷ es) e rest h n = let more = change_behind p es x e rest h n in omega (arith, more)

-- no more blocks stand in a row than in its pieces
changes_joined : (a : EntryIndex) (es fs : List EntryIndex) → change_count (a ∷ es ++ fs) ≤ change_count (a ∷ es) + block_count fs
changes_joined a [] [] = none_none
changes_joined a [] (f ∷ fs) = at (are_same_places a.entries f.entries)
  where
    as_low : (n : ℕ) → 0 + n ≤ 0 + suc n
    as_low n = omega arith

    one_low : (n : ℕ) → 1 + n ≤ 0 + suc n
    one_low n = omega arith

    at : (b : Bool) → cond b 0 1 + change_count (f ∷ fs) ≤ 0 + suc (change_count (f ∷ fs))
    at true = as_low (change_count (f ∷ fs))
    at false = one_low (change_count (f ∷ fs))
changes_joined a (b ∷ es) fs =
    let more = changes_joined b es fs in
    add (cond (are_same_places a.entries b.entries) 0 1) (change_count (b ∷ es ++ fs)) (change_count (b ∷ es)) (block_count fs) more
  where
    add : (k a b c : ℕ) → a ≤ b + c → k + a ≤ k + b + c
    add k a b c h = omega (arith, h)

pub blocks_joined : (es fs : List EntryIndex) → block_count (es ++ fs) ≤ block_count es + block_count fs
blocks_joined [] fs = omega arith
blocks_joined (e ∷ es) fs = let more = changes_joined e es fs in omega (arith, more)

some_blocks : (es : List EntryIndex) → 0 < length es → 0 < block_count es
some_blocks [] h = absurd (omega (arith, h))
some_blocks (e ∷ es) h = omega arith

-- ---- the first block

-- so many entries have the place of the first one
pub record AreOfBlock (es : List EntryIndex) (i count : ℕ) (place : Option FileBlockHandle) : Type 0 where
  pub counted : count ≡ i
  pub here : HavePlace place (take i es)

pub none_of_block : (es : List EntryIndex) (place : Option FileBlockHandle) → AreOfBlock es 0 0 place
none_of_block es place = record { counted = refl; here = tt }

module _ (es : List EntryIndex) (i count : ℕ) (place : Option FileBlockHandle) (d : EntryIndex) (less : i < length es) (h : AreOfBlock es i count place) where
  pub one_of_block : (get_or es i d).entries ≡ place → AreOfBlock es (i + 1) (count + 1) place
  one_of_block same = record {
    counted = ap (λ n. n + 1) h.counted;
    here = subst (HavePlace place) (sym (take_more es i d less)) (place_more place (take i es) (get_or es i d) h.here same);
  }

  pub block_ends : (get_or es i d).entries ≢ place → (get_or es 0 d).entries ≡ place → IsFirstBlock es count
  block_ends other first =
      let counted = h.counted in record {
        at_most = omega (arith, counted, less);
        some = λ some. above count refl;
        one = subst (λ n. block_count (take n es) ≤ 1) (sym counted) (one_block place (take i es) h.here);
        whole = subst (λ n. block_count (take n es) + block_count (drop n es) ≡ block_count es) (sym counted)
            (ap (λ (l : List EntryIndex). block_count (take i es) + block_count l) (drop_more es i d less)
            ∙ blocks_behind place (take i es) (get_or es i d) (drop (i + 1) es) h.here other
            ∙ ap block_count (ap (λ (l : List EntryIndex). take i es ++ l) (sym (drop_more es i d less)) ∙ take-append-drop i es));
      }
    where
      above : (n : ℕ) → count ≡ n → 0 < count
      above zero e = absurd (other (ap (λ (k : ℕ). (get_or es k d).entries) (sym h.counted ∙ e) ∙ first))
      above (suc n) e = omega (arith, e)

no_behind : (l : List EntryIndex) → block_count (drop (length l) l) ≡ 0
no_behind [] = refl
no_behind (x ∷ l) = no_behind l

pub whole_block : (es : List EntryIndex) (i count : ℕ) (place : Option FileBlockHandle) → length es ≤ i → i ≤ length es → AreOfBlock es i count place → IsFirstBlock es count
whole_block es i count place end at_most h =
    let counted = h.counted in
    let all : count ≡ length es = omega (arith, counted, end, at_most) in
    let none = no_behind es in
    record {
      at_most = omega (arith, all);
      some = λ some. above es some (omega (arith, all));
      one = subst (λ n. block_count (take n es) ≤ 1) (sym counted) (one_block place (take i es) h.here);
      whole = subst (λ n. block_count (take n es) + block_count (drop n es) ≡ block_count es) (sym all) (ap (λ (l : List EntryIndex). block_count l + block_count (drop (length es) es)) (take_all (length es) es (omega arith)) ∙ omega (arith, none));
    }
  where
    above : (l : List EntryIndex) → l ≢ [] → length l ≤ count → 0 < count
    above [] some le = absurd (some refl)
    above (e ∷ l) some le = omega (arith, le)

pub no_block : (es : List EntryIndex) → es ≡ [] → IsFirstBlock es 0
no_block es e = subst (λ (l : List EntryIndex). IsFirstBlock l 0) (sym e) (record { at_most = zero_most; some = λ some. absurd (some refl); one = none_most; whole = refl })
  where
    zero_most : 0 ≤ 0
    zero_most = omega arith

pub none_first : (es : List EntryIndex) → None ≡ slice_get es 0 → es ≡ []
none_first [] e = refl
none_first (x ∷ es) e = absurd cc

pub first_is : (es : List EntryIndex) (d first : EntryIndex) → Some first ≡ slice_get es 0 → (get_or es 0 d).entries ≡ first.entries
first_is [] d first e = absurd cc
first_is (x ∷ es) d first e = ap (λ (y : EntryIndex). y.entries) (same x first e)
  where
    same : (x first : EntryIndex) → Some first ≡ Some x → x ≡ first
    same x first e = cc

-- ---- bytes

pub bytes_append : (a b : List EntryIndex) → bytes_of_entries (a ++ b) ≡ bytes_of_entries a + bytes_of_entries b
bytes_append [] b = omega arith
bytes_append (e ∷ a) b = let rest = bytes_append a b in omega (arith, rest)

one_counted : (es : List EntryIndex) (i bytes : ℕ) (d : EntryIndex) → i < length es → bytes ≡ bytes_of_entries (take i es) → bytes + (get_or es i d).entry_len ≡ bytes_of_entries (take (i + 1) es)
one_counted es i bytes d less sum =
    let all = ap bytes_of_entries (take_more es i d less) ∙ bytes_append (take i es) (get_or es i d ∷ []) in
    omega (arith, all, sum)

pub more_counted : (es : List EntryIndex) (i bytes : ℕ) (d : EntryIndex) → i < length es → bytes ≡ bytes_of_entries (take i es) → (len : ℕ) → len ≡ (get_or es i d).entry_len
    → bytes + len ≡ bytes_of_entries (take (i + 1) es)
more_counted es i bytes d less sum len is = ap (λ (n : ℕ). bytes + n) is ∙ one_counted es i bytes d less sum

pub capped : (es : List EntryIndex) (i bytes : ℕ) → bytes ≡ bytes_of_entries (take i es) → 4096 < bytes → IsCapped bytes es
capped es i bytes sum many =
    let all = ap bytes_of_entries (sym (take-append-drop i es)) ∙ bytes_append (take i es) (drop i es) in
    inr (many, omega (arith, all, sum, many))

pub all_counted : (es : List EntryIndex) (i bytes : ℕ) → length es ≤ i → bytes ≡ bytes_of_entries (take i es) → IsCapped bytes es
all_counted es i bytes end sum = inl (sum ∙ ap bytes_of_entries (take_all i es end))

-- ---- the first part

-- so many entries, of whole blocks, are one part, and have so many bytes
pub record ArePartSoFar (es : List EntryIndex) (len bytes : ℕ) : Type 0 where
  pub at_most : len ≤ length es
  pub sum : IsCapped bytes (take len es)
  pub low : bytes < 2 ^ 33
  pub part : AreOnePart (take len es)
  pub cut : block_count (take len es) + block_count (drop len es) ≡ block_count es

pub none_in_part : (es : List EntryIndex) → ArePartSoFar es 0 0
none_in_part es = record { at_most = omega arith; sum = inl refl; low = omega arith; part = inl none_low; cut = zero_left (block_count es) }

drop_front : (xs ys : List EntryIndex) → drop (length xs) (xs ++ ys) ≡ ys
drop_front [] ys = refl
drop_front (x ∷ xs) ys = drop_front xs ys

joined_cap : (a b : ℕ) (xs ys : List EntryIndex) → IsCapped a xs → IsCapped b ys → IsCapped (a + b) (xs ++ ys)
joined_cap a b xs ys (inl h) (inl k) = let all = bytes_append xs ys in inl (omega (arith, all, h, k))
joined_cap a b xs ys (inl h) (inr k) = let all = bytes_append xs ys in let x = k.0 in let y = k.1 in inr (omega (arith, x), omega (arith, all, y))
joined_cap a b xs ys (inr h) k = let all = bytes_append xs ys in let x = h.0 in let y = h.1 in inr (omega (arith, x), omega (arith, all, y))

many_if : (a : ℕ) (xs : List EntryIndex) → IsCapped a xs → 4096 < a → 4096 < bytes_of_entries xs
many_if a xs (inl h) many = omega (arith, h, many)
many_if a xs (inr h) many = h.1

few_if : (a : ℕ) (xs : List EntryIndex) → IsCapped a xs → a ≤ 4096 → bytes_of_entries xs ≤ 4096
few_if a xs (inl h) few = omega (arith, h, few)
few_if a xs (inr h) few = let many = h.0 in absurd (omega (arith, many, few))

-- where entries are left the part isn't all
pub some_left : (es rest : List EntryIndex) (len : ℕ) → rest ≡ drop len es → rest ≢ [] → len < length es
some_left es [] len is some = absurd (some refl)
some_left es (x ∷ rest) len is some = let long = ap length is ∙ length-drop len es in omega (arith, long)

pub none_left : (es rest : List EntryIndex) (len : ℕ) → rest ≡ drop len es → length rest ≡ 0 → length es ≤ len
none_left es rest len is none = let long = ap length is ∙ length-drop len es in omega (arith, long, none)

-- one block more
module _ (es rest : List EntryIndex) (len bytes k more : ℕ) (is_rest : rest ≡ drop len es) (less : len < length es) (h : ArePartSoFar es len bytes) (b : IsFirstBlock rest k) (c : IsCapped more (take k rest)) where
  both : take (len + k) es ≡ take len es ++ take k rest
  both = take-add len k es ∙ ap (λ (l : List EntryIndex). take len es ++ take k l) (sym is_rest)

  pub all_behind : drop (len + k) es ≡ drop k rest
  all_behind = sym (drop-drop k len es) ∙ ap (λ (l : List EntryIndex). drop k l) (sym is_rest)

  some : 0 < k
  some = b.some (λ none. let long = length-drop len es in let empty : length (drop len es) ≡ 0 = ap length (sym is_rest ∙ none) in absurd (omega (arith, long, empty, less)))

  pub not_past : len + k ≤ length es
  not_past = let long = ap length is_rest ∙ length-drop len es in let at = b.at_most in omega (arith, long, at, less)

  more_sum : IsCapped (bytes + more) (take (len + k) es)
  more_sum = subst (IsCapped (bytes + more)) (sym both) (joined_cap bytes more (take len es) (take k rest) h.sum c)

  more_blocks : (block_count (take (len + k) es) ≡ block_count (take len es) + block_count (take k rest)) × (block_count (take (len + k) es) + block_count (drop (len + k) es) ≡ block_count es)
  more_blocks =
      let whole = ap block_count (sym (take-append-drop (len + k) es)) in
      let up = blocks_joined (take (len + k) es) (drop (len + k) es) in
      let pieces = blocks_joined (take len es) (take k rest) in
      let one = ap block_count both in
      let two = ap block_count all_behind in
      let cut = h.cut in
      let next = b.whole in
      let of = ap block_count is_rest in
      (omega (arith, whole, up, pieces, one, two, cut, next, of), omega (arith, whole, up, pieces, one, two, cut, next, of))

  first_bytes : len ≡ 0 → bytes ≡ 0
  first_bytes e = of (subst (λ n. IsCapped bytes (take n es)) e h.sum)
    where
      of : IsCapped bytes [] → bytes ≡ 0
      of (inl z) = z
      of (inr z) = let y = z.1 in absurd (omega (arith, y))

  pub one_more_block : (0 < len → bytes + more ≤ 4096) → more < 2 ^ 33 → ArePartSoFar es (len + k) (bytes + more)
  one_more_block fits small = record {
    at_most = not_past;
    sum = more_sum;
    low = low len refl;
    part = part len refl;
    cut = more_blocks.1;
  }
    where
      low : (n : ℕ) → len ≡ n → bytes + more < 2 ^ 33
      low zero e = let none = first_bytes e in omega (arith, none, small)
      low (suc n) e = let few = fits (omega (arith, e)) in omega (arith, few)

      part : (n : ℕ) → len ≡ n → AreOnePart (take (len + k) es)
      part zero e =
          let count = more_blocks.0 in
          let none : block_count (take len es) ≡ 0 = ap (λ m. block_count (take m es)) e in
          let one = b.one in
          inr (omega (arith, count, none, one))
      part (suc n) e = inl (few_if (bytes + more) (take (len + k) es) more_sum (fits (omega (arith, e))))

  pub part_is_full : 0 < len → 4096 < bytes + more → IsFirstPart es len
  part_is_full above many = record {
    at_most = h.at_most;
    some = λ some. above;
    part = h.part;
    whole = h.cut;
    longest = λ l. (len + k, longer, one, too_many);
  }
    where
      longer : len < len + k
      longer = let s = some in omega (arith, s)

      front_len : length (take len es) ≡ len
      front_len = length-take-le len es h.at_most

      one : block_count (drop len (take (len + k) es)) ≤ 1
      one = subst (λ (l : List EntryIndex). block_count l ≤ 1)
          (sym (ap (drop len) both ∙ ap (λ n. drop n (take len es ++ take k rest)) (sym front_len) ∙ drop_front (take len es) (take k rest))) b.one

      too_many : AreOnePart (take (len + k) es) → ⊥
      too_many (inl few) = let all = many_if (bytes + more) (take (len + k) es) more_sum many in absurd (omega (arith, few, all))
      too_many (inr few) =
          let count = more_blocks.0 in
          let front = some_blocks (take len es) (subst (λ n. 0 < n) (sym front_len) above) in
          let next_len = length-take-le k rest b.at_most in
          let s = some in
          let next = some_blocks (take k rest) (omega (arith, next_len, s)) in
          absurd (omega (arith, few, count, front, next))

pub all_in_part : (es : List EntryIndex) (len bytes : ℕ) → length es ≤ len → ArePartSoFar es len bytes → IsFirstPart es len
all_in_part es len bytes end h = record {
  at_most = h.at_most;
  some = λ some. above es some end;
  part = h.part;
  whole = h.cut;
  longest = λ l. absurd (omega (arith, l, end));
}
  where
    above : (l : List EntryIndex) → l ≢ [] → length l ≤ len → 0 < len
    above [] some le = absurd (some refl)
    above (e ∷ l) some le = omega (arith, le)
