-- Files of which the last one has a prefix of the bytes that it has elsewhere.
use Rattle.raft_engine.proofs.Common.{◌≡◌, ℕ, zero, suc, ◌+◌, ◌<◌, ◌≤◌, Bool, true, false, cond, List, [], ◌∷◌, ◌++◌, length, take, drop, Option, Some, None, refl, sym, ap, ◌∙◌, subst, arith, append_assoc, append-nil, length-append, ◌==◌, nat_le, nat_tests, take-append-le}
use Rattle.raft_engine.proofs.Common.{drop-append-le, length-drop, take-append-drop, take-take, take_at, cond_some, NumberedBytes, cut_last, put_behind, bytes_at, stretch_of, AreRisingFrom, numbers}

-- bytes that begin others
pub record IsPrefixOf (front bytes : List ℕ) : Type 0 where
  pub rest : List ℕ
  pub split : bytes ≡ front ++ rest

-- a file that has a prefix of another one's bytes, under the same number
pub record IsFilePrefix (file other : NumberedBytes) : Type 0 where
  pub number : file.0 ≡ other.0
  pub bytes : IsPrefixOf file.1 other.1

-- the first of some files, the last one of these with a prefix of its bytes
abbrev pub ArePrefixes : List NumberedBytes → List NumberedBytes → Type 0
ArePrefixes [] all = Unit {0}
ArePrefixes (f ∷ files) [] = ⊥
ArePrefixes (f ∷ []) (g ∷ all) = IsFilePrefix f g
ArePrefixes (f ∷ next ∷ files) (g ∷ all) = (f ≡ g) × ArePrefixes (next ∷ files) all

prefix_self : (bytes : List ℕ) → IsPrefixOf bytes bytes
prefix_self bytes = record { rest = []; split = sym (append-nil bytes) }

front_more : (front bytes more : List ℕ) → IsPrefixOf front bytes → IsPrefixOf front (bytes ++ more)
front_more front bytes more f = record { rest = f.rest ++ more; split = ap (λ (l : List ℕ). l ++ more) f.split ∙ append_assoc front f.rest more }

front_cut : (n : ℕ) (front bytes : List ℕ) → IsPrefixOf front bytes → IsPrefixOf (take n front) bytes
front_cut n front bytes f = record { rest = drop n front ++ f.rest; split = f.split ∙ ap (λ (l : List ℕ). l ++ f.rest) (sym (take-append-drop n front)) ∙ append_assoc (take n front) (drop n front) f.rest }

pub prefixes_self : (files : List NumberedBytes) → ArePrefixes files files
prefixes_self [] = tt
prefixes_self (f ∷ []) = record { number = refl; bytes = prefix_self f.1 }
prefixes_self (f ∷ g ∷ files) = (refl, prefixes_self (g ∷ files))

-- more bytes
pub prefixes_put : (bytes : List ℕ) (files all : List NumberedBytes) → ArePrefixes files all → ArePrefixes files (put_behind bytes all)
prefixes_put bytes [] all f = tt
prefixes_put bytes (f ∷ files) [] k = absurd k
prefixes_put bytes (f ∷ []) (g ∷ []) k = record { number = k.number; bytes = front_more f.1 g.1 bytes k.bytes }
prefixes_put bytes (f ∷ []) (g ∷ next ∷ all) k = k
prefixes_put bytes (f ∷ h ∷ files) (g ∷ []) k = absurd k.1
prefixes_put bytes (f ∷ h ∷ files) (g ∷ next ∷ all) k = (k.0, prefixes_put bytes (h ∷ files) (next ∷ all) k.1)

-- one more file
pub prefixes_begun : (file : NumberedBytes) (files all : List NumberedBytes) → ArePrefixes files all → ArePrefixes files (all ++ file ∷ [])
prefixes_begun file [] all f = tt
prefixes_begun file (f ∷ files) [] k = absurd k
prefixes_begun file (f ∷ []) (g ∷ all) k = k
prefixes_begun file (f ∷ h ∷ files) (g ∷ all) k = (k.0, prefixes_begun file (h ∷ files) all k.1)

-- a prefix of the bytes that are put
pub prefixes_of_put : (front rest : List ℕ) (all : List NumberedBytes) → ArePrefixes (put_behind front all) (put_behind (front ++ rest) all)
prefixes_of_put front rest [] = tt
prefixes_of_put front rest (g ∷ []) = record { number = refl; bytes = record { rest = rest; split = sym (append_assoc g.1 front rest) } }
prefixes_of_put front rest (g ∷ h ∷ []) = (refl, prefixes_of_put front rest (h ∷ []))
prefixes_of_put front rest (g ∷ h ∷ k ∷ all) = (refl, prefixes_of_put front rest (h ∷ k ∷ all))

-- fewer bytes
pub prefixes_cut : (n : ℕ) (files all : List NumberedBytes) → ArePrefixes files all → ArePrefixes (cut_last n files) all
prefixes_cut n [] all k = tt
prefixes_cut n (f ∷ files) [] k = absurd k
prefixes_cut n (f ∷ []) (g ∷ all) k = record { number = k.number; bytes = front_cut n f.1 g.1 k.bytes }
prefixes_cut n (f ∷ h ∷ []) (g ∷ all) k = (k.0, prefixes_cut n (h ∷ []) all k.1)
prefixes_cut n (f ∷ h ∷ i ∷ files) (g ∷ all) k = (k.0, prefixes_cut n (h ∷ i ∷ files) all k.1)

none_dropped : (n : ℕ) (all : List NumberedBytes) → ArePrefixes (drop n []) all
none_dropped zero all = tt
none_dropped (suc n) all = tt

-- fewer files
pub prefixes_drop : (n : ℕ) (files all : List NumberedBytes) → ArePrefixes files all → ArePrefixes (drop n files) (drop n all)
prefixes_drop zero files all k = k
prefixes_drop (suc n) [] all k = tt
prefixes_drop (suc n) (f ∷ files) [] k = absurd k
prefixes_drop (suc n) (f ∷ []) (g ∷ all) k = none_dropped n (drop n all)
prefixes_drop (suc n) (f ∷ h ∷ files) (g ∷ all) k = prefixes_drop n (h ∷ files) all k.1

-- ---- the bytes at a place

at_most : (n m : ℕ) → nat_le n m ≡ true → n ≤ m
at_most n m e = grind (arith, nat_tests)

is_at_most : (n m : ℕ) → n ≤ m → nat_le n m ≡ true
is_at_most n m l = grind (arith, nat_tests)

same_number : (n m : ℕ) → (n == m) ≡ true → n ≡ m
same_number n m e = grind (arith, nat_tests)

other_number : (n m : ℕ) → n < m → (n == m) ≡ false
other_number n m l = grind (arith, nat_tests)

stretch_more : (bytes more : List ℕ) (offset len : ℕ) (block : List ℕ) → stretch_of bytes offset len ≡ Some block → stretch_of (bytes ++ more) offset len ≡ Some block
stretch_more bytes more offset len block e =
    let p = cond_some (nat_le (offset + len) (length bytes)) (take len (drop offset bytes)) block e in
    let le : offset + len ≤ length bytes = at_most (offset + len) (length bytes) p.0 in
    let n = length-append bytes more in
    let d = length-drop offset bytes in
    ap (λ (b : Bool). cond b (Some (take len (drop offset (bytes ++ more)))) None) (is_at_most (offset + len) (length (bytes ++ more)) (omega (arith, le, n)))
    ∙ ap (λ (l : List ℕ). Some l) (ap (take len) (drop-append-le offset bytes more (omega (arith, le))) ∙ take-append-le len (drop offset bytes) more (omega (arith, le, d)) ∙ p.1)

-- in this file or a later one
either : (b : Bool) (x y other more : Option (List ℕ)) (block : List ℕ) → (x ≡ Some block → y ≡ Some block) → (other ≡ Some block → more ≡ Some block) → cond b x other ≡ Some block → cond b y more ≡ Some block
either true x y other more block f g e = f e
either false x y other more block f g e = g e

none_some : (block : List ℕ) → None ≡ Some block → ⊥
none_some block e = cc

module _ (seq offset len : ℕ) (block : List ℕ) where
  -- what stands in the prefixes stands in all
  pub at_prefixes : (files all : List NumberedBytes) → ArePrefixes files all → bytes_at files seq offset len ≡ Some block → bytes_at all seq offset len ≡ Some block
  at_prefixes [] all k e = absurd (none_some block e)
  at_prefixes (f ∷ files) [] k e = absurd k
  at_prefixes (f ∷ []) (g ∷ all) k e =
      subst (λ (n : ℕ). cond (n == seq) (stretch_of g.1 offset len) (bytes_at all seq offset len) ≡ Some block) k.number
      (either (f.0 == seq) (stretch_of f.1 offset len) (stretch_of g.1 offset len) None (bytes_at all seq offset len) block
      (λ x. subst (λ (l : List ℕ). stretch_of l offset len ≡ Some block) (sym k.bytes.split) (stretch_more f.1 k.bytes.rest offset len block x)) (λ x. absurd (none_some block x)) e)
  at_prefixes (f ∷ h ∷ files) (g ∷ all) k e =
      subst (λ (x : NumberedBytes). cond (x.0 == seq) (stretch_of x.1 offset len) (bytes_at all seq offset len) ≡ Some block) k.0
      (either (f.0 == seq) (stretch_of f.1 offset len) (stretch_of f.1 offset len) (bytes_at (h ∷ files) seq offset len) (bytes_at all seq offset len) block (λ x. x) (at_prefixes (h ∷ files) all k.1) e)

-- the last file of all is cut, but not below the prefix
pub prefixes_of_cut : (n : ℕ) (f g : NumberedBytes) → IsFilePrefix f g → length f.1 ≤ n → IsFilePrefix f (g.0, take n g.1)
prefixes_of_cut n f g k le = record {
  number = k.number;
  bytes = record {
    rest = drop (length f.1) (take n g.1);
    split =
        sym (take-append-drop (length f.1) (take n g.1))
        ∙ ap (λ (l : List ℕ). l ++ drop (length f.1) (take n g.1)) (take-take (length f.1) n g.1 le ∙ ap (take (length f.1)) k.bytes.split ∙ take_at f.1 k.bytes.rest (length f.1) refl);
  };
}

-- ---- numbers that rise

module _ (seq offset len : ℕ) (block : List ℕ) where
  -- where bytes stand, the number is one of these
  high : (n : ℕ) (files : List NumberedBytes) → AreRisingFrom n (numbers files) → bytes_at files seq offset len ≡ Some block → n ≤ seq
  high n [] r e = absurd (none_some block e)
  high n (f ∷ files) r e = go (f.0 == seq) refl (λ x. high (suc f.0) files r.1 x) e
    where
      go : (b : Bool) → (f.0 == seq) ≡ b → (bytes_at files seq offset len ≡ Some block → suc f.0 ≤ seq) → cond b (stretch_of f.1 offset len) (bytes_at files seq offset len) ≡ Some block → n ≤ seq
      go true same later e = let s = same_number f.0 seq same in let l : n ≤ f.0 = r.0 in omega (arith, s, l)
      go false other later e = let h = later e in let l : n ≤ f.0 = r.0 in omega (arith, h, l)

  -- what stands in the later files stands in all
  pub at_later : (n count : ℕ) (files : List NumberedBytes) → AreRisingFrom n (numbers files) → bytes_at (drop count files) seq offset len ≡ Some block → bytes_at files seq offset len ≡ Some block
  at_later n zero files r e = e
  at_later n (suc count) [] r e = absurd (none_some block (sym (none_there count) ∙ e))
    where
      none_there : (count : ℕ) → bytes_at (drop (suc count) []) seq offset len ≡ None
      none_there count = refl
  at_later n (suc count) (f ∷ files) r e =
      let later = at_later (suc f.0) count files r.1 e in
      ap (λ (b : Bool). cond b (stretch_of f.1 offset len) (bytes_at files seq offset len)) (other_number f.0 seq (let h = high (suc f.0) files r.1 later in omega (arith, h))) ∙ later
