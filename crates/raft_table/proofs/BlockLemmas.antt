-- Blocks and their entries: how many, from which indexes on, one after the other, and where one stands.
use Rattle.raft_table.proofs.Common.{◌≡◌, ℕ, zero, suc, ◌+◌, ◌-◌, ◌<◌, ◌≤◌, List, [], ◌∷◌, ◌++◌, length, get_or, take, drop, refl, sym, ap, ◌∙◌, arith, append_assoc, length-append, take_more, IsNonDecreasingBy, FileBlockHandle, RisesFrom}
use Rattle.raft_table.proofs.Common.{entries_of_block, BlockSpans, entries_in_blocks, count, starts_of, start_of, false, true, eqb, subst, inl, inr, Some, cases_lt, drop-append-le, take-append-le, take-append-drop, drop_more, take_all}
use Rattle.raft_table.proofs.Common.{length-take-le, get_or-drop, eq-or-lt_of_le, nat_tests, EntryIndex, IsIndexOf, IsAt, entry_at}
use Rattle.raft_table.proofs.RunLemmas.{RisesFrom-append, RisesFrom-take}
use Rattle.std.proofs.Math.Seq.{drop-append-add, take-append-add}
use Rattle.raft_base.specs.declared.compression_type.CompressionType.TheVariants as compression

pub length-spread : (i : ℕ) (h : FileBlockHandle) (ss : List (ℕ × ℕ)) → length (entries_of_block i h ss) ≡ length ss
length-spread i h [] = refl
length-spread i h (s ∷ ss) = ap suc (length-spread (suc i) h ss)

pub start_of-spread : (i : ℕ) (h : FileBlockHandle) (ss : List (ℕ × ℕ)) → 0 < length ss → start_of (entries_of_block i h ss) ≡ i
start_of-spread i h [] l = absurd (omega arith)
start_of-spread i h (s ∷ ss) l = refl

pub spread-append : (i : ℕ) (h : FileBlockHandle) (a b : List (ℕ × ℕ)) → entries_of_block i h (a ++ b) ≡ entries_of_block i h a ++ entries_of_block (i + length a) h b
spread-append i h [] b = let e : i + 0 ≡ i = omega arith in rw e refl
spread-append i h (s ∷ a) b =
    let e : i + suc (length a) ≡ suc i + length a = omega arith in
    rw (spread-append (suc i) h a b, e) refl

pub spread_take : (n i : ℕ) (h : FileBlockHandle) (ss : List (ℕ × ℕ)) → take n (entries_of_block i h ss) ≡ entries_of_block i h (take n ss)
spread_take zero i h ss = refl
spread_take (suc n) i h [] = refl
spread_take (suc n) i h (s ∷ ss) = rw (spread_take n (suc i) h ss) refl

pub spread_drop : (n i : ℕ) (h : FileBlockHandle) (ss : List (ℕ × ℕ)) → n ≤ length ss → drop n (entries_of_block i h ss) ≡ entries_of_block (i + n) h (drop n ss)
spread_drop zero i h ss l = let e : i + 0 ≡ i = omega arith in rw e refl
spread_drop (suc n) i h [] l = absurd (omega arith)
spread_drop (suc n) i h (s ∷ ss) l =
    let e : i + suc n ≡ suc i + n = omega arith in
    rw e (spread_drop n (suc i) h ss (omega arith))

pub length-expanded : (i : ℕ) (bs : List BlockSpans) → length (entries_in_blocks i bs) ≡ count bs
length-expanded i [] = refl
length-expanded i (b ∷ bs) =
    length-append (entries_of_block i b.handle b.spans) (entries_in_blocks (i + length b.spans) bs)
    ∙ rw (length-spread i b.handle b.spans, length-expanded (i + length b.spans) bs) refl

pub count-append : (a b : List BlockSpans) → count (a ++ b) ≡ count a + count b
count-append [] b = omega arith
count-append (x ∷ a) b = rw (count-append a b) (omega arith)

pub expanded-append : (i : ℕ) (a b : List BlockSpans) → entries_in_blocks i (a ++ b) ≡ entries_in_blocks i a ++ entries_in_blocks (i + count a) b
expanded-append i [] b = let e : i + 0 ≡ i = omega arith in rw e refl
expanded-append i (x ∷ a) b =
    let n = length x.spans in
    let e : i + (n + count a) ≡ i + n + count a = omega arith in
    rw (expanded-append (i + n) a b, e) (sym (append_assoc (entries_of_block i x.handle x.spans) (entries_in_blocks (i + n) a) (entries_in_blocks (i + n + count a) b)))

pub starts-append : (i : ℕ) (a b : List BlockSpans) → starts_of i (a ++ b) ≡ starts_of i a ++ starts_of (i + count a) b
starts-append i [] b = let e : i + 0 ≡ i = omega arith in rw e refl
starts-append i (x ∷ a) b =
    let n = length x.spans in
    let e : i + (n + count a) ≡ i + n + count a = omega arith in
    rw (starts-append (i + n) a b, e) refl

pub length-starts : (i : ℕ) (bs : List BlockSpans) → length (starts_of i bs) ≡ length bs
length-starts i [] = refl
length-starts i (b ∷ bs) = ap suc (length-starts (i + length b.spans) bs)

pub start_at : (k i : ℕ) (bs : List BlockSpans) (d : ℕ) → k < length bs → get_or (starts_of i bs) k d ≡ i + count (take k bs)
start_at k i [] d l = absurd (omega arith)
start_at zero i (b ∷ bs) d l = omega arith
start_at (suc k) i (b ∷ bs) d l = start_at k (i + length b.spans) bs d (omega arith) ∙ omega arith

pub count_take-le : (j k : ℕ) (bs : List BlockSpans) → j ≤ k → count (take j bs) ≤ count (take k bs)
count_take-le zero k bs l = omega arith
count_take-le (suc j) zero bs l = absurd (omega arith)
count_take-le (suc j) (suc k) [] l = omega arith
count_take-le (suc j) (suc k) (b ∷ bs) l = let h = count_take-le j k bs (omega arith) in omega arith

pub starts_rise : (i : ℕ) (bs : List BlockSpans) → IsNonDecreasingBy (λ (y : ℕ). y) (starts_of i bs)
starts_rise i bs j k d le lt =
    let l : k < length bs = rw (length-starts i bs) at lt in
    let h = count_take-le j k bs le in
    rw (start_at j i bs d (omega arith), start_at k i bs d l) (omega arith)

pub rises_spread : (i : ℕ) (h : FileBlockHandle) (ss : List (ℕ × ℕ)) → RisesFrom i (entries_of_block i h ss)
rises_spread i h [] = tt
rises_spread i h (s ∷ ss) = (refl, rises_spread (suc i) h ss)

pub rises_expanded : (i : ℕ) (bs : List BlockSpans) → RisesFrom i (entries_in_blocks i bs)
rises_expanded i [] = tt
rises_expanded i (b ∷ bs) =
    RisesFrom-append i (entries_of_block i b.handle b.spans) (entries_in_blocks (i + length b.spans) bs) (rises_spread i b.handle b.spans)
    (rw (length-spread i b.handle b.spans) (rises_expanded (i + length b.spans) bs))

pub starts_drop : (j i : ℕ) (bs : List BlockSpans) → drop j (starts_of i bs) ≡ starts_of (i + count (take j bs)) (drop j bs)
starts_drop zero i bs = let e : i + 0 ≡ i = omega arith in rw e refl
starts_drop (suc j) i [] = refl
starts_drop (suc j) i (b ∷ bs) =
    let n = length b.spans in
    let e : i + (n + count (take j bs)) ≡ i + n + count (take j bs) = omega arith in
    rw e (starts_drop j (i + n) bs)

pub count_cut : (j : ℕ) (bs : List BlockSpans) → count (take j bs) + count (drop j bs) ≡ count bs
count_cut zero bs = omega arith
count_cut (suc j) [] = refl
count_cut (suc j) (b ∷ bs) = let h = count_cut j bs in omega arith

pub count_take_more : (j : ℕ) (bs : List BlockSpans) (d : BlockSpans) → j < length bs → count (take (suc j) bs) ≡ count (take j bs) + length (get_or bs j d).spans
count_take_more j [] d l = absurd (omega arith)
count_take_more zero (b ∷ bs) d l = omega arith
count_take_more (suc j) (b ∷ bs) d l = let h = count_take_more j bs d (omega arith) in omega arith

pub starts_more : (i k : ℕ) (bs : List BlockSpans) (d : BlockSpans) → k < length bs
    → starts_of i (take (k + 1) bs) ≡ starts_of i (take k bs) ++ (i + count (take k bs)) ∷ []
starts_more i k bs d l = ap (starts_of i) (take_more bs k d l) ∙ starts-append i (take k bs) (get_or bs k d ∷ [])

-- the block whose first index is at or below an index, where the next one's is above it
pub at_start : (x i k s : ℕ) (bs : List BlockSpans) (ss : List ℕ) → ss ≡ starts_of i bs → i ≤ x → x < i + count bs → k < length ss →
    s ≡ get_or ss k s → s ≤ x → ((d : ℕ) → suc k < length ss → x < get_or ss (suc k) d) → IsAt (x - i) bs k (x - s)
at_start x i k s bs ss e lo hi l g le up =
    let n : length ss ≡ length bs = rw e (length-starts i bs) in
    let f : s ≡ i + count (take k bs) = g ∙ ap (λ xs. get_or xs k s) e ∙ start_at k i bs s (omega arith) in
    let top : x < i + count (take (suc k) bs) = elim (eq-or-lt_of_le (let h : suc k ≤ length bs = omega arith in h)) [
      | inl h ↦ rw (take_all (suc k) bs (omega arith)) hi
      | inr h ↦ let u = up 0 (omega arith) in let v : get_or ss (suc k) 0 ≡ i + count (take (suc k) bs) = rw e (start_at (suc k) i bs 0 h) in omega arith
    ] in
    record {
      block = omega arith;
      spot = omega arith;
      inside = λ d. let m = count_take_more k bs d (omega arith) in omega arith;
    }

pub count_front : (k : ℕ) (bs : List BlockSpans) → count (take k bs) ≤ count bs
count_front k bs = omega (arith, count_cut k bs)

pub spot_within : (p k o : ℕ) (bs : List BlockSpans) → IsAt p bs k o → p < count bs
spot_within p k o [] a = absurd (let l = a.block in omega arith)
spot_within p k o (b ∷ bs) a =
    let l = a.block in
    let m = count_take_more k (b ∷ bs) b l in
    let f = count_front (suc k) (b ∷ bs) in
    omega arith

-- an index at which the blocks have an entry: there are blocks, and the first starts at or below it
pub index_some : (ss : List ℕ) (x : ℕ) → IsIndexOf ss x → 0 < length ss
index_some ss x h = rw h.2 (some h.1 h.4)
  where
    some : (bs : List BlockSpans) → x < h.0 + count bs → 0 < length (starts_of h.0 bs)
    some [] l = absurd (let k = h.3 in omega arith)
    some (b ∷ bs) l = omega arith

pub index_first : (ss : List ℕ) (x : ℕ) → IsIndexOf ss x → (d : ℕ) → get_or ss 0 d ≤ x
index_first ss x h d = rw h.2 (first h.1 h.4)
  where
    first : (bs : List BlockSpans) → x < h.0 + count bs → get_or (starts_of h.0 bs) 0 d ≤ x
    first [] l = absurd (let k = h.3 in omega arith)
    first (b ∷ bs) l = h.3

pub index_rises : (ss : List ℕ) (x : ℕ) → IsIndexOf ss x → IsNonDecreasingBy (λ (y : ℕ). y) ss
index_rises ss x h = rw h.2 (starts_rise h.0 h.1)

pub found_some : (ss : List ℕ) (x k : ℕ) → IsIndexOf ss x → ((j d : ℕ) → k ≤ j → j < length ss → x < get_or ss j d) → 0 < k
found_some ss x zero h up = let a = up 0 0 (omega arith) (index_some ss x h) in let b = index_first ss x h 0 in absurd (omega arith)
found_some ss x (suc k) h up = omega arith

pub at_spot : (i p k o : ℕ) (bs : List BlockSpans) (d : BlockSpans) → IsAt p bs k o →
    drop p (entries_in_blocks i bs) ≡ entries_of_block (i + p) (get_or bs k d).handle (drop o (get_or bs k d).spans) ++ entries_in_blocks
    (i + count (take (suc k) bs)) (drop (suc k) bs)
at_spot i p k o [] d a = absurd (let l = a.block in omega arith)
at_spot i p zero o (b ∷ bs) d a =
    let l = a.inside d in
    let q : p ≡ o = sym a.spot ∙ omega arith in
    let n : i + (length b.spans + 0) ≡ i + length b.spans = omega arith in
    rw (q, n) (drop-append-le o (entries_of_block i b.handle b.spans) (entries_in_blocks (i + length b.spans) bs) (rw (length-spread i b.handle b.spans) (omega arith))
    ∙ ap (λ es. es ++ entries_in_blocks (i + length b.spans) bs) (spread_drop o i b.handle b.spans (omega arith)))
at_spot i p (suc k) o (b ∷ bs) d a =
    let n = length b.spans in
    let q : p ≡ n + (count (take k bs) + o) = sym a.spot ∙ omega arith in
    let z : n + (count (take k bs) + o) ≡ length (entries_of_block i b.handle b.spans) + (count (take k bs) + o) = rw (length-spread i b.handle b.spans) refl in
    let u : i + n + (count (take k bs) + o) ≡ i + p = omega arith in
    let v : i + n + count (take (suc k) bs) ≡ i + (n + count (take (suc k) bs)) = omega arith in
    let rest : IsAt (count (take k bs) + o) bs k o = record { block = omega arith; spot = refl; inside = a.inside } in
    ap (λ m. drop m (entries_in_blocks i (b ∷ bs))) (q ∙ z)
    ∙ drop-append-add (entries_of_block i b.handle b.spans) (entries_in_blocks (i + n) bs) (count (take k bs) + o)
    ∙ at_spot (i + n) (count (take k bs) + o) k o bs d rest
    ∙ rw (u, v) refl

pub below_spot : (i p k o : ℕ) (bs : List BlockSpans) (d : BlockSpans) → k < length bs → count (take k bs) + o ≡ p →
    o ≤ length (get_or bs k d).spans → take p (entries_in_blocks i bs) ≡ entries_in_blocks i (take k bs) ++ entries_of_block (i + count (take k bs))
    (get_or bs k d).handle (take o (get_or bs k d).spans)
below_spot i p k o [] d l e m = absurd (omega arith)
below_spot i p zero o (b ∷ bs) d l e m =
    let q : p ≡ o = sym e ∙ omega arith in
    let z : i + 0 ≡ i = omega arith in
    rw (q, z) (take-append-le o (entries_of_block i b.handle b.spans) (entries_in_blocks (i + length b.spans) bs) (rw (length-spread i b.handle b.spans) m)
    ∙ spread_take o i b.handle b.spans)
below_spot i p (suc k) o (b ∷ bs) d l e m =
    let n = length b.spans in
    let q : p ≡ n + (count (take k bs) + o) = sym e ∙ omega arith in
    let z : n + (count (take k bs) + o) ≡ length (entries_of_block i b.handle b.spans) + (count (take k bs) + o) = rw (length-spread i b.handle b.spans) refl in
    let v : i + (n + count (take k bs)) ≡ i + n + count (take k bs) = omega arith in
    ap (λ w. take w (entries_in_blocks i (b ∷ bs))) (q ∙ z)
    ∙ take-append-add (entries_of_block i b.handle b.spans) (entries_in_blocks (i + n) bs) (count (take k bs) + o)
    ∙ ap (λ es. entries_of_block i b.handle b.spans ++ es) (below_spot (i + n) (count (take k bs) + o) k o bs d (omega arith) refl m)
    ∙ rw v (sym (append_assoc (entries_of_block i b.handle b.spans) (entries_in_blocks (i + n) (take k bs)) (entries_of_block (i + n + count (take k bs)) (get_or bs k d).handle (take o (get_or bs k d).spans))))

-- look-ups go past what stands below
skip : (x s : ℕ) (a b : List EntryIndex) → RisesFrom s a → s + length a ≤ x → entry_at x (a ++ b) ≡ entry_at x b
skip x s [] b h l = refl
skip x s (e ∷ a) b h l =
    let t : eqb e.index x ≡ false = rw h.0 (grind (arith, nat_tests)) in
    rw t (skip x (suc s) a b h.1 (omega arith))

abbrev pub entry_of : ℕ → FileBlockHandle → ℕ × ℕ → EntryIndex
entry_of x handle s = record { index = x; entries = Some handle; compression_type = compression.None; entry_offset = s.0; entry_len = s.1 }

head_of : (x o : ℕ) (h : FileBlockHandle) (ss : List (ℕ × ℕ)) (s : ℕ × ℕ) (rest : List EntryIndex) → o < length ss → s ≡ get_or ss o s → entry_at x (entries_of_block x h (drop o ss) ++ rest) ≡ Some (entry_of x h s)
head_of x o h ss s rest l e =
    let t : eqb x x ≡ true = grind (arith, nat_tests) in
    rw (drop_more ss o s l, ← e, t) refl

-- the entry at an index, by where it stands
pub entry_at_spot : (x i k o : ℕ) (bs : List BlockSpans) (b : BlockSpans) (s : ℕ × ℕ) → i ≤ x → IsAt (x - i) bs k o → b ≡ get_or bs k b → s ≡ get_or b.spans o s → Some (entry_of x b.handle s) ≡ entry_at x (entries_in_blocks i bs)
entry_at_spot x i k o bs b s lo a e f =
    let es = entries_in_blocks i bs in
    let p = x - i in
    let inside : o < length b.spans = subst (λ (y : BlockSpans). o < length y.spans) (sym e) (a.inside b) in
    let tail : drop p es ≡ entries_of_block (i + p) b.handle (drop o b.spans) ++ entries_in_blocks (i + count (take (suc k) bs)) (drop (suc k) bs) =
    subst (λ (y : BlockSpans). drop p es ≡ entries_of_block (i + p) y.handle (drop o y.spans) ++ entries_in_blocks (i + count (take (suc k) bs)) (drop (suc k) bs)) (sym e) (at_spot i p k o bs b a) in
    let q : i + p ≡ x = omega arith in
    let fit : p ≤ length es = rw (length-expanded i bs) (omega (arith, spot_within p k o bs a)) in
    let g : length (take p es) ≡ p = length-take-le p es fit in
    sym (ap (entry_at x) (sym (take-append-drop p es))
    ∙ skip x i (take p es) (drop p es) (RisesFrom-take p i es (rises_expanded i bs)) (omega arith)
    ∙ rw (tail, q) (head_of x o b.handle b.spans s (entries_in_blocks (i + count (take (suc k) bs)) (drop (suc k) bs)) inside f))

pub entry_is : (i p k o : ℕ) (bs : List BlockSpans) (b : BlockSpans) (s : ℕ × ℕ) (d : EntryIndex) → IsAt p bs k o → b ≡ get_or bs k b → s ≡ get_or b.spans o s → entry_of (i + p) b.handle s ≡ get_or (entries_in_blocks i bs) p d
entry_is i p k o bs b s d a e f =
    let es = entries_in_blocks i bs in
    let rest = entries_in_blocks (i + count (take (suc k) bs)) (drop (suc k) bs) in
    let inside : o < length b.spans = subst (λ (y : BlockSpans). o < length y.spans) (sym e) (a.inside b) in
    let tail : drop p es ≡ entries_of_block (i + p) b.handle (drop o b.spans) ++ rest =
    subst (λ (y : BlockSpans). drop p es ≡ entries_of_block (i + p) y.handle (drop o y.spans) ++ rest) (sym e) (at_spot i p k o bs b a) in
    let head : get_or (drop p es) 0 d ≡ entry_of (i + p) b.handle s = rw (tail, drop_more b.spans o s inside, ← f) refl in
    let z : p + 0 ≡ p = omega arith in
    sym (sym (get_or-drop p es 0 d ∙ ap (λ m. get_or es m d) z) ∙ head)

-- blocks that are walked until so many entries are behind: the next block is there, and the entry stands in it, or behind it
pub walked_within : (k o p : ℕ) (bs : List BlockSpans) → count (take k bs) + o ≡ p → p < count bs → k < length bs
walked_within k o p bs e l = elim (cases_lt k (length bs)) [
  | inl h ↦ h
  | inr h ↦ let t = ap count (take_all k bs h) in absurd (omega arith)
]

pub walked_more : (k o p : ℕ) (bs : List BlockSpans) (b : BlockSpans) → count (take k bs) + o ≡ p → k < length bs → b ≡ get_or bs k b
    → length b.spans ≤ o → count (take (k + 1) bs) + (o - length b.spans) ≡ p
walked_more k o p bs b e l f h =
    let z : k + 1 ≡ suc k = omega arith in
    let m = count_take_more k bs b l in
    let n : length b.spans ≡ length (get_or bs k b).spans = ap (λ (y : BlockSpans). length y.spans) f in
    rw z (omega arith)
