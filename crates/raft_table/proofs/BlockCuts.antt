-- What a cut leaves of blocks.
use Rattle.raft_table.proofs.CutLemmas.{front_below, behind_from}
use Rattle.raft_table.proofs.Common.{◌≡◌, ◌≢◌, inl, inr, ◌^◌, ℕ, zero, suc, ◌+◌, ◌-◌, ◌<◌, ◌≤◌, min, List, [], ◌∷◌, ◌++◌, length, get_or, set, take, drop, refl, sym, ap, ◌∙◌, subst, arith, nil_from_length, append-nil, length-drop}
use Rattle.raft_table.proofs.Common.{length-take-le, take-append-drop, end_of, entries_of_block, end_bounded, BlockSpans, entries_in_blocks, Differs, AreDistinctBlocks, count, starts_of, AreStarts, AreKept, first_spans, without_first_spans}
use Rattle.raft_table.proofs.Common.{first_of_last, without_first_of_first, IsAt, IsIndexOf, AreTableEntries, start_of, placed_in, entry_count, IsPart, EntryIndex, below, from, Append, Rewrite}
use Rattle.raft_table.proofs.PlaceLemmas.{entries_in_both}
use Rattle.raft_table.proofs.RunLemmas.{start-of_rising, end_of-run}
use Rattle.raft_table.proofs.SoundLemmas.{AreTableEntries-nil, AreTableEntries-drop, AreTableEntries-take, cut_counts}
use Rattle.raft_table.proofs.BlockLemmas.{length-starts, length-expanded, count-append, expanded-append, starts_drop, count_cut, rises_expanded, at_spot, below_spot, spot_within}

-- what the numbers that are kept say
pub record KeptFacts (i n : ℕ) (bs : List BlockSpans) (r : ℕ) : Type 0 where
  pub length : length (entries_in_blocks i bs) ≡ n
  pub both : r + entry_count Append (entries_in_blocks i bs) ≡ n
  pub empty : n ≡ 0 → entries_in_blocks i bs ≡ []
  pub start : 0 < n → start_of (entries_in_blocks i bs) ≡ i
  pub end : 0 < n → end_of (entries_in_blocks i bs) ≡ i + n
  pub bounded : 0 < n → i + n < 2 ^ 64

pub kept_facts : {i n : ℕ} {bs : List BlockSpans} {ss : List ℕ} {r : ℕ} → AreKept i n bs ss r → KeptFacts i n bs r
kept_facts {i} {n} {bs} {ss} {r} k =
    let l : length (entries_in_blocks i bs) ≡ n = length-expanded i bs ∙ sym k.len in
    let b = entries_in_both (entries_in_blocks i bs) k.table_entries.in_front in
    let e : 0 < n → end_of (entries_in_blocks i bs) ≡ i + n = λ p. end_of-run i (entries_in_blocks i bs) (rises_expanded i bs) (omega arith) ∙ omega arith in
    record {
      length = l;
      both = omega arith;
      empty = λ e. nil_from_length (entries_in_blocks i bs) (l ∙ e);
      start = λ p. start-of_rising i (entries_in_blocks i bs) (rises_expanded i bs) (omega arith);
      end = e;
      bounded = λ p. let q = e p in let s = end_bounded _ k.table_entries.consecutive.bounded in omega arith;
    }

pub index_of : {i n x : ℕ} {bs : List BlockSpans} {ss : List ℕ} {r : ℕ} → AreKept i n bs ss r → (w : ℕ) → x ≡ i + w → w < n → IsIndexOf ss x
index_of {i} {n} {x} {bs} h w e l = let k = h.len in (i, bs, h.starts, omega arith, omega arith)

pub found : {i n x k o : ℕ} {bs : List BlockSpans} {ss : List ℕ} {r : ℕ} → AreKept i n bs ss r →
    ((j : ℕ) (cs : List BlockSpans) → ss ≡ starts_of j cs → j ≤ x → x < j + count cs → IsAt (x - j) cs k o) → (w : ℕ) → x ≡ i + w → w < n →
    IsAt w bs k o
found {i} {n} {x} {k} {o} {bs} h f w e l = let m = h.len in subst (λ z. IsAt z bs k o) (let q : x - i ≡ w = omega arith in q) (f i bs h.starts (omega arith) (omega arith))

pub kept_length : {i n : ℕ} {bs : List BlockSpans} {ss : List ℕ} {r : ℕ} → AreKept i n bs ss r → length ss ≡ length bs
kept_length {i} {n} {bs} h = ap length h.starts ∙ length-starts i bs

pub kept_with : {i n : ℕ} {bs : List BlockSpans} {ss us : List ℕ} {r : ℕ} → AreKept i n bs ss r → us ≡ starts_of i bs → AreKept i n bs us r
kept_with h e = record { table_entries = h.table_entries; distinct = h.distinct; starts = e; len = h.len; rewritten = h.rewritten }

some_count : (bs : List BlockSpans) → AreDistinctBlocks bs → 0 < length bs → 0 < count bs
some_count [] d l = l
some_count (b ∷ bs) d l = let h = d.0 in omega arith

pub kept_bounded : {i n : ℕ} {bs : List BlockSpans} {ss : List ℕ} {r : ℕ} → AreKept i n bs ss r → 0 < length bs → i + count bs < 2 ^ 64
kept_bounded {i} {n} {bs} h l =
    let s = some_count bs h.distinct l in
    let b = (kept_facts h).bounded (omega arith) in
    omega arith

-- what a table shows has as many entries as it keeps
pub shown_len : {i n : ℕ} {bs : List BlockSpans} {ss : List ℕ} {r : ℕ} {es : List EntryIndex} → AreKept i n bs ss r → entries_in_blocks i bs ≡ es → length es ≡ n
shown_len h e = ap length (sym e) ∙ (kept_facts h).length

pub kept_cut : {i n : ℕ} {bs : List BlockSpans} {ss : List ℕ} {r : ℕ} → AreKept i n bs ss r → (x k : ℕ) → k ≡ min (x - i) n →
    (drop k (entries_in_blocks i bs) ≡ from x (entries_in_blocks i bs)) × (take k (entries_in_blocks i bs) ≡ below x (entries_in_blocks i bs))
kept_cut {i} {n} {bs} h x k e =
    let l = (kept_facts h).length in
    (behind_from x i k (entries_in_blocks i bs) (rises_expanded i bs) (rw l e), front_below x i k (entries_in_blocks i bs) (rises_expanded i bs) (rw l e))

pub within_of : {i n : ℕ} {bs : List BlockSpans} {ss : List ℕ} {r : ℕ} → AreKept i n bs ss r → (w : ℕ) → w < n → (w < count bs) × (i + count bs < 2 ^ 64)
within_of h w l = let k = h.len in (omega arith, (let b = (kept_facts h).bounded (omega arith) in omega arith))

pub part_of : {i n a e : ℕ} {bs : List BlockSpans} {ss : List ℕ} {r : ℕ} {spot : ℕ × ℕ} → AreKept i n bs ss r → IsAt a bs spot.0 spot.1 → a ≤ e → e ≤ n → IsPart bs spot a e
part_of h s l m = let k = h.len in record { first = s; distinct = h.distinct; order = l; within = omega arith }

-- first indexes that are kept, if any are: as many as blocks, and what a cut leaves of them
pub starts_kept : (i : ℕ) (bs : List BlockSpans) (ss : List ℕ) → AreStarts i bs ss → 0 < length ss → ss ≡ starts_of i bs
starts_kept i bs ss (inl e) l = absurd (omega (arith, ap length e))
starts_kept i bs ss (inr e) l = e

pub starts_length : (i : ℕ) (bs : List BlockSpans) (ss : List ℕ) → AreStarts i bs ss → ss ≢ [] → length ss ≡ length bs
starts_length i bs ss (inl e) d = absurd (d e)
starts_length i bs ss (inr e) d = ap length e ∙ length-starts i bs

pub starts_dropped : (i x k : ℕ) (bs cs : List BlockSpans) (ss us : List ℕ) → AreStarts i bs ss → k < length bs → (ss ≡ [] → us ≡ [])
    → (ss ≢ [] → us ≡ set (drop k ss) 0 x) → set (drop k (starts_of i bs)) 0 x ≡ starts_of x cs → AreStarts x cs us
starts_dropped i x k bs cs ss us (inl e) l f g h = inl (f e)
starts_dropped i x k bs cs ss us (inr e) l f g h =
    let d : ss ≢ [] = λ (z : ss ≡ []). let n = ap length z in let m = ap length e ∙ length-starts i bs in absurd (omega arith) in
    inr (g d ∙ ap (λ xs. set (drop k xs) 0 x) e ∙ h)

take_none : (k : ℕ) (xs : List ℕ) → xs ≡ [] → take k xs ≡ []
take_none zero xs e = refl
take_none (suc k) xs e = rw e refl

pub starts_taken : (i k : ℕ) (bs cs : List BlockSpans) (ss us : List ℕ) → AreStarts i bs ss → us ≡ take k ss
    → take k (starts_of i bs) ≡ starts_of i cs → AreStarts i cs us
starts_taken i k bs cs ss us (inl e) f h = inl (f ∙ take_none k ss e)
starts_taken i k bs cs ss us (inr e) f h = inr (f ∙ ap (take k) e ∙ h)

pub kept_nil : (i n : ℕ) (bs : List BlockSpans) (ss : List ℕ) (r : ℕ) → bs ≡ [] → ss ≡ [] → n ≡ 0 → r ≡ 0 → AreKept i n bs ss r
unfolding placed_in
kept_nil i n bs ss r e f g h = rw (e, f, g, h) record { table_entries = AreTableEntries-nil; distinct = tt; starts = refl; len = refl; rewritten = refl }

pub split_drop : {X : Type 0} (k : ℕ) (bs : List X) (b : X) (rest : List X) (d : X) → drop k bs ≡ b ∷ rest → (get_or bs k d ≡ b) × (drop (suc k) bs ≡ rest)
split_drop zero [] b rest d h = absurd (omega (arith, ap length h))
split_drop zero (x ∷ bs) b rest d h = (ap (λ ys. get_or ys 0 d) h, ap (drop 1) h)
split_drop (suc k) [] b rest d h = absurd (omega (arith, ap length h))
split_drop (suc k) (x ∷ bs) b rest d h = split_drop k bs b rest d h

pub distinct-drop : (j : ℕ) (bs : List BlockSpans) → AreDistinctBlocks bs → AreDistinctBlocks (drop j bs)
distinct-drop zero bs h = h
distinct-drop (suc j) [] h = tt
distinct-drop (suc j) (b ∷ bs) h = distinct-drop j bs h.2

pub Differs-same : (b c : BlockSpans) (bs : List BlockSpans) → c.handle ≡ b.handle → Differs b bs → Differs c bs
Differs-same b c [] e h = tt
Differs-same b c (x ∷ bs) e h = λ f. h (sym e ∙ f)

pub kept_drop : (i n p k o : ℕ) (bs : List BlockSpans) (ss : List ℕ) (r : ℕ) → AreKept i n bs ss r → IsAt p bs k o →
    AreKept (i + p) (n - p) (without_first_of_first o (drop k bs)) (set (drop k ss) 0 (i + p)) (r - min r p) ×
    (entries_in_blocks (i + p) (without_first_of_first o (drop k bs)) ≡ drop p (entries_in_blocks i bs))
kept_drop i n p k o bs ss r h a = at (drop k bs) refl
  where
    at : (back : List BlockSpans) → drop k bs ≡ back → AreKept (i + p) (n - p) (without_first_of_first o back) (set (drop k ss) 0 (i + p))
        (r - min r p) × (entries_in_blocks (i + p) (without_first_of_first o back) ≡ drop p (entries_in_blocks i bs))
    at [] q = absurd (let l = a.block in omega (arith, ap length q, length-drop k bs))
    at (b ∷ rest) q =
        let s = split_drop k bs b rest b q in
        let es = entries_in_blocks i bs in
        let inside : o < length b.spans = subst (λ (y : BlockSpans). o < length y.spans) s.0 (a.inside b) in
        let cc = count_cut k bs in
        let total : count (take k bs) + (length b.spans + count rest) ≡ count bs = ap (λ ys. count (take k bs) + count ys) (sym q) ∙ cc in
        let more : count (take (suc k) bs) ≡ count (take k bs) + length b.spans = let c2 = count_cut (suc k) bs in let c3 = ap count s.1 in omega arith in
        let ln : length (drop o b.spans) ≡ length b.spans - o = length-drop o b.spans in
        let pos : i + p + length (drop o b.spans) ≡ i + count (take (suc k) bs) = omega arith in
        let whole : drop p es ≡ entries_of_block (i + p) b.handle (drop o b.spans) ++ entries_in_blocks (i + count (take (suc k) bs)) rest =
        subst (λ (ys : List BlockSpans). drop p es ≡ entries_of_block (i + p) b.handle (drop o b.spans) ++ entries_in_blocks (i + count (take (suc k) bs)) ys) s.1
        (subst (λ (y : BlockSpans). drop p es ≡ entries_of_block (i + p) y.handle (drop o y.spans) ++ entries_in_blocks (i + count (take (suc k) bs)) (drop (suc k) bs)) s.0 (at_spot i p k o bs b a)) in
        let cut : drop p es ≡ entries_in_blocks (i + p) (without_first_spans o b ∷ rest) = rw pos whole in
        let le : p ≤ length es = rw (length-expanded i bs) (omega arith) in
        let counts = cut_counts p es h.table_entries le in
        let str : AreDistinctBlocks (b ∷ rest) = subst AreDistinctBlocks q (distinct-drop k bs h.distinct) in
        let ds : drop k ss ≡ (i + count (take k bs)) ∷ starts_of (i + count (take k bs) + length b.spans) rest =
        ap (drop k) h.starts ∙ starts_drop k i bs ∙ ap (starts_of (i + count (take k bs))) q in
        let ps : i + count (take k bs) + length b.spans ≡ i + p + length (drop o b.spans) = omega arith in (
          record {
            table_entries = subst AreTableEntries cut (AreTableEntries-drop p es h.table_entries);
            distinct = (omega arith, Differs-same b (without_first_spans o b) rest refl str.1, str.2);
            starts = rw (ds, ps) refl;
            len = omega arith;
            rewritten = subst (λ xs. r - min r p ≡ entry_count Rewrite xs) cut (omega arith);
          },
          sym cut,
        )

-- blocks that stay up to a spot among them, so many of them and of their entries
pub record IsFront (i p k : ℕ) (bs front : List BlockSpans) : Type 0 where
  pub entries : entries_in_blocks i front ≡ take p (entries_in_blocks i bs)
  pub distinct : AreDistinctBlocks front
  pub starts : starts_of i front ≡ take k (starts_of i bs)
  pub count : count front ≡ p

cut_is : (k m : ℕ) (bs : List BlockSpans) (b : BlockSpans) (rest : List BlockSpans) → drop k bs ≡ b ∷ rest → first_of_last m (take (suc k) bs) ≡ take k bs ++ first_spans m b ∷ []
cut_is k m [] b rest h = absurd (omega (arith, ap length h, length-drop {A = BlockSpans} k []))
cut_is zero m (x ∷ bs) b rest h = let s = split_drop 0 (x ∷ bs) b rest b h in ap (λ (y : BlockSpans). first_spans m y ∷ []) s.0
cut_is (suc k) m (x ∷ []) b rest h = absurd (omega (arith, ap length h, length-drop {A = BlockSpans} k []))
cut_is (suc k) m (x ∷ y ∷ bs) b rest h = ap (λ ys. x ∷ ys) (cut_is k m (y ∷ bs) b rest h)

stretches_back : (front : List BlockSpans) (b c : BlockSpans) (rest : List BlockSpans) → c.handle ≡ b.handle → 0 < length c.spans → AreDistinctBlocks (front ++ b ∷ rest) → AreDistinctBlocks (front ++ c ∷ [])
stretches_back [] b c rest e l h = (l, tt, tt)
stretches_back (x ∷ []) b c rest e l h = (h.0, (λ f. h.1 (f ∙ e)), (l, tt, tt))
stretches_back (x ∷ y ∷ front) b c rest e l h = (h.0, h.1, stretches_back (y ∷ front) b c rest e l h.2)

starts_back : (i : ℕ) (front : List BlockSpans) (b c : BlockSpans) (rest : List BlockSpans) → starts_of i (front ++ c ∷ []) ≡ take (suc (length front)) (starts_of i (front ++ b ∷ rest))
starts_back i [] b c rest = refl
starts_back i (x ∷ front) b c rest = ap (λ xs. i ∷ xs) (starts_back (i + length x.spans) front b c rest)

pub front_at : (i p k o : ℕ) (bs : List BlockSpans) → AreDistinctBlocks bs → IsAt p bs k o → IsFront i (suc p) (suc k) bs (first_of_last (suc o) (take (suc k) bs))
front_at i p k o bs str a = at (drop k bs) refl
  where
    at : (back : List BlockSpans) → drop k bs ≡ back → IsFront i (suc p) (suc k) bs (first_of_last (suc o) (take (suc k) bs))
    at [] q = absurd (let l = a.block in omega (arith, ap length q, length-drop k bs))
    at (b ∷ rest) q =
        let s = split_drop k bs b rest b q in
        let c = first_spans (suc o) b in
        let inside : o < length b.spans = subst (λ (y : BlockSpans). o < length y.spans) s.0 (a.inside b) in
        let lc : length (take (suc o) b.spans) ≡ suc o = length-take-le (suc o) b.spans (omega arith) in
        let front = take k bs in
        let whole : front ++ b ∷ rest ≡ bs = ap (λ xs. front ++ xs) (sym q) ∙ take-append-drop k bs in
        let l = a.block in
        let lf : length front ≡ k = length-take-le k bs (omega arith) in
        let is = cut_is k (suc o) bs b rest q in
        let below : take (suc p) (entries_in_blocks i bs) ≡ entries_in_blocks i front ++ entries_of_block (i + count front) b.handle (take (suc o) b.spans) =
        subst (λ (y : BlockSpans). take (suc p) (entries_in_blocks i bs) ≡ entries_in_blocks i front ++ entries_of_block (i + count front) y.handle (take (suc o) y.spans)) s.0
        (below_spot i (suc p) k (suc o) bs b l (omega arith) (a.inside b)) in
        let ends : entries_in_blocks i (front ++ c ∷ []) ≡ entries_in_blocks i front ++ entries_of_block (i + count front) b.handle (take (suc o) b.spans) =
        expanded-append i front (c ∷ []) ∙ ap (λ xs. entries_in_blocks i front ++ xs) (append-nil (entries_of_block (i + count front) b.handle (take (suc o) b.spans))) in
        rw is (record {
          entries = ends ∙ sym below;
          distinct = stretches_back front b c rest refl (omega arith) (subst AreDistinctBlocks (sym whole) str);
          starts = starts_back i front b c rest ∙ ap (λ z. take (suc z) (starts_of i (front ++ b ∷ rest))) lf ∙ ap (λ ys. take (suc k) (starts_of i ys)) whole;
          count = count-append front (c ∷ []) ∙ omega arith;
        })

pub front_of : (i w k o : ℕ) (bs : List BlockSpans) → AreDistinctBlocks bs → 0 < w → IsAt (w - 1) bs k o → IsFront i w (k + 1) bs (first_of_last (o + 1) (take (k + 1) bs))
front_of i w k o bs str l a =
    let e : suc (w - 1) ≡ w = omega arith in
    let f : k + 1 ≡ suc k = omega arith in
    let g : o + 1 ≡ suc o = omega arith in
    rw (f, g) (subst (λ n. IsFront i n (suc k) bs (first_of_last (suc o) (take (suc k) bs))) e (front_at i (w - 1) k o bs str a))

pub kept_front : {n r : ℕ} {ss : List ℕ} (i w k o : ℕ) (bs : List BlockSpans) → AreKept i n bs ss r → 0 < w → IsAt (w - 1) bs k o →
    AreKept i w (first_of_last (o + 1) (take (k + 1) bs)) (take (k + 1) ss) (min r w) ×
    (entries_in_blocks i (first_of_last (o + 1) (take (k + 1) bs)) ≡ take w (entries_in_blocks i bs))
kept_front {n} {r} {ss} i w k o bs h l a =
    let f = front_of i w k o bs h.distinct l a in
    let es = entries_in_blocks i bs in
    let le : w ≤ length es = rw (length-expanded i bs) (omega (arith, spot_within (w - 1) k o bs a)) in
    let counts = cut_counts w es h.table_entries le in (
      record {
        table_entries = rw f.entries (AreTableEntries-take w es h.table_entries);
        distinct = f.distinct;
        starts = ap (take (k + 1)) h.starts ∙ sym f.starts;
        len = sym f.count;
        rewritten = rw f.entries (omega arith);
      },
      f.entries,
    )
