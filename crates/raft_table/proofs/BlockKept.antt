-- What is kept of entries behind or between others.
use Rattle.raft_table.proofs.Common.{◌≡◌, ◌^◌, Some, ℕ, suc, ◌+◌, ◌<◌, ◌≤◌, min, List, [], ◌∷◌, ◌++◌, length, take, drop, refl, sym, ap, ◌∙◌, subst, arith, append-nil, length-append, length-take-le, take_all, drop_all, FileBlockHandle}
use Rattle.raft_table.proofs.Common.{LogQueue, EntryIndex, RisesFrom, entries_of_block, end_bounded, BlockSpans, entries_in_blocks, AreDistinctBlocks, count, starts_of, AreKept, first_of_last, joined_blocks, seam, AreTableEntries, start_of}
use Rattle.raft_table.proofs.Common.{placed_in, is_placed_in, entry_count, count_in, Append, Rewrite, zero, ◌-◌, true, false, get_or, inl, inr, nil_from_length, append_assoc, length-drop, drop_more, cases_lt, without_first_spans}
use Rattle.raft_table.proofs.Common.{without_first_of_first, IsAt, is_same_place}
use Rattle.raft_table.proofs.RunLemmas.{start-of_rising, end_of-run, rises_behind, RisesFrom-drop}
use Rattle.raft_table.proofs.PlaceLemmas.{entry_count-append, entries_in_one, entries_in_front, entry_count-cut}
use Rattle.raft_table.proofs.SoundLemmas.{sound_rising, cut_counts}
use Rattle.raft_table.proofs.BlockLemmas.{length-spread, rises_spread, length-expanded, length-starts, rises_expanded, expanded-append, starts_drop, count_cut, count_take_more, count_take-le, spot_within}
use Rattle.raft_table.proofs.BlockCuts.{IsFront, kept_with, kept_facts, kept_length, shown_len, kept_drop, front_of}
use Rattle.raft_table.proofs.BlockJoins.{seam_cut, kept_put, same_queue_self, joined_append, joined_expanded, joined_starts, joined_count, joined_stretches}
use Rattle.raft_table.proofs.RewriteLemmas.{behind_sound}
use Rattle.raft_base.specs.declared.compression_type.CompressionType.TheVariants as compression

-- entries behind others start where those end
pub behind_index : (i : ℕ) (a b : List EntryIndex) → AreTableEntries (a ++ b) → RisesFrom i a → 0 < length a → 0 < length b → start_of b ≡ i + length a
behind_index i [] b h r l m = absurd (omega arith)
behind_index i (x ∷ a) b h r l m =
    let up : RisesFrom x.index (x ∷ a ++ b) = sound_rising (x ∷ a ++ b) h in
    start-of_rising (x.index + length (x ∷ a)) b (rises_behind x.index (x ∷ a) b up) m ∙ omega arith

placed_spread : (i : ℕ) (h : FileBlockHandle) (ss : List (ℕ × ℕ)) → placed_in h.id.queue (entries_of_block i h ss) ≡ entries_of_block i h ss
unfolding placed_in is_placed_in
placed_spread i h [] = refl
placed_spread i h (s ∷ ss) = rw (same_queue_self h.id.queue) (ap (λ es. record { index = i; entries = Some h; compression_type = compression.None; entry_offset = s.0; entry_len = s.1 } ∷ es) (placed_spread (suc i) h ss))

pub entries_in_spread : (q : LogQueue) (i : ℕ) (h : FileBlockHandle) (ss : List (ℕ × ℕ)) → entry_count q (entries_of_block i h ss) ≡ count_in q h.id.queue (length ss)
entries_in_spread q i h ss = entries_in_one q h.id.queue (entries_of_block i h ss) (placed_spread i h ss) ∙ ap (count_in q h.id.queue) (length-spread i h ss)

pub count_in_le : (q r : LogQueue) (n : ℕ) → count_in q r n ≤ n
count_in_le Append Append n = omega arith
count_in_le Append Rewrite n = omega arith
count_in_le Rewrite Append n = omega arith
count_in_le Rewrite Rewrite n = omega arith

-- a table's entries that begin at an index end below 2^64
pub sound_fits : (i : ℕ) (es : List EntryIndex) → AreTableEntries es → RisesFrom i es → 0 < length es → i + length es < 2 ^ 64
sound_fits i es h r l = let e = end_of-run i es r l in let b = end_bounded es h.consecutive.bounded in omega arith

all_front : (i n : ℕ) (bs : List BlockSpans) → AreDistinctBlocks bs → n ≡ count bs → IsFront i n (length bs) bs bs
all_front i n bs h e = record {
  entries = sym (take_all n (entries_in_blocks i bs) (let l = length-expanded i bs in omega arith));
  distinct = h;
  starts = sym (take_all (length bs) (starts_of i bs) (let l = length-starts i bs in omega arith));
  count = sym e;
}

none_in : entry_count Rewrite [] ≡ 0
unfolding placed_in
none_in = refl

-- the entries of one block behind others
pub record IsPushed (i j n x : ℕ) (bs : List BlockSpans) (ss : List ℕ) (r : ℕ) (t : BlockSpans) : Type 0 where
  pub kept : AreKept j (n + length t.spans) (joined_blocks bs (t ∷ [])) (ss ++ drop (seam bs (t ∷ [])) (x ∷ [])) (r + count_in Rewrite t.handle.id.queue (length t.spans))
  pub entries : entries_in_blocks j (joined_blocks bs (t ∷ [])) ≡ entries_in_blocks i bs ++ entries_of_block x t.handle t.spans

pub pushed_fits : {i n : ℕ} {bs : List BlockSpans} {ss : List ℕ} {r : ℕ} → AreKept i n bs ss r → (x : ℕ) (t : BlockSpans) → 0 < length t.spans →
    AreTableEntries (entries_in_blocks i bs ++ entries_of_block x t.handle t.spans) →
    (n + length t.spans < 2 ^ 64) × (r + count_in Rewrite t.handle.id.queue (length t.spans) ≤ n + length t.spans)
pushed_fits {i} {n} {bs} {ss} {r} h x t l s =
    let es = entries_in_blocks i bs ++ entries_of_block x t.handle t.spans in
    let f = (kept_facts h).length in
    let b = (kept_facts h).both in
    let g = length-spread x t.handle t.spans in
    let m = length-append (entries_in_blocks i bs) (entries_of_block x t.handle t.spans) in
    let u = sound_fits (start_of es) es s (sound_rising es s) (omega arith) in
    let c = count_in_le Rewrite t.handle.id.queue (length t.spans) in
    (omega arith, omega arith)

pub kept_push : {i n : ℕ} {bs : List BlockSpans} {ss : List ℕ} {r : ℕ} → AreKept i n bs ss r → (j x : ℕ) (t : BlockSpans) → 0 < length t.spans →
    AreTableEntries (entries_in_blocks i bs ++ entries_of_block x t.handle t.spans) → (n ≡ 0 → j ≡ x) → (0 < n → j ≡ i) → IsPushed i j n x bs ss r t
kept_push {i} {n} {bs = []} {ss} {r} h j x t l s e f =
    let z : n ≡ 0 = h.len in
    let q : r ≡ 0 = h.rewritten ∙ none_in in
    let g : ss ≡ [] = h.starts in
    let u = entries_in_spread Rewrite x t.handle t.spans in
    let v = append-nil (entries_of_block x t.handle t.spans) in
    rw (z, q, g, e z) (record {
      kept = record {
        table_entries = rw v s;
        distinct = (l, tt, tt);
        starts = refl;
        len = omega arith;
        rewritten = rw (v, u) (omega arith);
      };
      entries = v;
    })
kept_push {i} {n} {bs = b ∷ bs} {ss} {r} h j x t l s e f =
    let xs = b ∷ bs in
    let k = h.len in
    let a = entries_in_blocks i xs in
    let la = (kept_facts h).length in
    let g = length-spread x t.handle t.spans in
    let y : x ≡ i + n = sym (start-of_rising x (entries_of_block x t.handle t.spans) (rises_spread x t.handle t.spans) (omega arith))
    ∙ behind_index i a (entries_of_block x t.handle t.spans) s (rises_expanded i xs) (omega arith) (omega arith) ∙ omega arith in
    let fr = all_front i n xs h.distinct k in
    let v : entries_in_blocks (i + n) (t ∷ []) ≡ entries_of_block x t.handle t.spans = append-nil (entries_of_block (i + n) t.handle t.spans) ∙ ap (λ m. entries_of_block m t.handle t.spans) (sym y) in
    let whole : take n a ++ entries_in_blocks (i + n) (t ∷ []) ++ [] ≡ a ++ entries_of_block x t.handle t.spans = append-nil (take n a ++ entries_in_blocks (i + n) (t ∷ [])) ∙ rw (v, take_all n a (omega arith)) refl in
    let c1 = entry_count-append Rewrite a (entries_of_block x t.handle t.spans) in
    let c2 = entries_in_spread Rewrite x t.handle t.spans in
    let put = kept_put i n (length xs) (n + length t.spans) xs xs (t ∷ []) [] ss (x ∷ []) [] (r + count_in Rewrite t.handle.id.queue (length t.spans)) fr h.starts (ap (λ m. m ∷ []) y) refl (omega arith) (l, tt, tt) (omega arith)
    (subst AreTableEntries (sym whole) s) (subst (λ es. r + count_in Rewrite t.handle.id.queue (length t.spans) ≡ entry_count Rewrite es) (sym whole) (omega arith)) in
    let n1 = append-nil (joined_blocks xs (t ∷ [])) in
    let n2 : take (length xs) ss ++ drop (seam xs (t ∷ [])) (x ∷ []) ++ [] ≡ ss ++ drop (seam xs (t ∷ [])) (x ∷ []) =
    append-nil (take (length xs) ss ++ drop (seam xs (t ∷ [])) (x ∷ [])) ∙ ap (λ ys. ys ++ drop (seam xs (t ∷ [])) (x ∷ [])) (take_all (length xs) ss (let q = kept_length h in omega arith)) in
    rw (f (omega arith)) (record {
      kept = subst (λ ys. AreKept i (n + length t.spans) ys (ss ++ drop (seam xs (t ∷ [])) (x ∷ []))
          (r + count_in Rewrite t.handle.id.queue (length t.spans))) n1
          (subst (λ ys. AreKept i (n + length t.spans) (joined_blocks xs (t ∷ []) ++ []) ys (r + count_in Rewrite t.handle.id.queue (length t.spans)))
          n2 put.0);
      entries = ap (entries_in_blocks i) (sym n1) ∙ put.1 ∙ whole;
    })

-- blocks put behind a front, and nothing behind them
pub record IsKeptAs (i n : ℕ) (bs : List BlockSpans) (ss : List ℕ) (r : ℕ) (es : List EntryIndex) : Type 0 where
  pub kept : AreKept i n bs ss r
  pub entries : entries_in_blocks i bs ≡ es

pub joined_fits : {i n j m : ℕ} {bs ys : List BlockSpans} {ss us : List ℕ} {r q : ℕ} → AreKept i n bs ss r → AreKept j m ys us q → (w : ℕ) → w ≤ n → 0 < m →
    AreTableEntries (take w (entries_in_blocks i bs) ++ entries_in_blocks j ys) → (w + m < 2 ^ 64) × (min r w + q < 2 ^ 64)
joined_fits {i} {n} {j} {m} {bs} {ys} h g w l p s =
    let es = take w (entries_in_blocks i bs) ++ entries_in_blocks j ys in
    let a = length-append (take w (entries_in_blocks i bs)) (entries_in_blocks j ys) in
    let b = (kept_facts h).length in
    let c = (kept_facts g).length in
    let d = (kept_facts g).both in
    let e = length-take-le w (entries_in_blocks i bs) (omega arith) in
    let f = sound_fits (start_of es) es s (sound_rising es s) (omega arith) in
    (omega arith, omega arith)

pub blocks_filled : (i : ℕ) (bs : List BlockSpans) → 0 < length (entries_in_blocks i bs) → 0 < length bs
blocks_filled i [] l = l
blocks_filled i (b ∷ bs) l = omega arith

pub kept_join : {i n j m : ℕ} {bs ys : List BlockSpans} {ss tt : List ℕ} {r q : ℕ} → AreKept i n bs ss r → AreKept j m ys tt q → (w k o rest : ℕ) →
    0 < w → w ≤ n → IsFront i w k bs (first_of_last o (take k bs)) → 0 < m →
    AreTableEntries (take w (entries_in_blocks i bs) ++ entries_in_blocks j ys) → rest ≡ length bs →
    IsKeptAs i (w + m) (joined_blocks (first_of_last o (take k bs)) ys ++ drop rest bs) (take k ss ++ drop (seam (take k bs) ys) tt ++ drop rest ss)
    (min r w + q) (take w (entries_in_blocks i bs) ++ entries_in_blocks j ys)
kept_join {i} {n} {j} {m} {bs} {ys} {ss} {tt} {r} {q} h g w k o rest l d f p s e =
    let es = entries_in_blocks i bs in
    let le = (kept_facts h).length in
    let ly = (kept_facts g).length in
    let lt : length (take w es) ≡ w = length-take-le w es (omega arith) in
    let front = first_of_last o (take k bs) in
    let up : RisesFrom i (take w es) = subst (RisesFrom i) f.entries (rises_expanded i front) in
    let y : j ≡ i + w = sym ((kept_facts g).start p) ∙ behind_index i (take w es) (entries_in_blocks j ys) s up (omega arith) (omega arith) ∙ omega arith in
    let some : 0 < length ys = blocks_filled j ys (omega arith) in
    let n1 : drop rest bs ≡ [] = drop_all rest bs (omega arith) in
    let n2 : drop rest ss ≡ [] = drop_all rest ss (let z = kept_length h in omega arith) in
    let whole : take w es ++ entries_in_blocks (i + w) ys ++ [] ≡ take w es ++ entries_in_blocks j ys = append-nil (take w es ++ entries_in_blocks (i + w) ys) ∙ ap (λ z. take w es ++ entries_in_blocks z ys) (sym y) in
    let cc = cut_counts w es h.table_entries (omega arith) in
    let c1 = entry_count-append Rewrite (take w es) (entries_in_blocks j ys) in
    let put = kept_put i w k (w + m) bs front ys [] ss tt [] (min r w + q) f h.starts (g.starts ∙ ap (λ z. starts_of z ys) y) refl some (subst AreDistinctBlocks (sym (append-nil ys)) g.distinct) (omega arith)
    (subst AreTableEntries (sym whole) s) (subst (λ xs. min r w + q ≡ entry_count Rewrite xs) (sym whole) (omega arith)) in
    rw (n1, n2, ← seam_cut o (take k bs) ys) (record { kept = put.0; entries = put.1 ∙ whole })

pub kept_join_few : {i n j m : ℕ} {bs ys : List BlockSpans} {ss us : List ℕ} {r q : ℕ} → AreKept i n bs ss r → AreKept j m ys us q → (w k o : ℕ)
    → 0 < w → w ≤ n → IsFront i w k bs (first_of_last o (take k bs)) → 0 < m → AreTableEntries (take w (entries_in_blocks i bs) ++ entries_in_blocks j ys)
    → IsKeptAs i (w + m) (joined_blocks (first_of_last o (take k bs)) ys) (starts_of i (joined_blocks (first_of_last o (take k bs)) ys)) (min r w + q)
    (take w (entries_in_blocks i bs) ++ entries_in_blocks j ys)
kept_join_few {i} {n} {j} {m} {bs} {ys} {ss} {us} {r} {q} h g w k o l d f p s =
    let joined = joined_blocks (first_of_last o (take k bs)) ys in
    let a = kept_join h g w k o (length bs) l d f p s refl in
    let e : joined ++ drop (length bs) bs ≡ joined = ap (λ xs. joined ++ xs) (drop_all (length bs) bs (omega arith)) ∙ append-nil joined in
    record {
      kept = subst (λ xs. AreKept i (w + m) xs (starts_of i xs) (min r w + q)) e (kept_with a.kept refl);
      entries = ap (entries_in_blocks i) (sym e) ∙ a.entries;
    }

pub joined_some : (ys : List BlockSpans) (t : BlockSpans) → 0 < length (joined_blocks ys (t ∷ []))
joined_some [] t = omega arith
joined_some (b ∷ []) t = (elim (is_same_place b.handle t.handle) as (λ z. is_same_place b.handle t.handle ≡ z → 0 < length (joined_blocks (b ∷ []) (t ∷ []))) [ true ↦ λ h. rw h (omega arith) | false ↦ λ h. rw h (omega arith) ]) refl
joined_some (b ∷ d ∷ ys) t = omega arith

pub later_block : (p q k w o v : ℕ) (bs : List BlockSpans) → IsAt p bs k o → IsAt q bs w v → p ≤ q → k ≤ w
later_block p q k w o v bs a b l =
    elim (cases_lt w k) [
      | inl x ↦ let c = count_take-le (suc w) k bs (omega arith) in
          let m = count_take_more w bs (record { handle = record { id = record { queue = Append; seq = 0 }; offset = 0; len = 0 }; spans = [] })
          b.block in let i = b.inside (record { handle = record { id = record { queue = Append; seq = 0 }; offset = 0; len = 0 }; spans = [] }) in
          let g = a.spot in let h = b.spot in absurd (omega arith)
      | inr x ↦ x
    ]

without_first_of_first_is : (w o : ℕ) (bs : List BlockSpans) (b t : BlockSpans) → w < length bs → b ≡ get_or bs w b → t ≡ without_first_spans o b → without_first_of_first o (drop w bs) ≡ t ∷ drop (w + 1) bs
without_first_of_first_is w o bs b t l e f =
    ap (without_first_of_first o) (drop_more bs w b l ∙ ap (λ y. y ∷ drop (w + 1) bs) (sym e)) ∙ ap (λ y. y ∷ drop (w + 1) bs) (sym f)

pub front_none : (i m : ℕ) (bs : List BlockSpans) → IsFront i 0 0 bs (first_of_last m (take 0 bs))
front_none i m bs = record { entries = refl; distinct = tt; starts = refl; count = refl }

-- the first indexes of blocks with one more behind
pub pushed_starts : (j x : ℕ) (ys : List BlockSpans) (t : BlockSpans) (ss : List ℕ) → ss ≡ starts_of j ys → x ≡ j + count ys → ss ++ drop (seam ys (t ∷ [])) (x ∷ []) ≡ starts_of j (joined_blocks ys (t ∷ []))
pushed_starts j x ys t ss e f =
    ap (λ zs. zs ++ drop (seam ys (t ∷ [])) (x ∷ [])) e ∙ ap (λ z. starts_of j ys ++ drop (seam ys (t ∷ [])) (z ∷ [])) f ∙ sym (joined_starts j ys (t ∷ []))

pub between_start : {i n j m : ℕ} {bs ys : List BlockSpans} {ss us : List ℕ} {r q : ℕ} → AreKept i n bs ss r → AreKept j m ys us q → (p : ℕ) → 0 < m →
    p + m < n → AreTableEntries (take p (entries_in_blocks i bs) ++ entries_in_blocks j ys ++ drop (p + m) (entries_in_blocks i bs)) → j ≡ i + p
between_start {i} {n} {j} {m} {bs} {ys} h g p l f s =
    let es = entries_in_blocks i bs in
    let d = p + m in
    let le = (kept_facts h).length in
    let ly = (kept_facts g).length in
    let ld = length-drop d es in
    let behind = behind_index j (entries_in_blocks j ys) (drop d es) (behind_sound (take p es) (entries_in_blocks j ys) (drop d es) s) (rises_expanded j ys) (omega arith) (omega arith) in
    let start = start-of_rising (i + d) (drop d es) (RisesFrom-drop d i es (rises_expanded i bs) (omega arith)) (omega arith) in
    omega arith

pub pushed_length : (j x : ℕ) (ys : List BlockSpans) (t : BlockSpans) (ss : List ℕ) → ss ≡ starts_of j ys → length (ss ++ drop (seam ys (t ∷ [])) (x ∷ [])) ≡ length (joined_blocks ys (t ∷ []))
pushed_length j x ys t ss e =
    let k = seam ys (t ∷ []) in
    let z = j + count ys in
    length-append ss (drop k (x ∷ [])) ∙ ap (λ n. length ss + n) (length-drop k (x ∷ []) ∙ sym (length-drop k (z ∷ []))) ∙ sym (length-append ss (drop k (z ∷ [])))
    ∙ ap length (pushed_starts j z ys t ss e refl) ∙ length-starts j (joined_blocks ys (t ∷ []))

-- a block after others adds one block and its first index, or none where it has the place of the last
pub pushed_count : (x : ℕ) (ys : List BlockSpans) (t : BlockSpans) → length ys + length (drop (seam ys (t ∷ [])) (x ∷ [])) ≡ length (joined_blocks ys (t ∷ []))
pushed_count x ys t =
    let k = drop (seam ys (t ∷ [])) (x ∷ []) in
    ap (λ n. n + length k) (sym (length-starts 0 ys)) ∙ sym (length-append (starts_of 0 ys) k) ∙ pushed_length 0 x ys t (starts_of 0 ys) refl

pub none_left : (x k : ℕ) → length (drop k (x ∷ [])) ≡ 0 → drop k (x ∷ []) ≡ []
none_left x k e = nil_from_length (drop k (x ∷ [])) e

pub one_left : (x k : ℕ) → 0 < length (drop k (x ∷ [])) → drop k (x ∷ []) ≡ x ∷ []
one_left x zero l = refl
one_left x (suc k) l = let n = length-drop (suc k) (x ∷ []) in absurd (omega arith)

pub between_fits : {i n j m : ℕ} {bs ys : List BlockSpans} {ss us : List ℕ} {r q : ℕ} {es run : List EntryIndex} → AreKept i n bs ss r → AreKept j m ys us q → (p : ℕ) →
    entries_in_blocks i bs ≡ es → entries_in_blocks j ys ≡ run → 0 < length run → p + length run < length es → (0 < m) × (p + m < n) × (i + n < 2 ^ 64) × (q ≤ m) × (r ≤ n)
between_fits {i} {n} {j} {m} h g p e u l f =
    let le = shown_len h e in
    let ly = shown_len g u in
    let b = (kept_facts h).both in
    let c = (kept_facts g).both in
    (omega arith, omega arith, (kept_facts h).bounded (omega arith), omega arith, omega arith)

pub front_at_spot : (i p k v : ℕ) (bs : List BlockSpans) → AreDistinctBlocks bs → (p ≡ 0 → (k ≡ 0) × (v ≡ 0)) → (0 < p → IsAt (p - 1) bs (k - 1) (v - 1) × (0 < k) × (0 < v)) → IsFront i p k bs (first_of_last v (take k bs))
front_at_spot i zero k v bs str e f = let z = e refl in rw (z.0) (front_none i v bs)
front_at_spot i (suc p) k v bs str e f =
    let u = f (omega arith) in
    let x : k - 1 + 1 ≡ k = omega arith in
    let y : v - 1 + 1 ≡ v = omega arith in
    subst (λ z. IsFront i (suc p) z bs (first_of_last v (take z bs))) x
    (subst (λ z. IsFront i (suc p) (k - 1 + 1) bs (first_of_last z (take (k - 1 + 1) bs))) y (front_of i (suc p) (k - 1) (v - 1) bs str (omega arith) u.0))

-- what is kept where a run stands between the first entries and those from a spot on, the first block of which is cut
pub put_between : {i n j m : ℕ} {bs ys : List BlockSpans} {ss us : List ℕ} {r q : ℕ} → AreKept i n bs ss r → AreKept j m ys us q →
    (p k v w o x : ℕ) (b t : BlockSpans) → (p ≡ 0 → (k ≡ 0) × (v ≡ 0)) → (0 < p → IsAt (p - 1) bs (k - 1) (v - 1) × (0 < k) × (0 < v)) →
    IsAt (p + m) bs w o → 0 < m → x ≡ i + (p + m) → b ≡ get_or bs w b → t ≡ without_first_spans o b →
    AreTableEntries (take p (entries_in_blocks i bs) ++ entries_in_blocks j ys ++ drop (p + m) (entries_in_blocks i bs)) →
    IsKeptAs i n (joined_blocks (first_of_last v (take k bs)) (joined_blocks ys (t ∷ [])) ++ drop (w + 1) bs)
    (take k ss ++ drop (seam (take k bs) (joined_blocks ys (t ∷ []))) (us ++ drop (seam ys (t ∷ [])) (x ∷ [])) ++ drop (w + 1) ss)
    (min r p + q + (r - min r (p + m))) (take p (entries_in_blocks i bs) ++ entries_in_blocks j ys ++ drop (p + m) (entries_in_blocks i bs))
put_between {i} {n} {j} {m} {bs} {ys} {ss} {us} {r} {q} h g p k v w o x b t e f a l ex eb et s =
    let front = first_of_last v (take k bs) in
    let es = entries_in_blocks i bs in
    let d = p + m in
    let rest = drop (w + 1) bs in
    let more = joined_blocks ys (t ∷ []) in
    let kd = kept_drop i n d w o bs ss r h a in
    let is = without_first_of_first_is w o bs b t a.block eb et in
    let behind : entries_in_blocks (i + d) (t ∷ rest) ≡ drop d es = subst (λ zs. entries_in_blocks (i + d) zs ≡ drop d es) is kd.1 in
    let back : AreDistinctBlocks (t ∷ rest) = subst AreDistinctBlocks is kd.0.distinct in
    let pw = spot_within d w o bs a in
    let y : j ≡ i + p = between_start h g p l (omega arith) s in
    let inside : o < length b.spans = subst (λ (z : BlockSpans). o < length z.spans) (sym eb) (a.inside b) in
    let lt : length t.spans ≡ length b.spans - o = ap (λ (z : BlockSpans). length z.spans) et ∙ length-drop o b.spans in
    let cy = joined_count ys (t ∷ []) in
    let w1 : w + 1 ≡ suc w = omega arith in
    let upto : count (take (w + 1) bs) ≡ count (take w bs) + length b.spans =
    ap (λ z. count (take z bs)) w1 ∙ count_take_more w bs b a.block ∙ ap (λ (z : BlockSpans). count (take w bs) + length z.spans) (sym eb) in
    let cc = count_cut (w + 1) bs in
    let us1 : us ≡ starts_of (i + p) ys = g.starts ∙ ap (λ z. starts_of z ys) y in
    let more_starts = pushed_starts (i + p) x ys t us us1 (omega arith) in
    let rest_starts : drop (w + 1) ss ≡ starts_of (i + p + count more) rest =
    ap (drop (w + 1)) h.starts ∙ starts_drop (w + 1) i bs ∙ ap (λ z. starts_of z rest) (let e : i + count (take (w + 1) bs) ≡ i + p + count more = omega arith in e) in
    let str : AreDistinctBlocks (more ++ rest) = subst AreDistinctBlocks (sym (joined_append ys (t ∷ []) rest (omega arith))) (joined_stretches ys (t ∷ rest) g.distinct back) in
    let top = take p es in
    let mid = entries_in_blocks (i + p) ys in
    let seg = entries_in_blocks (i + p + count ys) (t ∷ []) in
    let low = entries_in_blocks (i + p + count more) rest in
    let tail : seg ++ low ≡ drop d es =
    ap (λ z. seg ++ entries_in_blocks z rest) (let e : i + p + count more ≡ i + p + count ys + count (t ∷ []) = omega arith in e)
    ∙ sym (expanded-append (i + p + count ys) (t ∷ []) rest)
    ∙ ap (λ z. entries_in_blocks z (t ∷ rest)) (let e : i + p + count ys ≡ i + d = omega arith in e) ∙ behind in
    let whole : top ++ entries_in_blocks (i + p) more ++ low ≡ top ++ entries_in_blocks j ys ++ drop d es =
    ap (λ z. top ++ z ++ low) (joined_expanded (i + p) ys (t ∷ []))
    ∙ ap (λ z. z ++ low) (sym (append_assoc top mid seg)) ∙ append_assoc (top ++ mid) seg low
    ∙ ap (λ z. top ++ mid ++ z) tail ∙ ap (λ z. top ++ entries_in_blocks z ys ++ drop d es) (sym y) in
    let ca = entry_count-append Rewrite (top ++ entries_in_blocks j ys) (drop d es) in
    let cb = entry_count-append Rewrite top (entries_in_blocks j ys) in
    let cf = entries_in_front p es h.table_entries.in_front in
    let cd = entries_in_front d es h.table_entries.in_front in
    let ce = entry_count-cut Rewrite d es in
    let put = kept_put i p k n bs front more rest ss (us ++ drop (seam ys (t ∷ [])) (x ∷ [])) (drop (w + 1) ss) (min r p + q + (r - min r d)) (front_at_spot i p k v bs h.distinct e f) h.starts more_starts rest_starts
    (joined_some ys t) str (omega arith)
    (subst AreTableEntries (sym whole) s) (subst (λ zs. min r p + q + (r - min r d) ≡ entry_count Rewrite zs) (sym whole) (omega arith)) in
    rw (← seam_cut v (take k bs) (joined_blocks ys (t ∷ []))) (record { kept = put.0; entries = put.1 ∙ whole })

pub cut_order : (p q k v w o : ℕ) (bs : List BlockSpans) → (p ≡ 0 → (k ≡ 0) × (v ≡ 0)) → (0 < p → IsAt (p - 1) bs (k - 1) (v - 1) × (0 < k) × (0 < v)) → IsAt q bs w o → p ≤ q → k ≤ w + 1
cut_order zero q k v w o bs e f a l = let z = (e refl).0 in omega arith
cut_order (suc p) q k v w o bs e f a l = let u = (f (omega arith)).0 in let x = later_block (suc p - 1) q (k - 1) w (v - 1) o bs u a (omega arith) in omega arith
