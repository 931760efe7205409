-- Blocks behind others, joined where two that meet have the same handle.
use Rattle.raft_table.proofs.Common.{◌≡◌, ◌≢◌, ℕ, ◌+◌, ◌<◌, Bool, true, false, eqb, List, [], ◌∷◌, ◌++◌, length, take, drop, refl, sym, ap, ◌∙◌, subst, arith, append-nil, append_assoc, length-append, nat_tests, FileBlockHandle, LogQueue}
use Rattle.raft_table.proofs.Common.{entries_of_block, BlockSpans, entries_in_blocks, Differs, AreDistinctBlocks, count, starts_of, AreKept, with_spans_behind, first_of_last, joined_blocks, seam, AreTableEntries, entry_count, is_same_place}
use Rattle.raft_table.proofs.Common.{is_same, Append, Rewrite, zero, suc, ◌-◌, ◌≤◌, get_or, set, Block, block_spans, blocks_shown, first_spans, without_first_spans, without_first_of_first, IsAt, length-drop, length-map, length-take-le}
use Rattle.raft_table.proofs.Common.{take-take, take_at, drop_at, take-map, get_or_default, take_more, take_all, map-append}
use Rattle.raft_table.proofs.BlockLemmas.{spread-append, length-expanded, count-append, expanded-append, starts-append}
use Rattle.raft_table.proofs.BlockCuts.{IsFront, Differs-same}
use Rattle.std.proofs.lemmas.List.{drop-map, map-set, get_or-map, take_more_set, length-set, drop-set-lt, take-append-drop}
use Rattle.std.proofs.Math.Seq.{take-append-add}

same_queue : (q r : LogQueue) → is_same q r ≡ true → q ≡ r
same_queue Append Append h = refl
same_queue Append Rewrite h = cc
same_queue Rewrite Append h = cc
same_queue Rewrite Rewrite h = refl

pub same_queue_self : (q : LogQueue) → is_same q q ≡ true
same_queue_self Append = refl
same_queue_self Rewrite = refl

same_number : (a : ℕ) → eqb a a ≡ true
same_number a = grind (arith, nat_tests)

pub same_place_self : (a : FileBlockHandle) → is_same_place a a ≡ true
same_place_self a = rw (same_queue_self a.id.queue, same_number a.id.seq, same_number a.offset, same_number a.len) refl

pub same_place : (a b : FileBlockHandle) → is_same_place a b ≡ true → a ≡ b
same_place a b h = at (is_same a.id.queue b.id.queue) (eqb a.id.seq b.id.seq) (eqb a.offset b.offset) (eqb a.len b.len) refl refl refl refl h
  where
    number : (x y : ℕ) → eqb x y ≡ true → x ≡ y
    number x y e = grind (arith, nat_tests)

    make : LogQueue → ℕ → ℕ → ℕ → FileBlockHandle
    make q n o l = record { id = record { queue = q; seq = n }; offset = o; len = l }

    equal : a.id.queue ≡ b.id.queue → a.id.seq ≡ b.id.seq → a.offset ≡ b.offset → a.len ≡ b.len → a ≡ b
    equal e f g k =
        ap (λ q. make q a.id.seq a.offset a.len) e ∙ ap (λ n. make b.id.queue n a.offset a.len) f
        ∙ ap (λ o. make b.id.queue b.id.seq o a.len) g ∙ ap (λ l. make b.id.queue b.id.seq b.offset l) k

    at : (x y z w : Bool) → is_same a.id.queue b.id.queue ≡ x → eqb a.id.seq b.id.seq ≡ y → eqb a.offset b.offset ≡ z → eqb a.len b.len ≡ w → is_same_place a b ≡ true → a ≡ b
    at true true true true e f g k h = equal (same_queue _ _ e) (number _ _ f) (number _ _ g) (number _ _ k)
    at false y z w e f g k h = cc
    at true false z w e f g k h = cc
    at true true false w e f g k h = cc
    at true true true false e f g k h = cc

pub other_place : (a b : FileBlockHandle) → is_same_place a b ≡ false → a ≢ b
other_place a b h e = let t : is_same_place a b ≡ true = rw (← e) (same_place_self a) in cc

pub other_place_is : (a b : FileBlockHandle) → a ≢ b → is_same_place a b ≡ false
other_place_is a b n = (elim (is_same_place a b) as (λ t. is_same_place a b ≡ t → is_same_place a b ≡ false) [ true ↦ λ h. absurd (n (same_place a b h)) | false ↦ λ h. h ]) refl

pub joined_append : (f y r : List BlockSpans) → 0 < length y → joined_blocks f y ++ r ≡ joined_blocks f (y ++ r)
joined_append f [] r l = absurd (omega arith)
joined_append [] (c ∷ y) r l = refl
joined_append (b ∷ []) (c ∷ y) r l = (elim (is_same_place b.handle c.handle) as
    (λ t. is_same_place b.handle c.handle ≡ t → joined_blocks (b ∷ []) (c ∷ y) ++ r ≡ joined_blocks (b ∷ []) (c ∷ y ++ r)) [ true ↦ λ h. rw h refl | false ↦ λ h. rw h refl ]) refl
joined_append (b ∷ d ∷ f) (c ∷ y) r l = ap (λ ys. b ∷ ys) (joined_append (d ∷ f) (c ∷ y) r l)

pub joined_expanded : (i : ℕ) (f y : List BlockSpans) → entries_in_blocks i (joined_blocks f y) ≡ entries_in_blocks i f ++ entries_in_blocks (i + count f) y
joined_expanded i [] y = ap (λ n. entries_in_blocks n y) (omega arith)
joined_expanded i (b ∷ []) [] = sym (append-nil (entries_in_blocks i (b ∷ [])))
joined_expanded i (b ∷ []) (c ∷ y) = at (is_same_place b.handle c.handle) refl
  where
    n : i + (length b.spans + 0) ≡ i + length b.spans
    n = omega arith

    at : (t : Bool) → is_same_place b.handle c.handle ≡ t → entries_in_blocks i (joined_blocks (b ∷ []) (c ∷ y)) ≡ entries_in_blocks i (b ∷ []) ++ entries_in_blocks (i + (length b.spans + 0)) (c ∷ y)
    at false h = rw (h, n) (ap (λ xs. xs ++ entries_in_blocks (i + length b.spans) (c ∷ y)) (sym (append-nil (entries_of_block i b.handle b.spans))))
    at true h =
        let e = same_place b.handle c.handle h in
        let m : i + length (b.spans ++ c.spans) ≡ i + length b.spans + length c.spans = omega (arith, length-append b.spans c.spans) in
        rw (h, n, m, spread-append i b.handle b.spans c.spans, append-nil (entries_of_block i b.handle b.spans), ← e)
        (append_assoc (entries_of_block i b.handle b.spans) (entries_of_block (i + length b.spans) b.handle c.spans) (entries_in_blocks (i + length b.spans + length c.spans) y))
joined_expanded i (b ∷ d ∷ f) y =
    let k = i + length b.spans in
    let m : i + (length b.spans + count (d ∷ f)) ≡ k + count (d ∷ f) = omega arith in
    rw m (ap (λ xs. entries_of_block i b.handle b.spans ++ xs) (joined_expanded k (d ∷ f) y)
    ∙ sym (append_assoc (entries_of_block i b.handle b.spans) (entries_in_blocks k (d ∷ f)) (entries_in_blocks (k + count (d ∷ f)) y)))

pub joined_starts : (i : ℕ) (f y : List BlockSpans) → starts_of i (joined_blocks f y) ≡ starts_of i f ++ drop (seam f y) (starts_of (i + count f) y)
joined_starts i [] y = ap (λ n. starts_of n y) (omega arith)
joined_starts i (b ∷ []) [] = refl
joined_starts i (b ∷ []) (c ∷ y) = at (is_same_place b.handle c.handle) refl
  where
    n : i + (length b.spans + 0) ≡ i + length b.spans
    n = omega arith

    at : (t : Bool) → is_same_place b.handle c.handle ≡ t → starts_of i (joined_blocks (b ∷ []) (c ∷ y)) ≡ starts_of i (b ∷ []) ++ drop (seam (b ∷ []) (c ∷ y)) (starts_of (i + (length b.spans + 0)) (c ∷ y))
    at false h = rw (h, n) refl
    at true h =
        let m : i + length (b.spans ++ c.spans) ≡ i + length b.spans + length c.spans = omega (arith, length-append b.spans c.spans) in
        rw (h, n, m) refl
joined_starts i (b ∷ d ∷ f) y =
    let k = i + length b.spans in
    let m : i + (length b.spans + count (d ∷ f)) ≡ k + count (d ∷ f) = omega arith in
    rw m (ap (λ xs. i ∷ xs) (joined_starts k (d ∷ f) y))

pub joined_count : (f y : List BlockSpans) → count (joined_blocks f y) ≡ count f + count y
joined_count f y =
    let a = length-expanded 0 (joined_blocks f y) in
    let b = length-append (entries_in_blocks 0 f) (entries_in_blocks (0 + count f) y) in
    let c = length-expanded 0 f in
    let d = length-expanded (0 + count f) y in
    let e = ap length (joined_expanded 0 f y) in
    omega arith

pub joined_stretches : (f y : List BlockSpans) → AreDistinctBlocks f → AreDistinctBlocks y → AreDistinctBlocks (joined_blocks f y)
joined_stretches [] y h k = k
joined_stretches (b ∷ []) [] h k = h
joined_stretches (b ∷ []) (c ∷ y) h k = at (is_same_place b.handle c.handle) refl
  where
    at : (t : Bool) → is_same_place b.handle c.handle ≡ t → AreDistinctBlocks (joined_blocks (b ∷ []) (c ∷ y))
    at false t = rw t (h.0, other_place b.handle c.handle t, k)
    at true t =
        let e = same_place b.handle c.handle t in
        rw t (let l = h.0 in omega (arith, length-append b.spans c.spans), Differs-same c (with_spans_behind b c.spans) y e k.1, k.2)
joined_stretches (b ∷ d ∷ f) y h k = (h.0, first d f y h.1, joined_stretches (d ∷ f) y h.2 k)
  where
    first : (d : BlockSpans) (f y : List BlockSpans) → b.handle ≢ d.handle → Differs b (joined_blocks (d ∷ f) y)
    first d [] [] n = n
    first d [] (c ∷ y) n = (elim (is_same_place d.handle c.handle) as (λ t. is_same_place d.handle c.handle ≡ t → Differs b (joined_blocks (d ∷ []) (c ∷ y))) [ true ↦ λ t. rw t n | false ↦ λ t. rw t n ]) refl
    first d (x ∷ f) y n = n

pub seam_cut : (m : ℕ) (f y : List BlockSpans) → seam (first_of_last m f) y ≡ seam f y
seam_cut m [] y = refl
seam_cut m (b ∷ []) [] = refl
seam_cut m (b ∷ []) (c ∷ y) = refl
seam_cut m (b ∷ d ∷ []) y = seam_cut m (d ∷ []) y
seam_cut m (b ∷ d ∷ x ∷ f) y = seam_cut m (d ∷ x ∷ f) y

-- what is kept after blocks were put behind a front, and before those that stay behind
pub kept_put : (i p k n : ℕ) (bs front y rest : List BlockSpans) (ss tt rs : List ℕ) (r : ℕ) → IsFront i p k bs front → ss ≡ starts_of i bs →
    tt ≡ starts_of (i + p) y → rs ≡ starts_of (i + p + count y) rest → 0 < length y → AreDistinctBlocks (y ++ rest) → n ≡ p + count y + count rest →
    AreTableEntries (take p (entries_in_blocks i bs) ++ entries_in_blocks (i + p) y ++ entries_in_blocks (i + p + count y) rest) →
    r ≡ entry_count Rewrite (take p (entries_in_blocks i bs) ++ entries_in_blocks (i + p) y ++ entries_in_blocks (i + p + count y) rest) →
    AreKept i n (joined_blocks front y ++ rest) (take k ss ++ drop (seam front y) tt ++ rs) r ×
    (entries_in_blocks i (joined_blocks front y ++ rest) ≡ take p (entries_in_blocks i bs) ++ entries_in_blocks (i + p) y ++ entries_in_blocks
    (i + p + count y) rest)
kept_put i p k n bs front y rest ss tt rs r f e g h l str len sound q =
    let c = f.count in
    let m : i + count (joined_blocks front y) ≡ i + p + count y = omega (arith, joined_count front y) in
    let whole : entries_in_blocks i (joined_blocks front y ++ rest) ≡ take p (entries_in_blocks i bs) ++ entries_in_blocks (i + p) y ++ entries_in_blocks (i + p + count y) rest =
    expanded-append i (joined_blocks front y) rest ∙ rw (m, joined_expanded i front y, f.entries, c) refl in
    let starts : take k ss ++ drop (seam front y) tt ++ rs ≡ starts_of i (joined_blocks front y ++ rest) =
    sym (starts-append i (joined_blocks front y) rest ∙ rw (m, joined_starts i front y, f.starts, c, e, g, h) refl) in (
      record {
        table_entries = subst AreTableEntries (sym whole) sound;
        distinct = subst AreDistinctBlocks (sym (joined_append front y rest l)) (joined_stretches front (y ++ rest) f.distinct str);
        starts = starts;
        len = len ∙ sym (count-append (joined_blocks front y) rest ∙ omega (arith, joined_count front y));
        rewritten = q ∙ ap (entry_count Rewrite) (sym whole);
      },
      whole,
    )

-- what a queue holds that was turned, cut, joined, and turned back
pub spliced : {X : Type 0} (kept rest n : ℕ) (xs more a b c d : List X) → kept ≤ rest → rest ≤ length xs → n ≡ length xs - rest →
    a ≡ drop rest xs ++ take rest xs → b ≡ take (n + kept) a → c ≡ b ++ more → d ≡ drop n c ++ take n c → d ≡ take kept xs ++ more ++ drop rest xs
spliced kept rest n xs more a b c d k l e f g h j =
    let m : length (drop rest xs) ≡ n = length-drop rest xs ∙ sym e in
    let cut : b ≡ drop rest xs ++ take kept xs =
    g ∙ ap (take (n + kept)) f ∙ ap (λ i. take (i + kept) (drop rest xs ++ take rest xs)) (sym m) ∙ take-append-add (drop rest xs) (take rest xs) kept
    ∙ ap (λ ys. drop rest xs ++ ys) (take-take kept rest xs k) in
    let whole : c ≡ drop rest xs ++ (take kept xs ++ more) = h ∙ ap (λ ys. ys ++ more) cut ∙ append_assoc (drop rest xs) (take kept xs) more in
    j ∙ ap (λ ys. drop n ys ++ take n ys) whole
    ∙ ap (λ ys. ys ++ take n (drop rest xs ++ (take kept xs ++ more))) (drop_at (drop rest xs) (take kept xs ++ more) n m)
    ∙ ap (λ ys. (take kept xs ++ more) ++ ys) (take_at (drop rest xs) (take kept xs ++ more) n m)

-- one item more is put in place of another, in front of k that are still to be put
pub replaced_more : {X : Type 0} (at k : ℕ) (d m w : List X) (x : X) → at < length d → take at d ++ (x ∷ m) ++ drop (at + suc k) d ≡ w →
    take (at + 1) (set d at x) ++ m ++ drop (at + 1 + k) (set d at x) ≡ w
replaced_more at k d m w x l h =
    let n : at + 1 + k ≡ at + suc k = omega arith in
    ap (λ ys. (ys ++ m) ++ drop (at + 1 + k) (set d at x)) (take_more_set d at x l)
    ∙ ap (λ ys. ys ++ drop (at + 1 + k) (set d at x)) (append_assoc (take at d) (x ∷ []) m)
    ∙ ap (λ r. (take at d ++ (x ∷ m)) ++ r) (drop-set-lt (at + 1 + k) d at x (omega arith) ∙ ap (λ j. drop j d) n)
    ∙ h

-- none are left to be put
pub replaced_all : {X : Type 0} (at k : ℕ) (d m w : List X) → m ≡ [] → k ≡ 0 → take at d ++ m ++ drop (at + k) d ≡ w → d ≡ w
replaced_all at k d m w e z h =
    let n : at ≡ at + k = omega (arith, z) in
    sym (take-append-drop at d) ∙ ap (λ j. take at d ++ drop j d) n
    ∙ ap (λ ys. ys ++ drop (at + k) d) (sym (append-nil (take at d)) ∙ ap (λ ys. take at d ++ ys) (sym e)) ∙ h

pub spliced_round : {X : Type 0} (kept rest n w : ℕ) (xs more a b c d : List X) → kept ≤ rest → rest ≤ length xs → n ≡ length xs - rest →
    w ≡ length c - kept → a ≡ drop rest xs ++ take rest xs → b ≡ take (n + kept) a → c ≡ more ++ b → d ≡ drop w c ++ take w c →
    d ≡ take kept xs ++ more ++ drop rest xs
spliced_round kept rest n w xs more a b c d k l e u f g h j =
    let m : length (drop rest xs) ≡ n = length-drop rest xs ∙ sym e in
    let cut : b ≡ drop rest xs ++ take kept xs =
    g ∙ ap (take (n + kept)) f ∙ ap (λ i. take (i + kept) (drop rest xs ++ take rest xs)) (sym m) ∙ take-append-add (drop rest xs) (take rest xs) kept
    ∙ ap (λ ys. drop rest xs ++ ys) (take-take kept rest xs k) in
    let front = more ++ drop rest xs in
    let whole : c ≡ front ++ take kept xs = h ∙ ap (λ ys. more ++ ys) cut ∙ sym (append_assoc more (drop rest xs) (take kept xs)) in
    let p : length (take kept xs) ≡ kept = length-take-le kept xs (omega arith) in
    let q : length front ≡ w = omega (arith, ap length whole, length-append front (take kept xs)) in
    j ∙ ap (λ ys. drop w ys ++ take w ys) whole
    ∙ ap (λ ys. ys ++ take w (front ++ take kept xs)) (drop_at front (take kept xs) w q)
    ∙ ap (λ ys. take kept xs ++ ys) (take_at front (take kept xs) w q)
    ∙ sym (append_assoc (take kept xs) more (drop rest xs))

pub shown_at : (bs : List Block) (k : ℕ) (b : Block) → k < length bs → b ≡ get_or bs k b → block_spans b ≡ get_or (blocks_shown bs) k (block_spans b)
shown_at bs k b l e = ap block_spans e ∙ sym (get_or-map block_spans bs k b (block_spans b) l)

pub stretch_is : (c : Block) (s : BlockSpans) → c.handle ≡ s.handle → c.spans.items ≡ s.spans → block_spans c ≡ s
stretch_is c s h e = ap (λ x. make x c.spans.items) h ∙ ap (λ y. make s.handle y) e
  where
    make : FileBlockHandle → List (ℕ × ℕ) → BlockSpans
    make h ss = record { handle = h; spans = ss }

first_of_last_set : (k m : ℕ) (xs : List BlockSpans) (b : BlockSpans) → length xs ≡ suc k → b ≡ get_or xs k b → set xs k (first_spans m b) ≡ first_of_last m xs
first_of_last_set k m [] b l e = absurd (omega arith)
first_of_last_set zero m (x ∷ []) b l e = ap (λ (y : BlockSpans). first_spans m y ∷ []) e
first_of_last_set zero m (x ∷ y ∷ xs) b l e = absurd (omega arith)
first_of_last_set (suc k) m (x ∷ []) b l e = absurd (omega arith)
first_of_last_set (suc k) m (x ∷ y ∷ xs) b l e = ap (λ ys. x ∷ ys) (first_of_last_set k m (y ∷ xs) b (omega arith) e)

pub first_of_last_shown : (k m : ℕ) (bs : List Block) (b c : Block) → length bs ≡ suc k → b ≡ get_or bs k b → c.handle ≡ b.handle → c.spans.items ≡ take m b.spans.items → blocks_shown (set bs k c) ≡ first_of_last m (blocks_shown bs)
first_of_last_shown k m bs b c l e h s =
    map-set block_spans bs k c
    ∙ ap (set (blocks_shown bs) k) (stretch_is c (first_spans m (block_spans b)) h s)
    ∙ first_of_last_set k m (blocks_shown bs) (block_spans b) (length-map bs block_spans ∙ l) (shown_at bs k b (omega arith) e)

pub keep_front_blocks_shown : (k m : ℕ) (old bs : List Block) (b c : Block) → k < length old → bs ≡ take (k + 1) old → b ≡ get_or bs k b →
    c.handle ≡ b.handle → c.spans.items ≡ take m b.spans.items → blocks_shown (set bs k c) ≡ first_of_last m (take (k + 1) (blocks_shown old))
keep_front_blocks_shown k m old bs b c l t e h s =
    let n : length bs ≡ suc k = ap length t ∙ length-take-le (k + 1) old (omega arith) ∙ omega arith in
    first_of_last_shown k m bs b c n e h s ∙ ap (first_of_last m) (ap blocks_shown t ∙ sym (take-map block_spans (k + 1) old))

pub drop_front_blocks_shown : (k m : ℕ) (old bs : List Block) (b c : Block) → k < length old → bs ≡ drop k old → b ≡ get_or bs 0 b →
    c.handle ≡ b.handle → c.spans.items ≡ drop m b.spans.items → blocks_shown (set bs 0 c) ≡ without_first_of_first m (drop k (blocks_shown old))
drop_front_blocks_shown k m old bs b c l t e h s =
    let n : 0 < length bs = rw t (omega (arith, length-drop k old)) in
    first bs n e ∙ ap (without_first_of_first m) (ap blocks_shown t ∙ sym (drop-map block_spans k old))
  where
    first : (bs : List Block) → 0 < length bs → b ≡ get_or bs 0 b → blocks_shown (set bs 0 c) ≡ without_first_of_first m (blocks_shown bs)
    first [] l e = absurd (omega arith)
    first (x ∷ bs) l e = ap (λ y. y ∷ blocks_shown bs) (stretch_is c (without_first_spans m (block_spans b)) h s ∙ ap (λ (y : Block). without_first_spans m (block_spans y)) e)

-- the block of a queue where an entry stands
pub record IsBlockAt (bs : List Block) (k o : ℕ) (b : Block) : Type 0 where
  pub within : k < length bs
  pub same : block_spans b ≡ get_or (blocks_shown bs) k (block_spans b)
  pub inside : o < length b.spans.items

pub block_within : {p k o : ℕ} (bs : List Block) → IsAt p (blocks_shown bs) k o → k < length bs
block_within bs a = let n = length-map bs block_spans in let l = a.block in omega arith

pub block_at : {p k o : ℕ} (bs : List Block) (b : Block) → IsAt p (blocks_shown bs) k o → b ≡ get_or bs k b → IsBlockAt bs k o b
block_at {p} {k} {o} bs b a e =
    let l = block_within bs a in
    let s = shown_at bs k b l e in
    record { within = l; same = s; inside = subst (λ (y : BlockSpans). o < length y.spans) (sym s) (a.inside (block_spans b)) }

pub spot_inside : {p k o : ℕ} (bs : List Block) → IsAt p (blocks_shown bs) k o → (d : Block) → o < length (get_or bs k d).spans.items
spot_inside {p} {k} {o} bs a d = subst (λ (y : BlockSpans). o < length y.spans) (get_or-map block_spans bs k d (block_spans d) (block_within bs a)) (a.inside (block_spans d))

joined_last : (a : List BlockSpans) (b c : BlockSpans) (cs : List BlockSpans) → joined_blocks (a ++ b ∷ []) (c ∷ cs) ≡ a ++ joined_blocks (b ∷ []) (c ∷ cs)
joined_last [] b c cs = refl
joined_last (x ∷ []) b c cs = refl
joined_last (x ∷ y ∷ a) b c cs = ap (λ ys. x ∷ ys) (joined_last (y ∷ a) b c cs)

seam_last : (a : List BlockSpans) (b c : BlockSpans) (cs : List BlockSpans) → seam (a ++ b ∷ []) (c ∷ cs) ≡ seam (b ∷ []) (c ∷ cs)
seam_last [] b c cs = refl
seam_last (x ∷ []) b c cs = refl
seam_last (x ∷ y ∷ a) b c cs = seam_last (y ∷ a) b c cs

first_of_last_last : (m : ℕ) (a : List BlockSpans) (b : BlockSpans) → first_of_last m (a ++ b ∷ []) ≡ a ++ first_spans m b ∷ []
first_of_last_last m [] b = refl
first_of_last_last m (x ∷ []) b = refl
first_of_last_last m (x ∷ y ∷ a) b = ap (λ ys. x ∷ ys) (first_of_last_last m (y ∷ a) b)

meets : (k m : ℕ) (xs : List BlockSpans) (b c new : BlockSpans) (cs left : List BlockSpans) → k < length xs → b ≡ get_or xs k b →
    joined_blocks (first_spans m b ∷ []) (c ∷ cs) ≡ new ∷ left → joined_blocks (first_of_last m (take (k + 1) xs)) (c ∷ cs) ≡ take (k + 1) (set xs k new) ++ left
meets k m xs b c new cs left l e j =
    let w : take (k + 1) xs ≡ take k xs ++ b ∷ [] = take_more xs k b l ∙ ap (λ y. take k xs ++ y ∷ []) (sym e) in
    ap (λ ys. joined_blocks (first_of_last m ys) (c ∷ cs)) w ∙ ap (λ ys. joined_blocks ys (c ∷ cs)) (first_of_last_last m (take k xs) b) ∙ joined_last (take k xs) (first_spans m b) c cs
    ∙ rw (j, take_more_set xs k new l) (sym (append_assoc (take k xs) (new ∷ []) left))

seams : (k : ℕ) (xs : List BlockSpans) (b c : BlockSpans) (cs : List BlockSpans) → k < length xs → b ≡ get_or xs k b → seam (take (k + 1) xs) (c ∷ cs) ≡ seam (b ∷ []) (c ∷ cs)
seams k xs b c cs l e = ap (λ ys. seam ys (c ∷ cs)) (take_more xs k b l ∙ ap (λ y. take k xs ++ y ∷ []) (sym e)) ∙ seam_last (take k xs) b c cs

pub set_same : (bs : List Block) (k : ℕ) (b c : Block) → k < length bs → b ≡ get_or bs k b → c.handle ≡ b.handle → c.spans.items ≡ b.spans.items → blocks_shown (set bs k c) ≡ blocks_shown bs
set_same [] k b c l e h s = absurd (omega arith)
set_same (x ∷ bs) zero b c l e h s = ap (λ y. y ∷ blocks_shown bs) (stretch_is c (block_spans b) h s ∙ ap block_spans e)
set_same (x ∷ bs) (suc k) b c l e h s = ap (λ ys. block_spans x ∷ ys) (set_same bs k b c (omega arith) e h s)

pub first_of : (more : List Block) (y : Block) → 0 < length more → y ≡ get_or more 0 y → blocks_shown more ≡ block_spans y ∷ blocks_shown (drop 1 more)
first_of [] y l e = absurd (omega arith)
first_of (x ∷ more) y l e = ap (λ z. block_spans z ∷ blocks_shown more) (sym e)

pub rest_set : (more : List Block) (y : Block) → drop 1 (set more 0 y) ≡ drop 1 more
rest_set [] y = refl
rest_set (x ∷ more) y = refl

pub one_block : (bs : List Block) (k : ℕ) (b c : Block) → k < length bs → b ≡ get_or bs k b → c ≡ get_or bs k c → b ≡ c
one_block bs k b c l e f = e ∙ get_or_default bs k b c l ∙ sym f

-- a block behind the last of others
pushed_last : (k : ℕ) (xs : List BlockSpans) (b y : BlockSpans) → k + 1 ≡ length xs → b ≡ get_or xs k b → (xs ≡ take k xs ++ b ∷ []) ×
    (joined_blocks xs (y ∷ []) ≡ take k xs ++ joined_blocks (b ∷ []) (y ∷ [])) × (seam xs (y ∷ []) ≡ seam (b ∷ []) (y ∷ []))
pushed_last k xs b y l e =
    let w : xs ≡ take k xs ++ b ∷ [] = sym (take_all (k + 1) xs (omega arith)) ∙ take_more xs k b (omega arith) ∙ ap (λ z. take k xs ++ z ∷ []) (sym e) in
    (w, ap (λ ys. joined_blocks ys (y ∷ [])) w ∙ joined_last (take k xs) b y [], ap (λ ys. seam ys (y ∷ [])) w ∙ seam_last (take k xs) b y [])

pub pushed_same : (k : ℕ) (bs : List Block) (b c y : Block) → k + 1 ≡ length bs → b ≡ get_or bs k b → b.handle ≡ y.handle → c.handle ≡ b.handle →
    c.spans.items ≡ b.spans.items ++ y.spans.items → (blocks_shown (set bs k c) ≡ joined_blocks (blocks_shown bs) (block_spans y ∷ [])) ×
    (seam (blocks_shown bs) (block_spans y ∷ []) ≡ 1)
pushed_same k bs b c y l e h g s =
    let xs = blocks_shown bs in
    let t : is_same_place b.handle y.handle ≡ true = rw h (same_place_self y.handle) in
    let new = with_spans_behind (block_spans b) y.spans.items in
    let n : k + 1 ≡ length xs = l ∙ sym (length-map bs block_spans) in
    let p = pushed_last k xs (block_spans b) (block_spans y) n (shown_at bs k b (omega arith) e) in
    let left : blocks_shown (set bs k c) ≡ take k xs ++ new ∷ [] =
    map-set block_spans bs k c ∙ ap (set xs k) (stretch_is c new g s)
    ∙ sym (take_all (k + 1) (set xs k new) (omega (arith, length-set xs k new))) ∙ take_more_set xs k new (omega arith) in
    (left ∙ sym (p.1 ∙ rw t refl), p.2 ∙ rw t refl)

pub pushed_other : (k : ℕ) (bs : List Block) (b y : Block) → k + 1 ≡ length bs → b ≡ get_or bs k b → b.handle ≢ y.handle →
    (blocks_shown (bs ++ y ∷ []) ≡ joined_blocks (blocks_shown bs) (block_spans y ∷ [])) × (seam (blocks_shown bs) (block_spans y ∷ []) ≡ 0)
pushed_other k bs b y l e h =
    let xs = blocks_shown bs in
    let t : is_same_place b.handle y.handle ≡ false = other_place_is b.handle y.handle h in
    let p = pushed_last k xs (block_spans b) (block_spans y) (l ∙ sym (length-map bs block_spans)) (shown_at bs k b (omega arith) e) in (
      map-append block_spans bs (y ∷ []) ∙ ap (λ ys. ys ++ block_spans y ∷ []) p.0
          ∙ append_assoc (take k xs) (block_spans b ∷ []) (block_spans y ∷ []) ∙ sym (p.1 ∙ rw t refl),
      p.2 ∙ rw t refl,
    )

-- what meeting blocks leave
pub record AreMet (kept m : ℕ) (old new more left : List BlockSpans) (gone : ℕ) : Type 0 where
  pub front : take kept new ++ left ≡ joined_blocks (first_of_last m (take kept old)) more
  pub behind : (n : ℕ) → kept ≤ n → drop n new ≡ drop n old
  pub seam : seam (take kept old) more ≡ gone

met : (kept m gone : ℕ) (bs : List Block) (b c : Block) (y new : BlockSpans) (ys left : List BlockSpans) → 0 < kept → kept ≤ length bs → b ≡ get_or bs (kept - 1) b → block_spans c ≡ new →
    joined_blocks (first_spans m (block_spans b) ∷ []) (y ∷ ys) ≡ new ∷ left → seam (block_spans b ∷ []) (y ∷ ys) ≡ gone → AreMet kept m (blocks_shown bs) (blocks_shown (set bs (kept - 1) c)) (y ∷ ys) left gone
met kept m gone bs b c y new ys left p l g s j n =
    let k = kept - 1 in
    let at = shown_at bs k b (omega arith) g in
    let n' = length-map bs block_spans in
    let shown : blocks_shown (set bs k c) ≡ set (blocks_shown bs) k new = map-set block_spans bs k c ∙ ap (set (blocks_shown bs) k) s in
    rw shown (subst (λ z. AreMet z m (blocks_shown bs) (set (blocks_shown bs) k new) (y ∷ ys) left gone) (let w : k + 1 ≡ kept = omega arith in w) (record {
      front = sym (meets k m (blocks_shown bs) (block_spans b) y new ys left (omega arith) at j);
      behind = λ z o. drop-set-lt z (blocks_shown bs) k new (omega arith);
      seam = seams k (blocks_shown bs) (block_spans b) y ys (omega arith) at ∙ n;
    }))

pub met_other : (kept m : ℕ) (bs more : List Block) (a b c y : Block) → 0 < kept → kept ≤ length bs → 0 < length more → a ≡ get_or bs (kept - 1) a →
    y ≡ get_or more 0 y → a.handle ≢ y.handle → b ≡ get_or bs (kept - 1) b → c.handle ≡ b.handle → c.spans.items ≡ take m b.spans.items →
    AreMet kept m (blocks_shown bs) (blocks_shown (set bs (kept - 1) c)) (blocks_shown more) (blocks_shown more) 0
met_other kept m bs more a b c y p l q e f d g h s =
    let t : is_same_place b.handle y.handle ≡ false = other_place_is b.handle y.handle (λ z. d (ap (λ (x : Block). x.handle) (one_block bs (kept - 1) a b (omega arith) e g) ∙ z)) in
    rw (first_of more y q f) (met kept m 0 bs b c (block_spans y) _ _ _ p l g (stretch_is c (first_spans m (block_spans b)) h s) (rw t refl) (rw t refl))

pub met_same : (kept m : ℕ) (bs more : List Block) (a b c y : Block) → 0 < kept → kept ≤ length bs → 0 < length more → a ≡ get_or bs (kept - 1) a →
    y ≡ get_or more 0 y → a.handle ≡ y.handle → b ≡ get_or bs (kept - 1) b → c.handle ≡ b.handle →
    c.spans.items ≡ take m b.spans.items ++ y.spans.items → AreMet kept m (blocks_shown bs) (blocks_shown (set bs (kept - 1) c)) (blocks_shown more)
    (blocks_shown (drop 1 more)) 1
met_same kept m bs more a b c y p l q e f d g h s =
    let t : is_same_place b.handle y.handle ≡ true = rw (ap (λ (x : Block). x.handle) (one_block bs (kept - 1) b a (omega arith) g e) ∙ d) (same_place_self y.handle) in
    rw (first_of more y q f)
    (met kept m 1 bs b c (block_spans y) _ _ _ p l g (stretch_is c (with_spans_behind (first_spans m (block_spans b)) y.spans.items) h s) (rw t refl) (rw t refl))

pub shown_three : (kept rest : ℕ) (bs more : List Block) → blocks_shown (take kept bs ++ more ++ drop rest bs) ≡ take kept (blocks_shown bs) ++ blocks_shown more ++ drop rest (blocks_shown bs)
shown_three kept rest bs more =
    map-append block_spans (take kept bs ++ more) (drop rest bs)
    ∙ rw (map-append block_spans (take kept bs) more, sym (take-map block_spans kept bs), sym (drop-map block_spans rest bs)) refl
