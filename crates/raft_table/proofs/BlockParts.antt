-- What stands in a block, and what changes from one to the next.
use Rattle.raft_table.proofs.Common.{◌≡◌, ◌≢◌, ℕ, zero, suc, ◌+◌, ◌<◌, ◌≤◌, true, false, List, [], ◌∷◌, ◌++◌, length, get_or, take, drop, refl, sym, ap, ◌∙◌, subst, arith, Some, slice_get, append-nil, length-append, length-drop}
use Rattle.raft_table.proofs.Common.{take-append-le, drop-take, FileBlockHandle, EntryIndex, entries_of_block, BlockSpans, entries_in_blocks, AreDistinctBlocks, count, IsAt, start_of, change_count, block_count, entry_seq, are_same_places}
use Rattle.raft_table.proofs.Common.{map, append_assoc, drop_at, drop_more, take-append_seam, without_span, with_spans, ◌-◌, min, inl, inr, Option, prefix_len, length-take-le, take_all, take-take, drop-append-le, take-append-drop, cases_lt}
use Rattle.raft_table.proofs.Common.{may_move}
use Rattle.raft_table.proofs.RunLemmas.{start-of_rising}
use Rattle.raft_table.proofs.FetchLemmas.{slice_get_drop, part_at}
use Rattle.raft_table.proofs.BlockLemmas.{length-spread, spread_take, rises_expanded, at_spot, entry_of, length-expanded, count_take_more, entry_is}
use Rattle.raft_table.proofs.BlockJoins.{same_place_self, other_place_is}
use Rattle.raft_base.specs.declared.compression_type.CompressionType.TheVariants as compression

-- the entries of blocks start where they do
pub expanded_start : (i : ℕ) (bs : List BlockSpans) → AreDistinctBlocks bs → entries_in_blocks (start_of (entries_in_blocks i bs)) bs ≡ entries_in_blocks i bs
expanded_start i [] h = refl
expanded_start i (b ∷ bs) h =
    let l = length-append (entries_of_block i b.handle b.spans) (entries_in_blocks (i + length b.spans) bs) in
    let m = length-spread i b.handle b.spans in
    ap (λ n. entries_in_blocks n (b ∷ bs)) (start-of_rising i (entries_in_blocks i (b ∷ bs)) (rises_expanded i (b ∷ bs)) (omega arith))

same_step : (a b : EntryIndex) (es : List EntryIndex) → are_same_places a.entries b.entries ≡ true → change_count (a ∷ b ∷ es) ≡ change_count (b ∷ es)
same_step a b es h = rw h (omega arith)

other_step : (a b : EntryIndex) (es : List EntryIndex) → are_same_places a.entries b.entries ≡ false → change_count (a ∷ b ∷ es) ≡ suc (change_count (b ∷ es))
other_step a b es h = rw h (omega arith)

changes : (i : ℕ) (h : FileBlockHandle) (s : ℕ × ℕ) (ss : List (ℕ × ℕ)) → change_count (entries_of_block i h (s ∷ ss)) ≡ 0
changes i h s [] = refl
changes i h s (t ∷ ss) = same_step (entry_of i h s) (entry_of (suc i) h t) (entries_of_block (suc (suc i)) h ss) (same_place_self h) ∙ changes (suc i) h t ss

changes_more : (i : ℕ) (h : FileBlockHandle) (s : ℕ × ℕ) (ss : List (ℕ × ℕ)) (e : EntryIndex) (es : List EntryIndex) →
    are_same_places (Some h) e.entries ≡ false → change_count (entries_of_block i h (s ∷ ss) ++ e ∷ es) ≡ suc (change_count (e ∷ es))
changes_more i h s [] e es d = other_step (entry_of i h s) e es d
changes_more i h s (t ∷ ss) e es d = same_step (entry_of i h s) (entry_of (suc i) h t) (entries_of_block (suc (suc i)) h ss ++ e ∷ es) (same_place_self h) ∙ changes_more (suc i) h t ss e es d

changes_last : (i : ℕ) (h : FileBlockHandle) (ss : List (ℕ × ℕ)) → 0 < length ss → change_count (entries_of_block i h ss) ≡ 0
changes_last i h [] l = absurd (omega arith)
changes_last i h (s ∷ ss) l = changes i h s ss

changes_front : (i : ℕ) (h : FileBlockHandle) (ss : List (ℕ × ℕ)) (j : ℕ) (g : FileBlockHandle) (ts : List (ℕ × ℕ)) (es : List EntryIndex) →
    0 < length ss → 0 < length ts → h ≢ g → change_count (entries_of_block i h ss ++ (entries_of_block j g ts ++ es)) ≡ suc
    (change_count (entries_of_block j g ts ++ es))
changes_front i h [] j g ts es l m d = absurd (omega arith)
changes_front i h (s ∷ ss) j g [] es l m d = absurd (omega arith)
changes_front i h (s ∷ ss) j g (t ∷ ts) es l m d = changes_more i h s ss (entry_of j g t) (entries_of_block (suc j) g ts ++ es) (other_place_is h g d)

change_count_is : (i : ℕ) (b : BlockSpans) (bs : List BlockSpans) → AreDistinctBlocks (b ∷ bs) → change_count (entries_in_blocks i (b ∷ bs)) ≡ length bs
change_count_is i b [] h = rw (append-nil (entries_of_block i b.handle b.spans)) (changes_last i b.handle b.spans h.0)
change_count_is i b (c ∷ cs) h =
    let j = i + length b.spans in
    changes_front i b.handle b.spans j c.handle c.spans (entries_in_blocks (j + length c.spans) cs) h.0 h.2.0 h.1 ∙ ap suc (change_count_is j c cs h.2)

pub block_count_is : (i : ℕ) (bs : List BlockSpans) → AreDistinctBlocks bs → block_count (entries_in_blocks i bs) ≡ length bs
block_count_is i [] h = refl
block_count_is i (b ∷ bs) h = some (entries_in_blocks i (b ∷ bs))
    (let l = length-append (entries_of_block i b.handle b.spans) (entries_in_blocks (i + length b.spans) bs) in
    let m = length-spread i b.handle b.spans in let p = h.0 in omega arith) ∙ ap suc (change_count_is i b bs h)
  where
    some : (es : List EntryIndex) → 0 < length es → block_count es ≡ suc (change_count es)
    some [] l = absurd (omega arith)
    some (e ∷ es) l = refl

head_seq : (x o : ℕ) (h : FileBlockHandle) (ss : List (ℕ × ℕ)) (rest : List EntryIndex) → o < length ss → entry_seq (slice_get (entries_of_block x h (drop o ss) ++ rest) 0) ≡ Some h.id.seq
head_seq x o h [] rest l = absurd (omega arith)
head_seq x zero h (s ∷ ss) rest l = refl
head_seq x (suc o) h (s ∷ ss) rest l = head_seq x o h ss rest (omega arith)

pub seq_at_spot : (i p k o : ℕ) (bs : List BlockSpans) (b : BlockSpans) → IsAt p bs k o → b ≡ get_or bs k b → Some b.handle.id.seq ≡ entry_seq (slice_get (entries_in_blocks i bs) p)
seq_at_spot i p k o bs b a e =
    let rest = entries_in_blocks (i + count (take (suc k) bs)) (drop (suc k) bs) in
    let tail : drop p (entries_in_blocks i bs) ≡ entries_of_block (i + p) b.handle (drop o b.spans) ++ rest =
    subst (λ (y : BlockSpans). drop p (entries_in_blocks i bs) ≡ entries_of_block (i + p) y.handle (drop o y.spans) ++ rest) (sym e) (at_spot i p k o bs b a) in
    let inside : o < length b.spans = subst (λ (y : BlockSpans). o < length y.spans) (sym e) (a.inside b) in
    sym (ap entry_seq (sym (slice_get_drop p (entries_in_blocks i bs)) ∙ ap (λ xs. slice_get xs 0) tail) ∙ head_seq (i + p) o b.handle b.spans rest inside)

-- a part of the entries that stands in one block
pub block_part : (i p k o n : ℕ) (bs : List BlockSpans) (b : BlockSpans) → IsAt p bs k o → b ≡ get_or bs k b → o + n ≤ length b.spans →
    drop p (take (p + n) (entries_in_blocks i bs)) ≡ entries_of_block (i + p) b.handle (take n (drop o b.spans))
block_part i p k o n bs b a e l =
    let rest = entries_in_blocks (i + count (take (suc k) bs)) (drop (suc k) bs) in
    let tail : drop p (entries_in_blocks i bs) ≡ entries_of_block (i + p) b.handle (drop o b.spans) ++ rest =
    subst (λ (y : BlockSpans). drop p (entries_in_blocks i bs) ≡ entries_of_block (i + p) y.handle (drop o y.spans) ++ rest) (sym e) (at_spot i p k o bs b a) in
    drop-take p n (entries_in_blocks i bs) ∙ ap (take n) tail
    ∙ take-append-le n (entries_of_block (i + p) b.handle (drop o b.spans)) rest (rw (length-spread (i + p) b.handle (drop o b.spans)) (omega (arith, length-drop o b.spans)))
    ∙ spread_take n (i + p) b.handle (drop o b.spans)

-- the entries of a block get their places, and those behind none
pub spans_set : (i : ℕ) (h : FileBlockHandle) (ss : List (ℕ × ℕ)) (rest : List EntryIndex) → with_spans ss (map without_span (entries_of_block i h ss ++ rest)) ≡ entries_of_block i h ss ++ map without_span rest
spans_set i h [] rest = refl
spans_set i h (s ∷ ss) rest = ap (λ es. record { index = i; entries = Some h; compression_type = compression.None; entry_offset = s.0; entry_len = s.1 } ∷ es) (spans_set (suc i) h ss rest)

pub part_set : (front : List EntryIndex) (n i : ℕ) (h : FileBlockHandle) (ss : List (ℕ × ℕ)) (rest : List EntryIndex) → length front ≡ n →
    take n (front ++ map without_span (entries_of_block i h ss ++ rest)) ++ with_spans ss
    (drop n (front ++ map without_span (entries_of_block i h ss ++ rest))) ≡ (front ++ entries_of_block i h ss) ++ map without_span rest
part_set front n i h ss rest l =
    let es = map without_span (entries_of_block i h ss ++ rest) in
    let t : take n (front ++ es) ≡ front = ap (λ k. take k (front ++ es)) (sym l) ∙ take-append_seam front es in
    rw (t, drop_at front es n l, spans_set i h ss rest) (sym (append_assoc front (entries_of_block i h ss) (map without_span rest)))

-- one entry more of a block, without its place
pub unset_more : (i next k more : ℕ) (h : FileBlockHandle) (ss : List (ℕ × ℕ)) (front : List EntryIndex) (e : EntryIndex) →
    e ≡ record { index = i; entries = Some h; compression_type = compression.None; entry_offset = 0; entry_len = 0 } → k < length ss → next ≡ suc i →
    more ≡ k + 1 → (front ++ e ∷ []) ++ map without_span (entries_of_block next h (drop more ss)) ≡ front ++ map without_span
    (entries_of_block i h (drop k ss))
unset_more i next k more h ss front e q l n m =
    rw (n, m) (append_assoc front (e ∷ []) (map without_span (entries_of_block (suc i) h (drop (k + 1) ss)))
    ∙ ap (λ x. front ++ (x ∷ map without_span (entries_of_block (suc i) h (drop (k + 1) ss)))) q
    ∙ ap (λ ys. front ++ map without_span (entries_of_block i h ys)) (sym (drop_more ss k (0, 0) l)))

pub part_split : {X : Type 0} (a b c : ℕ) (xs : List X) → a ≤ b → b ≤ c → c ≤ length xs → drop a (take c xs) ≡ drop a (take b xs) ++ drop b (take c xs)
part_split a b c xs l m n =
    let ys = take c xs in
    let t : take b ys ≡ take b xs = take-take b c xs m in
    let k : length (take b xs) ≡ b = length-take-le b xs (omega arith) in
    ap (drop a) (sym (take-append-drop b ys) ∙ ap (λ zs. zs ++ drop b ys) t)
    ∙ drop-append-le a (take b xs) (drop b ys) (omega arith)

block_filled : (k : ℕ) (bs : List BlockSpans) (d : BlockSpans) → AreDistinctBlocks bs → k < length bs → 0 < length (get_or bs k d).spans
block_filled k [] d h l = absurd (omega arith)
block_filled zero (b ∷ bs) d h l = h.0
block_filled (suc k) (b ∷ bs) d h l = block_filled k bs d h.2 (omega arith)

-- behind the last entry of a block stands the first of the next one
pub next_block : (p k o n : ℕ) (bs : List BlockSpans) (d : BlockSpans) → IsAt p bs k o → AreDistinctBlocks bs → o + n ≡ length (get_or bs k d).spans → p + n < count bs → IsAt (p + n) bs (suc k) 0
next_block p k o n bs d a h e l =
    let m = count_take_more k bs d a.block in
    let more : suc k < length bs = elim (cases_lt (suc k) (length bs)) [
      | inl x ↦ x
      | inr x ↦ let t = ap count (take_all (suc k) bs (omega arith)) in absurd (omega arith)
    ] in
    record { block = more; spot = omega arith; inside = λ c. block_filled (suc k) bs c h more }

-- a part of the entries up to the end of a block, and what stands behind
pub walk_part : (i p k o n e : ℕ) (bs : List BlockSpans) (b : BlockSpans) → IsAt p bs k o → b ≡ get_or bs k b → o + n ≤ length b.spans → p + n ≤ e →
    e ≤ count bs → drop p (take e (entries_in_blocks i bs)) ≡ entries_of_block (i + p) b.handle (take n (drop o b.spans)) ++ drop (p + n)
    (take e (entries_in_blocks i bs))
walk_part i p k o n e bs b a q l m c =
    part_split p (p + n) e (entries_in_blocks i bs) (omega arith) m (rw (length-expanded i bs) c)
    ∙ ap (λ xs. xs ++ drop (p + n) (take e (entries_in_blocks i bs))) (block_part i p k o n bs b a q l)

pub walk_more : (i s p k o n : ℕ) (bs : List BlockSpans) (b : BlockSpans) → s ≤ p → IsAt p bs k o → b ≡ get_or bs k b → o + n ≤ length b.spans →
    p + n ≤ count bs → drop s (take (p + n) (entries_in_blocks i bs)) ≡ drop s (take p (entries_in_blocks i bs)) ++ entries_of_block (i + p) b.handle
    (take n (drop o b.spans))
walk_more i s p k o n bs b g a q l c =
    part_split s p (p + n) (entries_in_blocks i bs) g (omega arith) (rw (length-expanded i bs) c)
    ∙ ap (λ xs. drop s (take p (entries_in_blocks i bs)) ++ xs) (block_part i p k o n bs b a q l)

pub moves_all : (gate : Option ℕ) (i : ℕ) (h : FileBlockHandle) (ss : List (ℕ × ℕ)) (rest : List EntryIndex) →
    ((e : EntryIndex) → e.entries ≡ Some h → true ≡ may_move gate e) →
    prefix_len (may_move gate) (entries_of_block i h ss ++ rest) ≡ length ss + prefix_len (may_move gate) rest
moves_all gate i h [] rest m = omega arith
moves_all gate i h (s ∷ ss) rest m =
    let t = sym (m (entry_of i h s) refl) in
    let r = moves_all gate (suc i) h ss rest m in
    rw t (omega arith)

pub moves_none : (gate : Option ℕ) (i : ℕ) (h : FileBlockHandle) (ss : List (ℕ × ℕ)) (rest : List EntryIndex) →
    ((e : EntryIndex) → e.entries ≡ Some h → false ≡ may_move gate e) → 0 < length ss →
    prefix_len (may_move gate) (entries_of_block i h ss ++ rest) ≡ 0
moves_none gate i h [] rest m l = absurd (omega arith)
moves_none gate i h (s ∷ ss) rest m l = rw (sym (m (entry_of i h s) refl)) refl

-- a step of a walk to the end of a block, or to that of the part
pub record IsStep (p k o n e : ℕ) (bs : List BlockSpans) (b : BlockSpans) : Type 0 where
  pub within : o + n ≤ length b.spans
  pub some : 0 < n
  pub order : p + n ≤ e
  pub next : p + n < e → IsAt (p + n) bs (k + 1) 0

pub walk_inside : (p k o : ℕ) (bs : List BlockSpans) (b : BlockSpans) → IsAt p bs k o → b ≡ get_or bs k b → o < length b.spans
walk_inside p k o bs b a q = subst (λ (y : BlockSpans). o < length y.spans) (sym q) (a.inside b)

pub walk_step : (p k o n e len : ℕ) (bs : List BlockSpans) (b : BlockSpans) → IsAt p bs k o → AreDistinctBlocks bs → b ≡ get_or bs k b → len ≡ length b.spans → n ≡ min (len - o) (e - p) → p < e → e ≤ count bs → IsStep p k o n e bs b
walk_step p k o n e len bs b a h q l m f c =
    let i = walk_inside p k o bs b a q in
    record {
      within = omega arith;
      some = omega arith;
      order = omega arith;
      next = λ g.
          let t : o + n ≡ length (get_or bs k b).spans = (let u : o + n ≡ length b.spans = omega arith in u) ∙ ap (λ (y : BlockSpans). length y.spans) q in
          subst (λ z. IsAt (p + n) bs z 0) (let u : suc k ≡ k + 1 = omega arith in u) (next_block p k o n bs b a h t (omega arith));
    }

pub walk_next_block : (p k o : ℕ) (bs : List BlockSpans) (b : BlockSpans) → IsAt p bs k o → AreDistinctBlocks bs → b ≡ get_or bs k b → length b.spans ≤ o + 1 → p + 1 < count bs → IsAt (p + 1) bs (k + 1) 0
walk_next_block p k o bs b a h q l c =
    let i = walk_inside p k o bs b a q in
    let t : o + 1 ≡ length (get_or bs k b).spans = (let u : o + 1 ≡ length b.spans = omega arith in u) ∙ ap (λ (y : BlockSpans). length y.spans) q in
    subst (λ z. IsAt (p + 1) bs z 0) (let u : suc k ≡ k + 1 = omega arith in u) (next_block p k o 1 bs b a h t c)

-- where the entries of the next block may not move, and where they may
pub walk_stops : (gate : Option ℕ) (i s p k o e : ℕ) (bs : List BlockSpans) (b : BlockSpans) → IsAt p bs k o → b ≡ get_or bs k b → p < e →
    e ≤ count bs → ((x : EntryIndex) → x.entries ≡ Some b.handle → false ≡ may_move gate x) →
    prefix_len (may_move gate) (drop s (take e (entries_in_blocks i bs))) + s ≡ p + prefix_len (may_move gate)
    (drop p (take e (entries_in_blocks i bs))) → p - s ≡ prefix_len (may_move gate) (drop s (take e (entries_in_blocks i bs)))
walk_stops gate i s p k o e bs b a q l c m h =
    let g = walk_inside p k o bs b a q in
    let one = take 1 (drop o b.spans) in
    let n : length one ≡ 1 = length-take-le 1 (drop o b.spans) (omega (arith, length-drop o b.spans)) in
    let z : prefix_len (may_move gate) (drop p (take e (entries_in_blocks i bs))) ≡ 0 =
    ap (prefix_len (may_move gate)) (walk_part i p k o 1 e bs b a q (omega arith) (omega arith) c)
    ∙ moves_none gate (i + p) b.handle one (drop (p + 1) (take e (entries_in_blocks i bs))) m (omega arith) in
    omega arith

pub walk_goes : (gate : Option ℕ) (i s p k o n e : ℕ) (bs : List BlockSpans) (b : BlockSpans) → IsAt p bs k o → b ≡ get_or bs k b →
    IsStep p k o n e bs b → e ≤ count bs → ((x : EntryIndex) → x.entries ≡ Some b.handle → true ≡ may_move gate x) →
    prefix_len (may_move gate) (drop s (take e (entries_in_blocks i bs))) + s ≡ p + prefix_len (may_move gate)
    (drop p (take e (entries_in_blocks i bs))) → prefix_len (may_move gate) (drop s (take e (entries_in_blocks i bs))) + s ≡ p + n + prefix_len
    (may_move gate) (drop (p + n) (take e (entries_in_blocks i bs)))
walk_goes gate i s p k o n e bs b a q t c m h =
    let w = t.within in
    let some = take n (drop o b.spans) in
    let l : length some ≡ n = length-take-le n (drop o b.spans) (omega (arith, length-drop o b.spans)) in
    let z : prefix_len (may_move gate) (drop p (take e (entries_in_blocks i bs))) ≡ length some + prefix_len (may_move gate) (drop (p + n) (take e (entries_in_blocks i bs))) =
    ap (prefix_len (may_move gate)) (walk_part i p k o n e bs b a q w t.order c)
    ∙ moves_all gate (i + p) b.handle some (drop (p + n) (take e (entries_in_blocks i bs))) m in
    omega arith

pub walk_len : (i s p k o e len : ℕ) (bs : List BlockSpans) (b : BlockSpans) (x : ℕ × ℕ) (d : EntryIndex) → IsAt p bs k o → b ≡ get_or bs k b →
    x ≡ get_or b.spans o x → len ≡ x.1 → s ≤ p → p < e → len ≡ (get_or (drop s (take e (entries_in_blocks i bs))) (p - s) d).entry_len
walk_len i s p k o e len bs b x d a q f h l m =
    h ∙ ap (λ (y : EntryIndex). y.entry_len) (entry_is i p k o bs b x d a q f ∙ sym (part_at s e p (entries_in_blocks i bs) d l m))
