-- Copies of entries take their places, and are read behind those that were rewritten before.
use Rattle.raft_engine_laws.proofs.Common.{◌≡◌, ℕ, suc, ◌+◌, Bool, true, false, cond, List, [], ◌∷◌, ◌++◌, length, take, drop, Option, Some, None, refl, sym, ap, subst, ◌∙◌, append-nil, append_assoc, length-append, arith, ◌&&◌, nat_lt, AllByRecursion, prefix_len, nat_tests}
use Rattle.raft_engine_laws.proofs.Common.{EntryIndex, Rewrite, RisesFrom, IsRun, end_of, misses, overlap, moved_count, may_move, is_misplaced, with_places, rewritten_from, entries_after_rewrite, leaves_hole, entries_after_replay, start_of, below, from, entry_count, below_take}
use Rattle.raft_engine_laws.proofs.Common.{from_drop, below_start, from_start, rises, hole_end, end_of-run, AreCopies}

same : (n : ℕ) → (nat_lt 0 n && nat_lt n n) ≡ false
same n = grind (arith, nat_tests)

above : (n k : ℕ) → (nat_lt 0 (n + suc k) && nat_lt (n + suc k) n) ≡ false
above n k = grind (arith, nat_tests)

take_front : (a b : List EntryIndex) → take (length a) (a ++ b) ≡ a
take_front [] b = refl
take_front (e ∷ a) b = ap (λ l. e ∷ l) (take_front a b)

drop_front : (a b : List EntryIndex) → drop (length a) (a ++ b) ≡ b
drop_front [] b = refl
drop_front (e ∷ a) b = drop_front a b

below_prefix : (s i : ℕ) (a b : List EntryIndex) → RisesFrom s (a ++ b) → i ≡ s + length a → below i (a ++ b) ≡ a
below_prefix s i a b h e = below_take i (length a) s (a ++ b) e h ∙ take_front a b

from_prefix : (s i : ℕ) (a b : List EntryIndex) → RisesFrom s (a ++ b) → i ≡ s + length a → from i (a ++ b) ≡ b
from_prefix s i a b h e = from_drop i (length a) s (a ++ b) e h ∙ drop_front a b

rises_back : (s : ℕ) (a b : List EntryIndex) → RisesFrom s (a ++ b) → RisesFrom (s + length a) b
rises_back s [] b h = subst (λ n. RisesFrom n b) (let e : s ≡ s + 0 = omega arith in e) h
rises_back s (e ∷ a) b h = subst (λ n. RisesFrom n b) (let e : suc s + length a ≡ s + suc (length a) = omega arith in e) (rises_back (suc s) a b h.1)

rises_prefix : (s : ℕ) (a b : List EntryIndex) → RisesFrom s (a ++ b) → RisesFrom s a
rises_prefix s [] b h = tt
rises_prefix s (e ∷ a) b h = (h.0, rises_prefix (suc s) a b h.1)

all_pass : {X : Type 0} (p : X → Bool) (xs : List X) → AllByRecursion (λ x. p x ≡ true) xs → prefix_len p xs ≡ length xs
all_pass p [] h = refl
all_pass p (x ∷ xs) h = rw h.0 (let k = all_pass p xs h.1 in omega (arith, k))

module _ (content : EntryIndex → List ℕ) where
  copies_length : (gs es : List EntryIndex) → AreCopies content gs es → length gs ≡ length es
  copies_length [] [] h = refl
  copies_length [] (e ∷ es) h = absurd h
  copies_length (g ∷ gs) [] h = absurd h
  copies_length (g ∷ gs) (e ∷ es) h = let k = copies_length gs es h.1 in omega (arith, k)

  copies_rise : (s : ℕ) (gs es : List EntryIndex) → AreCopies content gs es → RisesFrom s es → RisesFrom s gs
  copies_rise s [] es h r = tt
  copies_rise s (g ∷ gs) [] h r = absurd h
  copies_rise s (g ∷ gs) (e ∷ es) h r = (h.0.0 ∙ r.0, copies_rise (suc s) gs es h.1 r.1)

  -- the entries es = front, then middle (some), then back; the middle's places may move, and are in no wrong place
  module _ (gate : Option ℕ) (front : List EntryIndex) (m : EntryIndex) (ms back : List EntryIndex) (g : EntryIndex) (gs : List EntryIndex) (run : IsRun (front ++ (m ∷ ms ++ back))) (copies : AreCopies content (g ∷ gs) (m ∷ ms))
      (placed : is_misplaced gate (length front) (entry_count Rewrite (front ++ (m ∷ ms ++ back))) ≡ false) (move : AllByRecursion (λ (e : EntryIndex). may_move gate e ≡ true) (m ∷ ms)) where
    abbrev es : List EntryIndex
    es = front ++ (m ∷ ms ++ back)

    abbrev s : ℕ
    s = start_of es

    rising : RisesFrom s es
    rising = rises es run

    at : m.index ≡ s + length front
    at = (rises_back s front (m ∷ ms ++ back) rising).0

    starts : g.index ≡ m.index
    starts = copies.0.0

    run_rises : RisesFrom g.index (g ∷ gs)
    run_rises = copies_rise g.index (g ∷ gs) (m ∷ ms) copies (subst (λ n. RisesFrom n (m ∷ ms)) (sym (starts ∙ at)) (rises_prefix (s + length front) (m ∷ ms) back (rises_back s front (m ∷ ms ++ back) rising)))

    ends : end_of (g ∷ gs) ≡ s + length (front ++ m ∷ ms)
    ends =
        let a = end_of-run g.index (g ∷ gs) run_rises (omega arith) in
        let b = copies_length (g ∷ gs) (m ∷ ms) copies in
        let c = length-append front (m ∷ ms) in
        let d = starts in let e = at in
        omega (arith, a, b, c, d, e)

    whole : es ≡ (front ++ m ∷ ms) ++ back
    whole = sym (append_assoc front (m ∷ ms) back)

    meets : overlap (g ∷ gs) es ≡ m ∷ ms
    meets =
        ap (from g.index) (ap (below (end_of (g ∷ gs))) whole ∙ below_prefix s (end_of (g ∷ gs)) (front ++ m ∷ ms) back (subst (RisesFrom s) whole rising) ends)
        ∙ from_prefix s g.index front (m ∷ ms) (rises_prefix s (front ++ m ∷ ms) back (subst (RisesFrom s) whole rising)) (starts ∙ at)

    count : moved_count gate (g ∷ gs) es ≡ length (m ∷ ms)
    count = ap (prefix_len (may_move gate)) meets ∙ all_pass (may_move gate) (m ∷ ms) move

    takes : (n : ℕ) → n ≡ length (m ∷ ms) → take n (from m.index (g ∷ gs)) ≡ g ∷ gs
    takes n e = ap (take n) (from_start m.index g.index (g ∷ gs) run_rises (let k = starts in omega (arith, k))) ∙ all_taken (g ∷ gs) n (e ∙ sym (copies_length (g ∷ gs) (m ∷ ms) copies))
      where
        all_taken : (l : List EntryIndex) (n : ℕ) → n ≡ length l → take n l ≡ l
        all_taken l n e = ap (λ k. take k l) e ∙ ap (take (length l)) (sym (append-nil l)) ∙ take_front l []

    places : with_places (g ∷ gs) m.index (moved_count gate (g ∷ gs) es) es ≡ front ++ (g ∷ gs ++ back)
    places =
        ap (λ n. with_places (g ∷ gs) m.index n es) count
        ∙ ap (λ l. l ++ take (length (m ∷ ms)) (from m.index (g ∷ gs)) ++ from (m.index + length (m ∷ ms)) es) (below_prefix s m.index front (m ∷ ms ++ back) rising at)
        ∙ ap (λ l. front ++ l ++ from (m.index + length (m ∷ ms)) es) (takes (length (m ∷ ms)) refl)
        ∙ ap (λ l. front ++ (g ∷ gs) ++ l)
        (ap (from (m.index + length (m ∷ ms))) whole ∙ from_prefix s (m.index + length (m ∷ ms)) (front ++ m ∷ ms) back
        (subst (RisesFrom s) whole rising) (let a = at in let c = length-append front (m ∷ ms) in omega (arith, a, c)))
        ∙ append_assoc front (g ∷ gs) back

    -- the copies take the places of the middle
    pub copies_take_places : entries_after_rewrite gate (g ∷ gs) es ≡ Some (front ++ (g ∷ gs ++ back))
    copies_take_places =
        ap (rewritten_from gate (g ∷ gs) es) meets
        ∙ ap (λ (l : List EntryIndex). cond (is_misplaced gate (length l) (entry_count Rewrite es)) None (Some (with_places (g ∷ gs) m.index (moved_count gate (g ∷ gs) es) es))) (below_prefix s m.index front (m ∷ ms ++ back) rising at)
        ∙ ap (λ b. cond b None (Some (with_places (g ∷ gs) m.index (moved_count gate (g ∷ gs) es) es))) placed
        ∙ ap (λ l. Some l) places

    -- and are read behind the prefix
    pub copies_read_behind : entries_after_replay Rewrite front (g ∷ gs) ≡ Some (front ++ g ∷ gs)
    copies_read_behind = ap (λ b. Some (cond b (g ∷ gs) (below g.index front ++ g ∷ gs))) (no_hole front refl) ∙ ap (λ l. Some (l ++ g ∷ gs)) front_below
      where
        prefix_rises : RisesFrom s front
        prefix_rises = rises_prefix s front (m ∷ ms ++ back) rising

        front_below : below g.index front ≡ front
        front_below = ap (below g.index) (sym (append-nil front)) ∙ below_prefix s g.index front [] (subst (RisesFrom s) (sym (append-nil front)) prefix_rises) (starts ∙ at)

        no_hole : (f : List EntryIndex) → front ≡ f → leaves_hole front g.index ≡ false
        no_hole [] e = ap (λ l. leaves_hole l g.index) e
        no_hole (x ∷ f) e =
            hole_end front g.index
            ∙ ap (misses (Some g.index)) (end_of-run s front prefix_rises (let k = ap length e in omega (arith, k)))
            ∙ ap (λ n. misses (Some n) (s + length front)) (starts ∙ at)
            ∙ same (s + length front)

    -- where nothing is in front, they are read over the middle
    pub copies_read_over : front ≡ [] → entries_after_replay Rewrite (m ∷ ms) (g ∷ gs) ≡ Some (g ∷ gs)
    copies_read_over none = ap (λ b. Some (cond b (g ∷ gs) (below g.index (m ∷ ms) ++ g ∷ gs))) no_hole ∙ ap (λ l. Some (l ++ g ∷ gs)) none_below
      where
        middle_rises : RisesFrom m.index (m ∷ ms)
        middle_rises = subst (λ n. RisesFrom n (m ∷ ms)) (sym at) (rises_prefix (s + length front) (m ∷ ms) back (rises_back s front (m ∷ ms ++ back) rising))

        none_below : below g.index (m ∷ ms) ≡ []
        none_below = below_start g.index m.index (m ∷ ms) middle_rises (let k = starts in omega (arith, k))

        no_hole : leaves_hole (m ∷ ms) g.index ≡ false
        no_hole = hole_end (m ∷ ms) g.index ∙ ap (misses (Some g.index)) (end_of-run m.index (m ∷ ms) middle_rises (omega arith)) ∙ ap (λ n. misses (Some n) (m.index + length (m ∷ ms))) starts ∙ above m.index (length ms)
