-- Where a run meets a table's entries, what rewriting to its places gives, and what it leaves in each queue.
use Rattle.raft_table.proofs.Common.{◌≡◌, ℕ, ◌+◌, ◌≤◌, min, true, false, List, [], ◌∷◌, ◌++◌, length, take, drop, Option, Some, None, refl, sym, ap, ◌∙◌, subst, arith, prefix_len, append_assoc, length-take-le, length-append, length-drop}
use Rattle.raft_table.proofs.Common.{drop-take, take-take, take_at, drop_at, prefix_len-le-length, nat_tests, LogQueue, EntryIndex, RisesFrom, end_of, run_of, end_bounded, bounded_of, AreTableEntries, RewrittenInFront, start_of, placed_in}
use Rattle.raft_table.proofs.Common.{is_placed_in, entry_count, may_move, is_misplaced, newly_rewritten, Append, Rewrite, ◌-◌, ◌<◌, cond, ltb, inl, inr, nil_from_length, length-take, take_min, cases_lt, Overlap, Counts, All, All-drop}
use Rattle.raft_table.proofs.Common.{All-take, filter_passes, get_or-take, prefix_len_passes, with_added, with_deleted, IsRunIn, below, from, IsOverlap, AreDisjoint, overlap, moved_count, with_places, rewritten_from, entries_after_rewrite}
use Rattle.raft_table.proofs.Common.{with_rewritten, counts_after_rewrite, drop_min, leaves_hole, counts_without, counts_with_run, ◌^◌, live, AreCounted, AreRecounted, count_in, of_queue, entries_after_replay, replaced_by, IsKeptUnder}
use Rattle.raft_table.proofs.RunLemmas.{start-of_rising, RisesFrom-take, RisesFrom-append, RisesFrom-drop, end_of-run, placed_in-append, below_take, below_start, from_drop, from_start, rises}
use Rattle.raft_table.proofs.PlaceLemmas.{filter_all, each_placed, entry_count-append, entries_in_one, placed_in_other, each_queue, entry_count-cut}
use Rattle.raft_table.proofs.SoundLemmas.{sound_rising, AreTableEntries-take, AreTableEntries-drop, cut_counts}
use Rattle.raft_table.proofs.StartLemmas.{run_alone, MayJoin, sound_joined, sound_run}

pub placed_in-take : (q : LogQueue) (n : ℕ) (es : List EntryIndex) → placed_in q es ≡ es → placed_in q (take n es) ≡ take n es
unfolding placed_in
placed_in-take q n es h =
    filter_all (is_placed_in q) (take n es)
    (All-take (λ e. is_placed_in q e ≡ true) n es (subst (All (λ e. is_placed_in q e ≡ true)) h (filter_passes (is_placed_in q) es)))

pub placed_in-drop : (q : LogQueue) (n : ℕ) (es : List EntryIndex) → placed_in q es ≡ es → placed_in q (drop n es) ≡ drop n es
unfolding placed_in
placed_in-drop q n es h =
    filter_all (is_placed_in q) (drop n es)
    (All-drop (λ e. is_placed_in q e ≡ true) n es (subst (All (λ e. is_placed_in q e ≡ true)) h (filter_passes (is_placed_in q) es)))

-- rewritten entries in front of what has them in front
pub in_front_of : (a b : List EntryIndex) → placed_in Rewrite a ≡ a → RewrittenInFront b → RewrittenInFront (a ++ b)
in_front_of a b h k =
    let none : placed_in Append a ≡ [] = ap (placed_in Append) (sym h) ∙ placed_in_other Rewrite Append refl a in
    ap (λ xs. a ++ xs) k ∙ sym (append_assoc a (placed_in Rewrite b) (placed_in Append b))
    ∙ sym (rw (placed_in-append Rewrite a b, placed_in-append Append a b, none, h) refl)

pub end_of-same : (s : ℕ) (a b : List EntryIndex) → RisesFrom s a → RisesFrom s b → length a ≡ length b → end_of a ≡ end_of b
end_of-same s [] [] h k e = refl
end_of-same s [] (y ∷ b) h k e = absurd (omega arith)
end_of-same s (x ∷ a) [] h k e = absurd (omega arith)
end_of-same s (x ∷ a) (y ∷ b) h k e =
    end_of-run s (x ∷ a) h (omega arith) ∙ ap (λ n. s + n) e ∙ sym (end_of-run s (y ∷ b) k (omega arith))

pub whole_test : (q : LogQueue) (xs : List EntryIndex) → All (λ e. is_placed_in q e ≡ true) xs → entry_count q xs ≡ length xs
unfolding placed_in
whole_test q xs h = ap length (filter_all (is_placed_in q) xs h)

-- with a gate the places begin right behind the rewritten entries; without one those that move are among them
pub all_rewritten : (gate : Option ℕ) (at k : ℕ) (es : List EntryIndex) → AreTableEntries es → at + k ≤ length es →
    is_misplaced gate at (entry_count Rewrite es) ≡ false → (m : ℕ) → m ≡ prefix_len (may_move gate) (drop at (take (at + k) es)) →
    (at ≤ entry_count Rewrite es) × (min (at + m) (entry_count Rewrite es) + newly_rewritten gate m ≡ at + m)
all_rewritten (Some gate) at k es h l t m e = (grind (arith, nat_tests), grind (arith, nat_tests))
all_rewritten None at k es h l t m e =
    let w : at ≤ entry_count Rewrite es = grind (arith, nat_tests) in
    let xs = take k (drop at es) in
    let c : drop at (take (at + k) es) ≡ xs = drop-take at k es in
    let p : m ≡ prefix_len (is_placed_in Rewrite) xs = rw c at e in
    let len : length xs ≡ k = length-take-le k (drop at es) (omega (arith, length-drop at es)) in
    let mk : m ≤ k = omega (arith, prefix_len-le-length (is_placed_in Rewrite) xs) in
    let front : drop at (take (at + m) es) ≡ take m xs = drop-take at m es ∙ sym (take-take m k (drop at es) mk) in
    let long : length (take m xs) ≡ m = length-take-le m xs (omega arith) in
    let passes : All (λ e. is_placed_in Rewrite e ≡ true) (take m xs) =
    λ i d low. rw (get_or-take m xs i d (omega arith)) (prefix_len_passes (is_placed_in Rewrite) xs i d (omega arith)) in
    let whole : entry_count Rewrite (take m xs) ≡ m = whole_test Rewrite (take m xs) passes ∙ long in
    let a = cut_counts at (take (at + m) es) (AreTableEntries-take (at + m) es h) (omega (arith, length-take-le (at + m) es (omega arith))) in
    let b = cut_counts (at + m) es h (omega arith) in
    let d : entry_count Rewrite (drop at (take (at + m) es)) ≡ m = rw front whole in
    let f : take at (take (at + m) es) ≡ take at es = take-take at (at + m) es (omega arith) in
    let g = cut_counts at es h (omega arith) in
    let i = ap (entry_count Rewrite) f in
    (w, omega arith)

pub record Moves (gate : Option ℕ) (at m : ℕ) (es places : List EntryIndex) : Type 0 where
  pub within : m ≤ length places
  pub table_entries : AreTableEntries (take at es ++ take m places ++ drop (at + m) es)
  pub rewritten : entry_count Rewrite (take at es ++ take m places ++ drop (at + m) es) ≡ entry_count Rewrite es + newly_rewritten gate m
  pub appended : entry_count Append (take at es ++ take m places ++ drop (at + m) es) + newly_rewritten gate m ≡ entry_count Append es

pub moves : (gate : Option ℕ) (at m : ℕ) (es places : List EntryIndex) → AreTableEntries es → at + length places ≤ length es →
    RisesFrom (start_of es + at) places → placed_in Rewrite places ≡ places → is_misplaced gate at (entry_count Rewrite es) ≡ false →
    m ≡ prefix_len (may_move gate) (drop at (take (at + length places) es)) → Moves gate at m es places
moves gate at m es places h l r q t e =
    let k = length places in
    let s = start_of es in
    let sub : length (drop at (take (at + k) es)) ≡ k = rw (drop-take at k es) (length-take-le k (drop at es) (omega (arith, length-drop at es))) in
    let mk : m ≤ k = omega (arith, prefix_len-le-length (may_move gate) (drop at (take (at + k) es))) in
    let w = all_rewritten gate at k es h l t m e in
    let ca = cut_counts at es h (omega arith) in
    let cb = cut_counts (at + m) es h (omega arith) in
    let front : placed_in Rewrite (take at es) ≡ take at es = each_placed Rewrite (take at es) (run_alone Rewrite (take at es) (AreTableEntries-take at es h) (omega (arith, w.0))).placed in
    let mid : placed_in Rewrite (take m places) ≡ take m places = placed_in-take Rewrite m places q in
    let na : length (take at es) ≡ at = length-take-le at es (omega arith) in
    let nb : length (take m places) ≡ m = length-take-le m places mk in
    let ab = take at es ++ take m places in
    let nab : length ab ≡ at + m = length-append (take at es) (take m places) ∙ omega arith in
    let both : placed_in Rewrite ab ≡ ab = placed_in-append Rewrite (take at es) (take m places) ∙ rw (front, mid) refl in
    let rise_ab : RisesFrom s ab = RisesFrom-append s (take at es) (take m places) (RisesFrom-take at s es (sound_rising es h)) (rw na (RisesFrom-take m (s + at) places r)) in
    let rise : RisesFrom s (ab ++ drop (at + m) es) = RisesFrom-append s ab (drop (at + m) es) rise_ab (rw nab (RisesFrom-drop (at + m) s es (sound_rising es h) (omega arith))) in
    let n : length (ab ++ drop (at + m) es) ≡ length es = length-append ab (drop (at + m) es) ∙ omega (arith, length-drop (at + m) es) in
    let top = end_of-same s (ab ++ drop (at + m) es) es rise (sound_rising es h) n in
    let bound = end_bounded es h.consecutive.bounded in
    let ra = entry_count-append Rewrite ab (drop (at + m) es) in
    let rb = entry_count-append Append ab (drop (at + m) es) in
    let ia = entries_in_one Rewrite Rewrite ab both in
    let ib = entries_in_one Append Rewrite ab both in
    record {
      within = mk;
      table_entries = record {
        consecutive = record { run = run_of s (ab ++ drop (at + m) es) rise; bounded = bounded_of (ab ++ drop (at + m) es) (omega arith) };
        in_front = in_front_of ab (drop (at + m) es) both (AreTableEntries-drop (at + m) es h).in_front;
      };
      rewritten = omega arith;
      appended = omega arith;
    }

-- what stands between others is a table's entries
pub middle_sound : (a b c : List EntryIndex) → AreTableEntries (a ++ b ++ c) → AreTableEntries b
middle_sound a b c h =
    let n = length (a ++ b) in
    subst AreTableEntries (drop_at a b (length a) refl) (AreTableEntries-drop (length a) (a ++ b) (subst AreTableEntries (take_at (a ++ b) c n refl) (AreTableEntries-take n (a ++ b ++ c) h)))

pub behind_sound : (a b c : List EntryIndex) → AreTableEntries (a ++ b ++ c) → AreTableEntries (b ++ c)
behind_sound a b c h = subst AreTableEntries (drop_at a (b ++ c) (length a) refl) (AreTableEntries-drop (length a) (a ++ (b ++ c)) (subst AreTableEntries (append_assoc a b c) h))

pub below_is : (i s : ℕ) (es : List EntryIndex) → RisesFrom s es → below i es ≡ take (i - s) es
below_is i s es h =
    elim (cases_lt i s) [
      | inl l ↦ below_start i s es h (omega arith) ∙ ap (λ k. take k es) (let e : 0 ≡ i - s = omega arith in e)
      | inr l ↦ below_take i (i - s) s es (omega arith) h
    ]

pub from_is : (i s : ℕ) (es : List EntryIndex) → RisesFrom s es → from i es ≡ drop (i - s) es
from_is i s es h =
    elim (cases_lt i s) [
      | inl l ↦ from_start i s es h (omega arith) ∙ ap (λ k. drop k es) (let e : 0 ≡ i - s = omega arith in e)
      | inr l ↦ from_drop i (i - s) s es (omega arith) h
    ]

pub below_zero : (es : List EntryIndex) → below 0 es ≡ []
unfolding below
below_zero [] = refl
below_zero (e ∷ es) = let t : ltb e.index 0 ≡ false = grind (arith, nat_tests) in rw t (below_zero es)

pub rewritten_none : (gate : Option ℕ) (es : List EntryIndex) → entries_after_rewrite gate [] es ≡ Some es
unfolding end_of from
rewritten_none gate es = rw (below_zero es) refl

pub run_rising : (q : LogQueue) (run : List EntryIndex) → IsRunIn q run → RisesFrom (start_of run) run
run_rising q run r = rises run r.consecutive.run

pub run_end : (q : LogQueue) (run : List EntryIndex) → IsRunIn q run → 0 < length run → end_of run ≡ start_of run + length run
run_end q run r l = end_of-run (start_of run) run (run_rising q run r) l

-- the meeting entries as a part of the entries
pub meeting_is : (q : LogQueue) (run es : List EntryIndex) → AreTableEntries es → IsRunIn q run → 0 < length run → overlap run es ≡ drop (start_of run - start_of es) (take (start_of run + length run - start_of es) es)
meeting_is q run es h r l =
    let s = start_of es in
    let x = start_of run in
    rw (run_end q run r l, below_is (x + length run) s es (sound_rising es h))
    (from_is x s (take (x + length run - s) es) (RisesFrom-take (x + length run - s) s es (sound_rising es h)))

pub meeting_apart : (q : LogQueue) (run es : List EntryIndex) → AreTableEntries es → IsRunIn q run → 0 < length run → AreDisjoint (start_of es) (length es) (start_of run) (length run) → overlap run es ≡ []
meeting_apart q run es h r l a =
    let s = start_of es in
    let x = start_of run in
    let e = length-take (x + length run - s) es in
    nil_from_length _ (ap length (meeting_is q run es h r l) ∙ length-drop (x - s) (take (x + length run - s) es) ∙ omega arith)

-- a rewriting that meets no entries
pub rewritten_apart : (gate : Option ℕ) (q : LogQueue) (run es : List EntryIndex) → AreTableEntries es → IsRunIn q run → 0 < length run →
    AreDisjoint (start_of es) (length es) (start_of run) (length run) → entries_after_rewrite gate run es ≡ Some es
rewritten_apart gate q run es h r l a = ap (rewritten_from gate run es) (meeting_apart q run es h r l a)

pub recounted_is : (gate : Option ℕ) (run es : List EntryIndex) (counts : Counts) → 0 < length run → counts_after_rewrite gate run es counts ≡ with_rewritten gate (length run) (moved_count gate run es) counts
recounted_is gate [] es counts l = absurd (omega arith)
recounted_is gate (e ∷ run) es counts l = refl

none_deleted : (n : ℕ) (c : Counts) → with_deleted Rewrite (n - 0) (with_deleted Append 0 c) ≡ with_deleted Rewrite n c
none_deleted n c =
    let a : n - 0 ≡ n = omega arith in
    let b : c.append - 0 ≡ c.append = omega arith in
    rw (a, b) refl

pub with_rewritten_none : (gate : Option ℕ) (n : ℕ) (counts : Counts) → with_rewritten gate n 0 counts ≡ with_deleted Rewrite n (with_added Rewrite n counts)
with_rewritten_none (Some gate) n counts = none_deleted n (with_added Rewrite n counts)
with_rewritten_none None n counts = refl

pub recounted_apart : (gate : Option ℕ) (q : LogQueue) (run es : List EntryIndex) (counts : Counts) → AreTableEntries es → IsRunIn q run →
    0 < length run → AreDisjoint (start_of es) (length es) (start_of run) (length run) →
    counts_after_rewrite gate run es counts ≡ with_deleted Rewrite (length run) (with_added Rewrite (length run) counts)
recounted_apart gate q run es counts h r l a =
    recounted_is gate run es counts l
    ∙ ap (λ met. with_rewritten gate (length run) (prefix_len (may_move gate) met) counts) (meeting_apart q run es h r l a)
    ∙ with_rewritten_none gate (length run) counts

-- a rewriting that meets entries, told by the first of them
rewritten_at : (gate : Option ℕ) (run es met : List EntryIndex) (i : ℕ) → 0 < length met → start_of met ≡ i →
    rewritten_from gate run es met ≡ cond (is_misplaced gate (length (below i es)) (entry_count Rewrite es)) None
    (Some (with_places run i (moved_count gate run es) es))
rewritten_at gate run es [] i l e = absurd (omega arith)
rewritten_at gate run es (x ∷ met) i l e = rw e refl

-- the places of a run that meet
abbrev pub places_of : List EntryIndex → ℕ → ℕ → List EntryIndex
places_of run skipped count = take (skipped + count - skipped) (drop skipped run)

abbrev pub moves_of : Option ℕ → List EntryIndex → List EntryIndex → ℕ → ℕ → ℕ → ℕ
moves_of gate run es at skipped count = prefix_len (may_move gate) (drop at (take (at + length (places_of run skipped count)) es))

pub record RewritesAt (gate : Option ℕ) (run es : List EntryIndex) (at skipped count : ℕ) : Type 0 where
  pub within : at + length (places_of run skipped count) ≤ length es
  pub shorter : length (places_of run skipped count) ≤ length run
  pub rising : RisesFrom (start_of es + at) (places_of run skipped count)
  pub placed : placed_in Rewrite (places_of run skipped count) ≡ places_of run skipped count
  pub refused : is_misplaced gate at (entry_count Rewrite es) ≡ true → entries_after_rewrite gate run es ≡ None
  pub ok : is_misplaced gate at (entry_count Rewrite es) ≡ false →
      entries_after_rewrite gate run es ≡ Some
      (take at es ++ take (moves_of gate run es at skipped count) (places_of run skipped count) ++ drop (at + moves_of gate run es at skipped count)
      es)
  pub counts : moved_count gate run es ≡ moves_of gate run es at skipped count

pub rewrites_at : (gate : Option ℕ) (run es : List EntryIndex) (m : Overlap) → AreTableEntries es → IsRunIn Rewrite run → 0 < length run →
    IsOverlap (start_of es) (length es) (start_of run) (length run) m → RewritesAt gate run es m.at m.skipped m.count
rewrites_at gate run es m h r l x =
    let s = start_of es in
    let y = start_of run in
    let at = m.at in
    let skipped = m.skipped in
    let count = m.count in
    let inside : at + count ≤ length es = omega arith in
    let sub : skipped + count - skipped ≡ count = omega arith in
    let len : length (places_of run skipped count) ≡ count = rw sub (length-take-le count (drop skipped run) (omega (arith, length-drop skipped run))) in
    let place : y + skipped ≡ s + at = omega arith in
    let cut : overlap run es ≡ drop at (take (at + count) es) =
    meeting_is Rewrite run es h r l
    ∙ ap (λ k. drop k (take (y + length run - s) es)) (let e : y - s ≡ at = omega arith in e)
    ∙ ap (drop at) (sym (take_min (y + length run - s) es) ∙ ap (λ k. take k es) (let e : min (y + length run - s) (length es) ≡ at + count = omega arith in e)) in
    let same : moved_count gate run es ≡ moves_of gate run es at skipped count = rw (cut, len) refl in
    let metlen : length (overlap run es) ≡ count = rw cut (length-drop at (take (at + count) es) ∙ omega (arith, length-take-le (at + count) es inside)) in
    let head : start_of (overlap run es) ≡ s + at =
    rw cut (start-of_rising (s + at) (drop at (take (at + count) es))
    (RisesFrom-drop at s (take (at + count) es) (RisesFrom-take (at + count) s es (sound_rising es h))
    (omega (arith, length-take-le (at + count) es inside))) (omega (arith, ap length cut))) in
    let under : below (s + at) es ≡ take at es = below_take (s + at) at s es refl (sound_rising es h) in
    let underlen : length (below (s + at) es) ≡ at = rw under (length-take-le at es (omega arith)) in
    let whole : entries_after_rewrite gate run es ≡ cond (is_misplaced gate (length (below (s + at) es)) (entry_count Rewrite es)) None
    (Some (with_places run (s + at) (moved_count gate run es) es)) = rewritten_at gate run es (overlap run es) (s + at) (omega arith) head in
    let k = moved_count gate run es in
    let few : k ≤ count = omega (arith, prefix_len-le-length (may_move gate) (overlap run es)) in
    let mine : from (s + at) run ≡ drop skipped run = from_drop (s + at) skipped y run (omega arith) (run_rising Rewrite run r) in
    let behind : from (s + at + k) es ≡ drop (at + k) es = from_drop (s + at + k) (at + k) s es (omega arith) (sound_rising es h) in
    let front : take k (drop skipped run) ≡ take k (places_of run skipped count) = sym (take-take k (skipped + count - skipped) (drop skipped run) (omega arith)) in
    let spelled : with_places run (s + at) k es ≡ take at es ++ take k (places_of run skipped count) ++ drop (at + k) es = rw (under, mine, behind, front) refl in
    record {
      within = omega arith;
      shorter = omega arith;
      rising = rw (← place) (RisesFrom-take (skipped + count - skipped) (y + skipped) (drop skipped run) (RisesFrom-drop skipped y run (run_rising Rewrite run r) (omega arith)));
      placed = placed_in-take Rewrite (skipped + count - skipped) (drop skipped run) (placed_in-drop Rewrite skipped run (each_placed Rewrite run r.placed));
      refused = λ t. whole ∙ rw (underlen, t) refl;
      ok = λ t. whole ∙ rw (underlen, t) (ap (λ z. Some z) (rw (← same) spelled));
      counts = same;
    }

pub none_gone : (c : Counts) → c ≡ counts_without [] c
unfolding placed_in
none_gone c =
    let a : c.append ≡ c.append - 0 = omega arith in
    let d : c.deleted ≡ c.deleted + 0 = omega arith in
    ap (λ n. record { append = n; written = c.written; deleted = c.deleted }) a ∙ ap (λ n. record { append = c.append - 0; written = c.written; deleted = n }) d

-- where nothing stands below an index, nothing goes
pub none_below : (c : Counts) (i : ℕ) (es : List EntryIndex) → below i es ≡ [] → c ≡ counts_without (below i es) c
none_below c i es e = rw e (none_gone c)

-- where nothing stands from an index on, nothing goes
pub none_above : (c : Counts) (i : ℕ) (es : List EntryIndex) → from i es ≡ [] → c ≡ counts_without (from i es) c
none_above c i es e = rw e (none_gone c)

pub same_deleted : (c one new : Counts) (r a s b : ℕ) → one ≡ with_deleted Rewrite r c → new ≡ with_deleted Append a one → r ≡ s → a ≡ b → new ≡ with_deleted Rewrite s (with_deleted Append b c)
same_deleted c one new r a s b e f g h = rw (← g, ← h) (f ∙ ap (with_deleted Append a) e)

-- the entries from a start on are those behind the ones below it
pub from_rest : (i n : ℕ) (es : List EntryIndex) → AreTableEntries es → below i es ≡ take n es → n ≤ length es → from i es ≡ drop n es
from_rest i n es h e l =
    let t = ap length (sym (below_is i (start_of es) es (sound_rising es h)) ∙ e) in
    let m : min (i - start_of es) (length es) ≡ n = omega (arith, t, length-take (i - start_of es) es, length-take-le n es l) in
    from_is i (start_of es) es (sound_rising es h) ∙ sym (drop_min (i - start_of es) es) ∙ ap (λ j. drop j es) m

-- the counts with a run that joins the entries, stands in front of them, or behind a hole
pub counts_joined : (q : LogQueue) (es run : List EntryIndex) (n : ℕ) (c new : Counts) → AreTableEntries es → 0 < length run →
    leaves_hole es (start_of run) ≡ false → below (start_of run) es ≡ take n es → n ≤ length es →
    new ≡ with_added q (length run) (counts_without (drop n es) c) → new ≡ counts_with_run q es run c
counts_joined q es [] n c new h l f e k w = absurd (omega arith)
counts_joined q es (x ∷ run) n c new h l f e k w = rw (f, from_rest x.index n es h e k) w

-- a run behind so many entries that stay
pub record IsReplay (rule : LogQueue) (es run : List EntryIndex) (n : ℕ) : Type 0 where
  pub within : n ≤ length es
  pub after : entries_after_replay rule es run ≡ Some (take n es ++ run)
  pub gone : replaced_by es run ≡ drop n es

pub is_replay : (rule : LogQueue) (es run : List EntryIndex) (n : ℕ) → AreTableEntries es → 0 < length run → IsKeptUnder rule es (start_of run) n → IsReplay rule es run n
is_replay rule es [] n h l k = absurd (omega arith)
is_replay rule es (e ∷ run) n h l (inl j) = record {
  within = j.1;
  after = by_rule rule;
  gone = rw j.2 (from_rest e.index n es h j.0 j.1);
}
  where
    by_rule : (rule : LogQueue) → entries_after_replay rule es (e ∷ run) ≡ Some (take n es ++ e ∷ run)
    by_rule Append = rw (j.2, j.0) refl
    by_rule Rewrite = rw (j.2, j.0) refl
is_replay rule es (e ∷ run) n h l (inr (inl f)) = subst (IsReplay rule es (e ∷ run)) (sym f.0) (record {
  within = omega arith;
  after = by_rule rule;
  gone = rw f.1.1 (from_rest e.index 0 es h f.1.0 (omega arith));
})
  where
    by_rule : (rule : LogQueue) → entries_after_replay rule es (e ∷ run) ≡ Some (e ∷ run)
    by_rule Append = rw (f.1.1, f.1.0) refl
    by_rule Rewrite = rw (f.1.1, f.1.0) refl
is_replay rule es (e ∷ run) n h l (inr (inr b)) = subst (IsReplay rule es (e ∷ run)) (sym b.0) (record {
  within = omega arith;
  after = ap (λ q. entries_after_replay q es (e ∷ run)) b.1 ∙ (rw b.2.0 refl);
  gone = rw b.2.0 refl;
})

pub sound_under : (rule q : LogQueue) (es run : List EntryIndex) (n : ℕ) → AreTableEntries es → MayJoin q es → IsRunIn q run → 0 < length run → IsKeptUnder rule es (start_of run) n → AreTableEntries (take n es ++ run)
sound_under rule q es run n h m r l (inl j) = sound_joined q n es run h m r l j
sound_under rule q es run n h m r l (inr (inl f)) = subst (λ k. AreTableEntries (take k es ++ run)) (sym f.0) (sound_run q run r)
sound_under rule q es run n h m r l (inr (inr b)) = subst (λ k. AreTableEntries (take k es ++ run)) (sym b.0) (sound_run q run r)

pub counts_under : (rule q : LogQueue) (es run : List EntryIndex) (n : ℕ) (c new : Counts) → 0 < length run → IsReplay rule es run n → new ≡ with_added q (length run) (counts_without (drop n es) c) → new ≡ counts_with_run q es run c
counts_under rule q es [] n c new l h w = absurd (omega arith)
counts_under rule q es (e ∷ run) n c new l h w = w ∙ ap (λ xs. with_added q (length (e ∷ run)) (counts_without xs c)) (sym h.gone)

-- those behind a front are counted with the others
pub few_behind : (q : LogQueue) (n : ℕ) (es : List EntryIndex) (c : Counts) → AreCounted es c → entry_count q (drop n es) ≤ live q c
few_behind q n es c h = omega (arith, h q, entry_count-cut q n es)

-- a run of one queue in place of those behind a front, where there is no room for it
pub full_behind : (q : LogQueue) (c : Counts) (n : ℕ) (es run : List EntryIndex) (a r m : ℕ) → 2 ^ 64 + of_queue q a r ≤ live q c + m →
    r ≡ entry_count Rewrite (drop n es) → a ≡ entry_count Append (drop n es) → m ≡ length run → placed_in q run ≡ run →
    2 ^ 64 + entry_count q es ≤ live q c + entry_count q (take n es ++ run)
full_behind q c n es run a r m h e f l k =
    let o : of_queue q a r ≡ entry_count q (drop n es) = each_queue (λ p. of_queue p a r ≡ entry_count p (drop n es)) f e q in
    omega (arith, entry_count-append q (take n es) run, ap length k, entry_count-cut q n es)

pub recounted_behind : (q : LogQueue) (c new : Counts) (n : ℕ) (es run after : List EntryIndex) (a r m : ℕ) →
    ((p : LogQueue) → live p new + of_queue p a r ≡ live p c + count_in p q m) → r ≡ entry_count Rewrite (drop n es) →
    a ≡ entry_count Append (drop n es) → m ≡ length run → placed_in q run ≡ run → after ≡ take n es ++ run → AreRecounted es after c new
recounted_behind q c new n es run after a r m h e f l k w p =
    let o : of_queue p a r ≡ entry_count p (drop n es) = each_queue (λ x. of_queue x a r ≡ entry_count x (drop n es)) f e p in
    let t : entry_count p after ≡ entry_count p (take n es) + count_in p q m =
    ap (entry_count p) w ∙ entry_count-append p (take n es) run ∙ ap (λ x. entry_count p (take n es) + x) (entries_in_one p q run k ∙ ap (count_in p q) (sym l)) in
    omega (arith, h p, entry_count-cut p n es)
