-- Tables whose places were rewritten.
use Rattle.raft_contexts.proofs.Common.{◌≡◌, ℕ, zero, suc, ◌+◌, ◌-◌, ◌≤◌, ◌<◌, Bool, true, false, if◌then◌else◌, cond, List, [], ◌∷◌, ◌++◌, length, take, drop, filter, Some, inl, inr, refl, sym, ap, subst, ◌∙◌, arith, append_assoc}
use Rattle.raft_contexts.proofs.Common.{length-drop, length-take-le, drop-drop, some_is, AllByRecursion, nat_lt, nat_le, EntryIndex, RisesFrom, IsRun, end_of, IsRunIn, is_placed_in, below, from, overlap, with_places, moved_count, may_move}
use Rattle.raft_contexts.proofs.Common.{rewritten_from, entries_after_rewrite, leaves_hole, entries_after_append, entries_after_replay, AreMovedEntries, max, Option, None, length-take, Append, Rewrite, misses, start_of, accepted}
use Rattle.raft_contexts.proofs.Common.{below_take, from_drop, hole_end, rises, end_of-run, RisesFrom-take, RisesFrom-drop, IsMovedEntry}
use Rattle.std.proofs.lemmas.List.Sums.{prefix_len-le-length}
use Rattle.raft_table.proofs.RewriteLemmas.{below_is, from_is}
use Rattle.raft_contexts.proofs.AppendedLemmas.{run_replays}

pub moved_self : (es : List EntryIndex) → AreMovedEntries es es
moved_self [] = tt
moved_self (e ∷ es) = ((refl, inl refl), moved_self es)

-- what holds of no entries, and of one more on both sides
by_entries : (P : List EntryIndex → List EntryIndex → Type 0) → P [] [] → ((k e : EntryIndex) (ks es : List EntryIndex) → IsMovedEntry k e → P ks es → P (k ∷ ks) (e ∷ es))
    → (ks es : List EntryIndex) → AreMovedEntries ks es → P ks es
by_entries P none more [] [] h = none
by_entries P none more [] (e ∷ es) h = absurd h
by_entries P none more (k ∷ ks) [] h = absurd h
by_entries P none more (k ∷ ks) (e ∷ es) h = more k e ks es h.0 (by_entries P none more ks es h.1)

moved_front : (run ks es : List EntryIndex) → AreMovedEntries ks es → AreMovedEntries (ks ++ run) (es ++ run)
moved_front run = by_entries (λ ks es. AreMovedEntries (ks ++ run) (es ++ run)) (moved_self run) (λ k e ks es m rest. (m, rest))

moved_rises : (ks es : List EntryIndex) → AreMovedEntries ks es → (s : ℕ) → RisesFrom s es → RisesFrom s ks
moved_rises = by_entries (λ ks es. (s : ℕ) → RisesFrom s es → RisesFrom s ks) (λ s r. tt) (λ k e ks es m rest s r. (m.0 ∙ r.0, rest (suc s) r.1))

moved_length : (ks es : List EntryIndex) → AreMovedEntries ks es → length ks ≡ length es
moved_length = by_entries (λ ks es. length ks ≡ length es) refl (λ k e ks es m n. omega (arith, n))

moved_end : (ks es : List EntryIndex) → AreMovedEntries ks es → end_of ks ≡ end_of es
unfolding end_of
moved_end = by_entries (λ ks es. end_of ks ≡ end_of es) refl (λ k e ks es m n. ap (λ (i : ℕ). max (suc i) (end_of ks)) m.0 ∙ ap (max (suc e.index)) n)

-- a test of indexes lets the same entries through
moved_filter : (p : ℕ → Bool) (ks es : List EntryIndex) → AreMovedEntries ks es → AreMovedEntries (filter (λ e. p e.index) ks) (filter (λ e. p e.index) es)
moved_filter p = by_entries (λ ks es. AreMovedEntries (filter (λ e. p e.index) ks) (filter (λ e. p e.index) es)) tt
    (λ k e ks es m rest. subst (λ (b : Bool). AreMovedEntries (cond b (k ∷ filter (λ e. p e.index) ks) (filter (λ e. p e.index) ks)) (filter (λ e. p e.index) (e ∷ es))) (sym (ap p m.0))
    (go k e (filter (λ e. p e.index) ks) (filter (λ e. p e.index) es) m rest (p e.index)))
  where
    go : (k e : EntryIndex) (ks es : List EntryIndex) → IsMovedEntry k e → AreMovedEntries ks es → (b : Bool) → AreMovedEntries (cond b (k ∷ ks) ks) (cond b (e ∷ es) es)
    go k e ks es m rest true = (m, rest)
    go k e ks es m rest false = rest

pub moved_below : (i : ℕ) (ks es : List EntryIndex) → AreMovedEntries ks es → AreMovedEntries (below i ks) (below i es)
unfolding below
moved_below i ks es h = moved_filter (λ n. nat_lt n i) ks es h

pub moved_from : (i : ℕ) (ks es : List EntryIndex) → AreMovedEntries ks es → AreMovedEntries (from i ks) (from i es)
unfolding from
moved_from i ks es h = moved_filter (λ n. nat_le i n) ks es h

pub moved_run : (ks es run new : List EntryIndex) → AreMovedEntries ks es → entries_after_append ks run ≡ Some new
    → (after : List EntryIndex) × (entries_after_replay Append es run ≡ Some after) × AreMovedEntries new after
moved_run ks es [] new h a = (es, refl, subst (λ (l : List EntryIndex). AreMovedEntries l es) (some_is a) h)
moved_run ks es (e ∷ run) new h a =
    let k = accepted (leaves_hole ks e.index) (below e.index ks ++ e ∷ run) new (run_replays ks (e ∷ run) new a) in
    let hole = hole_end es e.index ∙ sym (ap (misses (Some e.index)) (moved_end ks es h)) ∙ sym (hole_end ks e.index) ∙ k.0 in (
      below e.index es ++ e ∷ run,
      ap (λ (b : Bool). if b then None else Some (below e.index es ++ e ∷ run)) hole,
      subst (λ (l : List EntryIndex). AreMovedEntries l (below e.index es ++ e ∷ run)) k.1 (moved_front (e ∷ run) (below e.index ks) (below e.index es) (moved_below e.index ks es h)),
    )

-- rewritten entries in the place of as many in front
in_front : (s : ℕ) (mid ks es : List EntryIndex) → AreMovedEntries ks es → RisesFrom s es → RisesFrom s mid → length mid ≤ length es
    → AllByRecursion (λ (e : EntryIndex). is_placed_in Rewrite e ≡ true) mid → AreMovedEntries (mid ++ drop (length mid) ks) es
in_front s [] ks es h r m l placed = h
in_front s (x ∷ mid) ks [] h r m l placed = absurd (omega (arith, l))
in_front s (x ∷ mid) [] (e ∷ es) h r m l placed = absurd h
in_front s (x ∷ mid) (k ∷ ks) (e ∷ es) h r m l placed = ((m.0 ∙ sym r.0, inr placed.0), in_front (suc s) mid ks es h.1 r.1 m.1 (omega (arith, l)) placed.1)

-- or behind d entries
in_middle : (d s : ℕ) (mid ks es : List EntryIndex) → AreMovedEntries ks es → RisesFrom s es → RisesFrom (s + d) mid → d + length mid ≤ length es
    → AllByRecursion (λ (e : EntryIndex). is_placed_in Rewrite e ≡ true) mid → AreMovedEntries (take d ks ++ (mid ++ drop (length mid) (drop d ks))) es
in_middle zero s mid ks es h r m l placed = in_front s mid ks es h r (subst (λ (n : ℕ). RisesFrom n mid) (let e : s + 0 ≡ s = omega arith in e) m) (omega (arith, l)) placed
in_middle (suc d) s mid ks [] h r m l placed = absurd (omega (arith, l))
in_middle (suc d) s mid [] (e ∷ es) h r m l placed = absurd h
in_middle (suc d) s mid (k ∷ ks) (e ∷ es) h r m l placed =
    (h.0, in_middle d (suc s) mid ks es h.1 r.1 (subst (λ (n : ℕ). RisesFrom n mid) (let e : s + suc d ≡ suc s + d = omega arith in e) m) (omega (arith, l)) placed)

each_take : (P : EntryIndex → Type 0) (n : ℕ) (es : List EntryIndex) → AllByRecursion P es → AllByRecursion P (take n es)
each_take P zero es h = tt
each_take P (suc n) [] h = tt
each_take P (suc n) (e ∷ es) h = (h.0, each_take P n es h.1)

each_drop : (P : EntryIndex → Type 0) (n : ℕ) (es : List EntryIndex) → AllByRecursion P es → AllByRecursion P (drop n es)
each_drop P zero es h = h
each_drop P (suc n) [] h = tt
each_drop P (suc n) (e ∷ es) h = each_drop P n es h.1

run_end : (run : List EntryIndex) → IsRun run → end_of run ≡ start_of run + length run
unfolding end_of
run_end [] h = refl
run_end (e ∷ run) h = end_of-run e.index (e ∷ run) (refl, h) (omega arith)

-- entries at the places of a run of the rewrite queue
pub entries_rewritten : (gate : Option ℕ) (run ks es new : List EntryIndex) → AreMovedEntries ks es → IsRun es → IsRunIn Rewrite run → entries_after_rewrite gate run ks ≡ Some new → AreMovedEntries new es
entries_rewritten gate run ks es new h own asked e = go (overlap run ks) refl e
  where
    moves : (m : EntryIndex) (met : List EntryIndex) → overlap run ks ≡ m ∷ met → AreMovedEntries (with_places run m.index (moved_count gate run ks) ks) es
    moves m met is =
        let s = start_of es in
        let a = start_of run in
        let n = moved_count gate run ks in
        let i = m.index in
        let d = i - s in
        let front = take (end_of run - s) ks in
        let kept : RisesFrom s ks = moved_rises ks es h s (rises es own) in
        let runs : RisesFrom a run = rises run asked.consecutive.run in
        let cut : overlap run ks ≡ drop (a - s) front = ap (from a) (below_is (end_of run) s ks kept) ∙ from_is a s front (RisesFrom-take (end_of run - s) s ks kept) in
        let met_is : drop (a - s) front ≡ m ∷ met = sym cut ∙ is in
        let met_length : length front - (a - s) ≡ length (m ∷ met) = sym (length-drop (a - s) front) ∙ ap length met_is in
        let wide = length-take (end_of run - s) ks in
        let ends = run_end run asked.consecutive.run in
        let some : 0 < length (m ∷ met) = omega arith in
        let first : RisesFrom (s + (a - s)) (m ∷ met) = subst (RisesFrom (s + (a - s))) met_is (RisesFrom-drop (a - s) s front (RisesFrom-take (end_of run - s) s ks kept) (omega (arith, met_length, some))) in
        let at : i ≡ s + (a - s) = first.0 in
        let few : n ≤ length (m ∷ met) = subst (λ (l : List EntryIndex). n ≤ length l) is (prefix_len-le-length (may_move gate) (overlap run ks)) in
        let fits : n ≤ length run - (i - a) = omega (arith, few, met_length, wide, ends, at) in
        let places : from i run ≡ drop (i - a) run = from_is i a run runs in
        let mid = take n (drop (i - a) run) in
        let size : length mid ≡ n = length-take-le n (drop (i - a) run) (omega (arith, fits, length-drop (i - a) run)) in
        let inside : d + length mid ≤ length es = omega (arith, size, few, met_length, wide, at, moved_length ks es h) in
        let there : a + (i - a) ≡ s + d = omega (arith, at) in
        let rising : RisesFrom (s + d) mid = RisesFrom-take n (s + d) (drop (i - a) run)
        (subst (λ (k : ℕ). RisesFrom k (drop (i - a) run)) there (RisesFrom-drop (i - a) a run runs (omega (arith, fits, few, met_length, wide, ends, at, some)))) in
        let placed = each_take (λ (e : EntryIndex). is_placed_in Rewrite e ≡ true) n (drop (i - a) run) (each_drop (λ (e : EntryIndex). is_placed_in Rewrite e ≡ true) (i - a) run asked.placed) in
        let older : below i ks ≡ take d ks = below_take i d s ks (omega (arith, at)) kept in
        let newer : from (i + n) ks ≡ drop (length mid) (drop d ks) = from_drop (i + n) (d + n) s ks (omega (arith, at)) kept ∙ sym (drop-drop n d ks) ∙ ap (λ (k : ℕ). drop k (drop d ks)) (sym size) in
        subst (λ (l : List EntryIndex). AreMovedEntries l es)
        (sym (append_assoc (below i ks) (take n (from i run)) (from (i + n) ks) ∙ ap (λ (l : List EntryIndex). l ++ (take n (from i run) ++ from (i + n) ks)) older
        ∙ ap (λ (l : List EntryIndex). take d ks ++ (take n l ++ from (i + n) ks)) places ∙ ap (λ (l : List EntryIndex). take d ks ++ (mid ++ l)) newer))
        (in_middle d s mid ks es h (rises es own) rising inside placed)

    go : (met : List EntryIndex) → overlap run ks ≡ met → rewritten_from gate run ks met ≡ Some new → AreMovedEntries new es
    go [] is k = subst (λ (l : List EntryIndex). AreMovedEntries l es) (some_is k) h
    go (m ∷ met) is k = subst (λ (l : List EntryIndex). AreMovedEntries l es) (accepted _ (with_places run m.index (moved_count gate run ks) ks) new k).1 (moves m met is)
