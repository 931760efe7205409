-- Where a run starts among the entries, and what is joined there.
use Rattle.raft_table.proofs.Common.{◌≡◌, ℕ, zero, suc, ◌+◌, ◌-◌, ◌<◌, ◌≤◌, false, ltb, List, [], ◌∷◌, ◌++◌, length, take, Some, refl, sym, ap, ◌∙◌, arith, append-nil, append_assoc, nil_from_length, length-take-le, nat_tests, LogQueue}
use Rattle.raft_table.proofs.Common.{EntryIndex, RisesFrom, end_of, run_of, end_bounded, bounded_of, IsRunIn, AreTableEntries, RewrittenInFront, start_of, below, placed_in, entry_count, misses, starts_in_front, IsStart, other, Append}
use Rattle.raft_table.proofs.Common.{Rewrite, Bool, true, get_or, drop, subst, Option, None, option_map_or, drop-take, take-append-drop, get_or-take, get_or-drop, take-take, length-drop, FileBlockHandle, CompressionType, entries_of_block}
use Rattle.raft_table.proofs.Common.{spans_of, All, All-append, All-weaker, filter_passes, is_same, is_placed_in}
use Rattle.raft_table.specs.declared.memtable.entries.Start.TheVariants.{Joins, InFront, BehindHole}
use Rattle.raft_table.proofs.RunLemmas.{hole_end, below_take, below_start, end_of-run, end_of-take, end_of-append, RisesFrom-take, rises, RisesFrom-append, placed_in-append, RisesFrom-drop, index_at}
use Rattle.raft_table.proofs.PlaceLemmas.{placed_in_other, placed_each, each_placed, entry_count-cut}
use Rattle.raft_table.proofs.SoundLemmas.{sound_rising, AreTableEntries-take}
use Rattle.raft_base.specs.declared.compression_type.CompressionType.TheVariants as compression

-- the end of a table's entries, where there are some
pub sound_end : (es : List EntryIndex) → AreTableEntries es → 0 < length es → end_of es ≡ start_of es + length es
sound_end es h l = end_of-run (start_of es) es (sound_rising es h) l

pub front_test : (es : List EntryIndex) (i : ℕ) → 0 < length es → starts_in_front es i ≡ ltb i (start_of es)
front_test [] i l = absurd (omega arith)
front_test (e ∷ es) i l = refl

pub start_none : (i : ℕ) → IsStart [] i (Joins 0)
unfolding below end_of
start_none i = (refl, omega arith, refl, refl)

pub start_in_front : (i : ℕ) (es : List EntryIndex) → AreTableEntries es → 0 < length es → i < start_of es → IsStart es i InFront
start_in_front i es h l k =
    let e = sound_end es h l in
    (below_start i (start_of es) es (sound_rising es h) (omega arith), hole_end es i ∙ rw e (grind (arith, nat_tests)), front_test es i l ∙ grind (arith, nat_tests))

pub start_behind : (i : ℕ) (es : List EntryIndex) → AreTableEntries es → 0 < length es → start_of es + length es < i → IsStart es i BehindHole
start_behind i es h l k =
    let e = sound_end es h l in
    (hole_end es i ∙ rw e (grind (arith, nat_tests)), front_test es i l ∙ grind (arith, nat_tests))

pub start_joins : (i n : ℕ) (es : List EntryIndex) → AreTableEntries es → 0 < length es → i ≡ start_of es + n → n ≤ length es → IsStart es i (Joins n)
start_joins i n es h l k m =
    let e = sound_end es h l in
    (below_take i n (start_of es) es k (sound_rising es h), m, hole_end es i ∙ rw e (grind (arith, nat_tests)), front_test es i l ∙ grind (arith, nat_tests))

-- a run without appended entries in front, or of appended entries
pub in_front_appended : (a run : List EntryIndex) → RewrittenInFront a → placed_in Append run ≡ run → RewrittenInFront (a ++ run)
in_front_appended a run h k =
    let none : placed_in Rewrite run ≡ [] = ap (placed_in Rewrite) (sym k) ∙ placed_in_other Append Rewrite refl run in
    ap (λ xs. xs ++ run) h ∙ append_assoc (placed_in Rewrite a) (placed_in Append a) run
    ∙ sym (rw (placed_in-append Rewrite a run, placed_in-append Append a run, none, k) (ap (λ xs. xs ++ (placed_in Append a ++ run)) (append-nil (placed_in Rewrite a))))

pub in_front_rewritten : (a run : List EntryIndex) → RewrittenInFront a → placed_in Append a ≡ [] → placed_in Rewrite run ≡ run → RewrittenInFront (a ++ run)
in_front_rewritten a run h n k =
    let none : placed_in Append run ≡ [] = ap (placed_in Append) (sym k) ∙ placed_in_other Rewrite Append refl run in
    let whole : placed_in Rewrite a ≡ a = sym (h ∙ ap (λ xs. placed_in Rewrite a ++ xs) n ∙ append-nil (placed_in Rewrite a)) in
    sym (rw (placed_in-append Rewrite a run, placed_in-append Append a run, none, n, k, whole) (append-nil (a ++ run)))

-- a run in front of nothing is a table's entries by itself
pub sound_run : (q : LogQueue) (run : List EntryIndex) → IsRunIn q run → AreTableEntries run
sound_run Append run r = record {
  consecutive = r.consecutive;
  in_front = sym (rw (ap (placed_in Rewrite) (sym (each_placed Append run r.placed)) ∙ placed_in_other Append Rewrite refl run) (each_placed Append run r.placed));
}
sound_run Rewrite run r = record {
  consecutive = r.consecutive;
  in_front = sym (rw (ap (placed_in Append) (sym (each_placed Rewrite run r.placed)) ∙ placed_in_other Rewrite Append refl run, each_placed Rewrite run r.placed) (append-nil run));
}

-- no appended entries among those that a run of the rewrite queue joins
abbrev pub MayJoin : LogQueue → List EntryIndex → Type 0
MayJoin Append es = Unit {0}
MayJoin Rewrite es = entry_count Append es ≡ 0

pub in_front_joined : (q : LogQueue) (n : ℕ) (es run : List EntryIndex) → AreTableEntries es → MayJoin q es → placed_in q run ≡ run → RewrittenInFront (take n es ++ run)
in_front_joined Append n es run h m k = in_front_appended (take n es) run (AreTableEntries-take n es h).in_front k
in_front_joined Rewrite n es run h m k =
    let c = entry_count-cut Append n es in
    in_front_rewritten (take n es) run (AreTableEntries-take n es h).in_front (nil_from_length _ (omega arith)) k

-- where the front of the entries ends that stands below a start among them
pub start_place : (i n : ℕ) (es : List EntryIndex) → AreTableEntries es → 0 < n → IsStart es i (Joins n) → i ≡ start_of es + n
start_place i n es h p s =
    let l : 0 < length es = let k = s.1 in omega arith in
    let e = sound_end es h l in
    let f : start_of es ≤ i = let t : ltb i (start_of es) ≡ false = sym (front_test es i l) ∙ s.3 in grind (arith, nat_tests) in
    let g : i ≤ start_of es + length es = let t : misses (Some i) (start_of es + length es) ≡ false = rw e at (sym (hole_end es i) ∙ s.2) in grind (arith, nat_tests) in
    let t = ap length (sym s.0 ∙ below_take i (i - start_of es) (start_of es) es (omega arith) (sound_rising es h)) in
    omega (arith, t, length-take-le n es s.1, length-take-le (i - start_of es) es (omega arith))

pub sound_joined : (q : LogQueue) (n : ℕ) (es run : List EntryIndex) → AreTableEntries es → MayJoin q es → IsRunIn q run → 0 < length run → IsStart es (start_of run) (Joins n) → AreTableEntries (take n es ++ run)
sound_joined q zero es run h m r l s = sound_run q run r
sound_joined q (suc n) es run h m r l s =
    let k = suc n in
    let p : start_of run ≡ start_of es + k = start_place (start_of run) k es h (omega arith) s in
    let t : length (take k es) ≡ k = length-take-le k es s.1 in
    let rr : RisesFrom (start_of run) run = rises run r.consecutive.run in
    let top = end_of-take k es in
    let both = end_of-append (take k es) run in
    let a = end_bounded es h.consecutive.bounded in
    let b = end_bounded run r.consecutive.bounded in
    record {
      consecutive = record {
        run = run_of (start_of es) (take k es ++ run) (RisesFrom-append (start_of es) (take k es) run (RisesFrom-take k (start_of es) es (sound_rising es h)) (rw (t, ← p) rr));
        bounded = bounded_of (take k es ++ run) (omega arith);
      };
      in_front = in_front_joined q k es run h m (each_placed q run r.placed);
    }

-- a table's entries with nothing in the other queue are a run of its queue
pub run_alone : (q : LogQueue) (es : List EntryIndex) → AreTableEntries es → entry_count (other q) es ≡ 0 → IsRunIn q es
run_alone Append es h n = record {
  consecutive = h.consecutive;
  placed = placed_each Append es (sym (h.in_front ∙ ap (λ xs. xs ++ placed_in Append es) (nil_from_length (placed_in Rewrite es) n)));
}
run_alone Rewrite es h n = record {
  consecutive = h.consecutive;
  placed = placed_each Rewrite es (sym (h.in_front ∙ ap (λ xs. placed_in Rewrite es ++ xs) (nil_from_length (placed_in Append es) n) ∙ append-nil (placed_in Rewrite es)));
}

pub may_join : (q : LogQueue) (es : List EntryIndex) → (q ≡ Rewrite → entry_count Append es ≡ 0) → MayJoin q es
may_join Append es h = tt
may_join Rewrite es h = h refl

abbrev pub has_block : Option FileBlockHandle → Bool
has_block None = false
has_block (Some b) = true

placed_has : (q : LogQueue) (e : EntryIndex) → is_placed_in q e ≡ true → has_block e.entries ≡ true
unfolding is_placed_in
placed_has q e h = (elim e.entries as (λ o. option_map_or (λ (place : FileBlockHandle). is_same place.id.queue q) o false ≡ true → has_block o ≡ true) [ None ↦ λ h. cc | Some b ↦ λ h. refl ]) h

pub has_place : (es : List EntryIndex) (j : ℕ) (d : EntryIndex) → AreTableEntries es → j < length es → (get_or es j d).entries ≡ None → ⊥
unfolding placed_in
has_place es j d h l n =
    let P = λ (e : EntryIndex). has_block e.entries ≡ true in
    let all = subst (All P) (sym h.in_front) (All-append P (placed_in Rewrite es) (placed_in Append es)
    (All-weaker (λ e. is_placed_in Rewrite e ≡ true) P (placed_has Rewrite) (placed_in Rewrite es) (filter_passes (is_placed_in Rewrite) es))
    (All-weaker (λ e. is_placed_in Append e ≡ true) P (placed_has Append) (placed_in Append es) (filter_passes (is_placed_in Append) es))) in
    let f : false ≡ true = rw n at (all j d l) in
    cc

only : (c : CompressionType) → c ≡ compression.None
only compression.None = refl

head_is : (x : ℕ) (h : FileBlockHandle) (e : EntryIndex) → e.index ≡ x → e.entries ≡ Some h → record { index = x; entries = Some h; compression_type = compression.None; entry_offset = e.entry_offset; entry_len = e.entry_len } ≡ e
head_is x h e i b = ap (λ y. make y (Some h) compression.None) (sym i) ∙ ap (λ y. make e.index y compression.None) (sym b) ∙ ap (λ y. make e.index e.entries y) (sym (only e.compression_type))
  where
    make : ℕ → Option FileBlockHandle → CompressionType → EntryIndex
    make i b c = record { index = i; entries = b; compression_type = c; entry_offset = e.entry_offset; entry_len = e.entry_len }

-- entries of one block, told by their spans
pub group_is : (x : ℕ) (h : FileBlockHandle) (g : List EntryIndex) → RisesFrom x g → ((j : ℕ) (d : EntryIndex) → j < length g → (get_or g j d).entries ≡ Some h) → entries_of_block x h (spans_of g) ≡ g
group_is x h [] r a = refl
group_is x h (e ∷ g) r a =
    let first = head_is x h e r.0 (a 0 e (omega arith)) in
    let rest = group_is (suc x) h g r.1 (λ j d l. a (suc j) d (omega arith)) in
    rw (first, rest) refl

-- a group of a run's entries behind the first ones
pub group_of : (run : List EntryIndex) (at n : ℕ) (h : FileBlockHandle) (d : EntryIndex) → AreTableEntries run → at + n ≤ length run →
    at < length run → ((j : ℕ) (e : EntryIndex) → at ≤ j → j < at + n → (get_or run j e).entries ≡ Some h) →
    take at run ++ entries_of_block (get_or run at d).index h (spans_of (take (at + n - at) (drop at run))) ≡ take (at + n) run
group_of run at n h d s l m a =
    let up = sound_rising run s in
    let i = index_at at (start_of run) run d m up in
    let sub : at + n - at ≡ n = omega arith in
    let cut : drop at (take (at + n) run) ≡ take n (drop at run) = drop-take at n run in
    let rise : RisesFrom (start_of run + at) (take n (drop at run)) = RisesFrom-take n (start_of run + at) (drop at run) (RisesFrom-drop at (start_of run) run up (omega arith)) in
    let len : length (take n (drop at run)) ≡ n = length-take-le n (drop at run) (omega (arith, length-drop at run)) in
    let group = group_is (start_of run + at) h (take n (drop at run)) rise (λ j e k. ap (λ (y : EntryIndex). y.entries) (get_or-take n (drop at run) j e (omega arith) ∙ get_or-drop at run j e) ∙ a (at + j) e (omega arith) (omega arith)) in
    let whole : take at run ≡ take at (take (at + n) run) = sym (take-take at (at + n) run (omega arith)) in
    rw (sub, i, group) (ap (λ xs. take at run ++ xs) (sym cut) ∙ ap (λ xs. xs ++ drop at (take (at + n) run)) whole ∙ take-append-drop at (take (at + n) run))

pub not_nil : (es : List EntryIndex) → (es ≡ [] → ⊥) → 0 < length es
not_nil [] h = absurd (h refl)
not_nil (e ∷ es) h = omega arith
