-- Newer tables joined or overlaid, each under the region mark that it implies.
use Rattle.raft_contexts.proofs.Common.{or-false, ◌≡◌, ◌≢◌, ℕ, Bool, true, false, cond, ◌||◌, List, [], ◌∷◌, ◌++◌, append-nil, Option, Some, None, refl, sym, ap, ◌∙◌, arith, is_some, option_map, EntryIndex, LogQueue, Append, Rewrite}
use Rattle.raft_contexts.proofs.Common.{end_of, joined_at, end_at_reach, mark_of, entries_within, misses, entries_over, keys_over, atomic_group_over, table_over, is_there_over, there_if, table_over_older, leaves_hole, entries_after_replay}
use Rattle.raft_contexts.proofs.Common.{Run, table_of, Table, start_of, below, joined_fresh, within-whole, within-below, hole_end, Marks, Tables, with_table, table_in, none_some, some_is, implied_mark, all_marks, first_index, mark_in}
use Rattle.raft_contexts.proofs.Common.{IsRunKept}
use Rattle.std.specs.FinMap as finite
use Rattle.raft_accessor.specs.TableJoins.{AreEndsMet}
use Rattle.raft_contexts.proofs.ImpliedMarkLemmas.{of_run, replayed_alone, replayed_within, run_all, unmarked_all}

-- ---- one table over an older one

-- under the region mark of one run, the run is as if it were read again
meets : (f : ℕ) (o : List EntryIndex) → misses (Some f) (end_of (entries_within 0 None o)) ≡ leaves_hole o f
meets f o = ap (λ es. misses (Some f) (end_of es)) (within-whole o) ∙ sym (hole_end o f)

either_behind : (b : Bool) (a run : List EntryIndex) → cond b [] a ++ run ≡ cond b run (a ++ run)
either_behind true a run = refl
either_behind false a run = refl

run_over : (q : LogQueue) (e : EntryIndex) (run o : List EntryIndex) → entries_over q (mark_of (Run (e ∷ run))) (e ∷ run) o ≡ entries_after_replay q o (e ∷ run)
run_over Append e run o = rw (meets e.index o, within-below, or-false (leaves_hole o e.index)) refl
run_over Rewrite e run o = rw (meets e.index o, within-below) (ap (λ x. Some x) (either_behind (leaves_hole o e.index) (below e.index o) (e ∷ run)))

-- without entries nothing changes
none_over : (q : LogQueue) (o : List EntryIndex) → entries_over q (mark_of (Run [])) [] o ≡ Some o
none_over Append o = ap (λ x. Some x) (append-nil (entries_within 0 None o) ∙ within-whole o)
none_over Rewrite o = ap (λ x. Some x) (append-nil (entries_within 0 None o) ∙ within-whole o)

-- the entries of both tables
entries_joined : (q : LogQueue) (newer older t : Table) → table_over q (implied_mark newer) newer older ≡ Some t → entries_over q (implied_mark newer) newer.entries older.entries ≡ Some t.entries
entries_joined q newer older t is = go (entries_over q (implied_mark newer) newer.entries older.entries) is
  where
    go : (o : Option (List EntryIndex)) →
        option_map {U = Table} (λ es. record older { entries = es; keys = keys_over (implied_mark newer) newer.keys older.keys; atomic_group = atomic_group_over (implied_mark newer) newer.atomic_group older.atomic_group }) o ≡ Some
        t → o ≡ Some t.entries
    go None e = absurd (none_some e)
    go (Some es) e = ap (λ (x : Table). Some x.entries) (some_is e)

uncleaned : (es : List EntryIndex) → (mark_of (Run es)).cleaned ≡ false
uncleaned [] = refl
uncleaned (e ∷ es) = refl

-- the table is there
table_joined : (q : LogQueue) (id : ℕ) (newer : Table) (older next : Option Table) → table_over_older q id (implied_mark newer) (Some newer) older ≡ Some next →
    (t : Table) × (next ≡ Some t) × (table_over q (implied_mark newer) newer (table_of id older) ≡ Some t)
table_joined q id newer older next is = go (table_over q (implied_mark newer) newer (table_of id older)) refl
  where
    there : is_there_over (implied_mark newer) (Some newer) older ≡ true
    there = ap (λ b. cond b true (true || is_some older)) (uncleaned newer.entries)

    go : (o : Option Table) → table_over q (implied_mark newer) newer (table_of id older) ≡ o → (t : Table) × (next ≡ Some t) × (table_over q (implied_mark newer) newer (table_of id older) ≡ Some t)
    go None e = absurd (none_some (sym (ap (there_if (is_there_over (implied_mark newer) (Some newer) older)) e) ∙ is))
    go (Some t) e = (t, sym (some_is (sym (ap (there_if (is_there_over (implied_mark newer) (Some newer) older)) e ∙ ap (λ b. there_if b (Some t)) there) ∙ is)), e)

-- where the own entries end that the implied region mark meets
pub end_implied : (newer older : Table) (end : ℕ) → end ≡ end_of older.entries → end ≡ end_at_reach (implied_mark newer) older
end_implied newer older end e = e ∙ go newer.entries
  where
    go : (l : List EntryIndex) → end_of older.entries ≡ end_at_reach (mark_of (Run l)) older
    go [] = ap end_of (sym (within-whole older.entries))
    go (x ∷ l) = ap end_of (sym (within-whole older.entries))

-- the region marks of both
module _ (q : LogQueue) (id : ℕ) (tables next : Tables) (kept new : Marks) (newer : Table) (ends : ℕ × ℕ) (one : next ≡ with_table tables id (finite.get next id))
    (is : table_over_older q id (implied_mark newer) (Some newer) (finite.get tables id) ≡ Some (finite.get next id)) (met : AreEndsMet (implied_mark newer) (table_in tables id) ends) where
  from : ends.0 ≡ start_of (table_in tables id).entries
  from = ap (λ (p : ℕ × ℕ). p.0) met.ends

  to : ends.1 ≡ end_of (table_in tables id).entries
  to = ap (λ (p : ℕ × ℕ). p.1) met.ends ∙ sym (end_implied newer (table_in tables id) (end_of (table_in tables id).entries) refl)

  abbrev own_entries : List EntryIndex
  own_entries = (table_in tables id).entries

  joined : (t : Table) × (finite.get next id ≡ Some t) × (table_over q (implied_mark newer) newer (table_in tables id) ≡ Some t)
  joined = table_joined q id newer (finite.get tables id) (finite.get next id) is

  -- with entries
  replayed : (own : List EntryIndex) (first : ℕ) → first_index own ≡ Some first → entries_over q (mark_of (Run own)) own own_entries ≡ Some joined.0.entries → entries_after_replay q own_entries own ≡ Some joined.0.entries
  replayed [] first e k = absurd (none_some e)
  replayed (x ∷ own) first e k = sym (run_over q x own own_entries) ∙ k

  pub joined_run : (first : ℕ) → first_index newer.entries ≡ Some first → IsRunKept q id ends.0 ends.1 first kept new →
      all_marks next new ≡ finite.insert (all_marks tables kept) id (joined_at q ends.1 (mark_in (all_marks tables kept) id) (implied_mark newer))
  joined_run first first_is h =
      let k : entries_after_replay q own_entries newer.entries ≡ Some joined.0.entries = replayed newer.entries first first_is (entries_joined q newer (table_in tables id) joined.0 joined.2) in
      run_all q id tables next kept new joined.0 ends.0 ends.1 first one joined.1 from to
      (λ e. replayed_alone q own_entries newer.entries joined.0.entries first first_is k (omega (arith, e, to)))
      (λ some low high. replayed_within q own_entries newer.entries joined.0.entries first met.run first_is k (omega (arith, some, to)) (omega (arith, low, from)) (omega (arith, high, to))) h
      ∙ ap (λ m. finite.insert (all_marks tables kept) id (joined_at q ends.1 (mark_in (all_marks tables kept) id) m)) (sym (of_run newer.entries first first_is))

  -- without
  pub joined_blank : newer.entries ≡ [] → new ≡ kept → all_marks next new ≡ finite.insert (all_marks tables kept) id (joined_at q ends.1 (mark_in (all_marks tables kept) id) (implied_mark newer))
  joined_blank blank same_marks =
      let k : Some own_entries ≡ Some joined.0.entries = sym (none_over q own_entries) ∙ ap (λ l. entries_over q (mark_of (Run l)) l own_entries) (sym blank) ∙ entries_joined q newer (table_in tables id) joined.0 joined.2 in
      ap (all_marks next) same_marks
      ∙ unmarked_all id tables next kept joined.0 one joined.1 (ap (λ (l : List EntryIndex). mark_of (Run l)) (sym (some_is k)))
      ∙ ap (finite.insert (all_marks tables kept) id) (sym (joined_fresh q ends.1 (mark_in (all_marks tables kept) id)) ∙ ap (λ (l : List EntryIndex). joined_at q ends.1 (mark_in (all_marks tables kept) id) (mark_of (Run l))) (sym blank))

-- the first index of entries
pub first_of_entries : (es : List EntryIndex) (i : ℕ) → (es ≢ []) × (i ≡ start_of es) → first_index es ≡ Some i
first_of_entries [] i h = absurd (h.0 refl)
first_of_entries (e ∷ es) i h = ap (λ x. Some x) (sym h.1)
