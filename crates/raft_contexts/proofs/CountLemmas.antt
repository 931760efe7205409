-- How many region marks there are, kept or implied, and how many deleted keys they hold.
use Rattle.raft_contexts.proofs.Common.{at_drop_more, ◌≡◌, ◌≤◌, ◌<◌, ◌+◌, ℕ, true, false, filter, is_none, cond, List, [], ◌∷◌, ◌++◌, length, drop, Option, Some, None, refl, sym, ap, ◌∙◌, arith, slice_index_or}
use Rattle.raft_contexts.proofs.Common.{is_sorted, keys_of, is_some, option_map, option_or, EntryIndex, mark_of, Mark, Run, Table, find-below, first_of_both, second_of_both, Marks, total, Tables, found, total-insert, total-none, total-ones}
use Rattle.raft_contexts.proofs.Common.{total-at_most, total-both, slot_entries, together, AreSlots, same, none_some, Once, entries-permuted, once-slots, drop-none, added, added-append, added-permuted, implied_mark, implied_marks}
use Rattle.raft_contexts.proofs.Common.{T, nat_cmp, eq_by_cmp, nat_cmp_total, find, all_marks, absent_in, count_absent}
use Rattle.std.specs.FinMap as finite
use Rattle.std.specs.FinSet as finset
use Rattle.raft_contexts.proofs.ImpliedMarkLemmas.{get_implied, get_all, get_kept}

abbrev deleted : Mark → ℕ
deleted m = finset.len m.deleted

none_deleted : (es : List EntryIndex) → deleted (mark_of (Run es)) ≡ 0
none_deleted [] = finset.len-empty _
none_deleted (e ∷ es) = finset.len-empty _

found_implied : (o : Option Table) → found deleted (option_map implied_mark o) ≡ 0
found_implied None = refl
found_implied (Some t) = none_deleted t.entries

pub deleted_kept : (tables : Tables) (kept : Marks) → total (λ (m : Mark). finset.len m.deleted) kept ≡ total (λ (m : Mark). finset.len m.deleted) (all_marks tables kept)
deleted_kept tables kept = omega (arith, least, most, none, total-none deleted)
  where
    either : (a : Option Mark) (b : Option Mark) → found deleted (option_or a b) ≤ found deleted a + found deleted b
    either None b = omega arith
    either (Some m) b = omega arith

    most : total deleted (all_marks tables kept) ≤ total deleted kept + total deleted (implied_marks tables)
    most = total-both deleted (all_marks tables kept) kept (implied_marks tables)
        (λ r. omega (arith, ap (found deleted) (get_all tables kept r), either (finite.get kept r) (option_map implied_mark (finite.get tables r)), ap (found deleted) (get_implied tables r)))

    none : total deleted (implied_marks tables) ≤ total deleted (finite.empty {K = ℕ} {X = Mark} {R = nat_cmp}) + total deleted (finite.empty {K = ℕ} {X = Mark} {R = nat_cmp})
    none = total-both deleted (implied_marks tables) finite.empty finite.empty (λ r. omega (arith, ap (found deleted) (get_implied tables r), found_implied (finite.get tables r)))

    least : total deleted kept ≤ total deleted (all_marks tables kept)
    least = total-at_most deleted deleted kept (all_marks tables kept) (λ r x e. (x, get_kept tables kept r x e, omega arith))

-- kept region marks put over others one after another
abbrev put_over : List (ℕ × Mark) → Marks → Marks
put_over [] m = m
put_over (e ∷ es) m = finite.insert (put_over es m) e.0 e.1

get_over : (es : List (ℕ × Mark)) (m : Marks) (r : ℕ) → finite.get (put_over es m) r ≡ option_or (find nat_cmp r es) (finite.get m r)
get_over [] m r = refl
get_over (e ∷ es) m r = finite.get-insert nat_cmp_total (put_over es m) e.0 e.1 r
    ∙ elim (eq_by_cmp nat_cmp r e.0) as (λ b. cond b (Some e.1) (finite.get (put_over es m) r) ≡ option_or (cond b (Some e.1) (find nat_cmp r es)) (finite.get m r)) [ true ↦ refl | false ↦ get_over es m r ]

all_over : (tables : Tables) (kept : Marks) → all_marks tables kept ≡ put_over (finite.entries kept) (implied_marks tables)
all_over tables kept = same _ _
    (λ r. get_all tables kept r ∙ ap (λ o. option_or o (option_map implied_mark (finite.get tables r))) (finite.get-entries kept r) ∙ ap (option_or (find nat_cmp r (finite.entries kept))) (sym (get_implied tables r))
    ∙ sym (get_over (finite.entries kept) (implied_marks tables) r))

pub absent_next : (tables : Tables) (id : ℕ) (ids : List ℕ) → count_absent tables (id ∷ ids) ≡ absent_in tables id + count_absent tables ids
absent_next tables id ids = go (finite.get tables id) (filter (λ id. is_none (finite.get tables id)) ids)
  where
    go : (o : Option Table) (xs : List ℕ) → length (cond (is_none o) (id ∷ xs) xs) ≡ cond (is_some o) 0 1 + length xs
    go None xs = omega arith
    go (Some t) xs = omega arith

len_over : (tables : Tables) (es : List (ℕ × Mark)) → T (is_sorted nat_cmp es) → finite.len (put_over es (implied_marks tables)) ≡ finite.len (implied_marks tables) + count_absent tables (keys_of es)
len_over tables [] s = omega arith
len_over tables (e ∷ es) s = omega (
  arith,
  absent_next tables e.0 (keys_of es),
  len_over tables es (second_of_both _ _ s),
  total-insert (λ (m : Mark). 1) over e.0 e.1,
  total-ones (finite.insert over e.0 e.1),
  total-ones over,
  ap (found (λ (m : Mark). 1)) here,
  one (finite.get tables e.0),
)
  where
    over : Marks
    over = put_over es (implied_marks tables)

    here : finite.get over e.0 ≡ option_map implied_mark (finite.get tables e.0)
    here = get_over es (implied_marks tables) e.0 ∙ ap (λ o. option_or o (finite.get (implied_marks tables) e.0)) (find-below nat_cmp_total e.0 es (first_of_both _ _ s)) ∙ get_implied tables e.0

    one : (o : Option Table) → found (λ (m : Mark). 1) (option_map implied_mark o) + cond (is_some o) 0 1 ≡ 1
    one None = refl
    one (Some t) = refl

len_implied : (tables : Tables) → finite.len (implied_marks tables) ≡ finite.len tables
len_implied tables = omega (
  arith,
  total-ones (implied_marks tables),
  total-ones tables,
  total-at_most (λ (m : Mark). 1) (λ (t : Table). 1) (implied_marks tables) tables (λ r x e. go r x (finite.get tables r) refl (sym (get_implied tables r) ∙ e)),
  total-at_most (λ (t : Table). 1) (λ (m : Mark). 1) tables (implied_marks tables) (λ r t e. (implied_mark t, get_implied tables r ∙ ap (option_map implied_mark) e, omega arith)),
)
  where
    go : (r : ℕ) (x : Mark) (o : Option Table) → finite.get tables r ≡ o → option_map implied_mark (finite.get tables r) ≡ Some x → (t : Table) × (finite.get tables r ≡ Some t) × (1 ≤ 1)
    go r x None is e = absurd (none_some (sym (ap (option_map implied_mark) is) ∙ e))
    go r x (Some t) is e = (t, is, omega arith)

pub len_all : (tables : Tables) (kept : Marks) → finite.len tables + count_absent tables (keys_of (finite.entries kept)) ≡ finite.len (all_marks tables kept)
len_all tables kept = omega (arith, ap finite.len (all_over tables kept), len_over tables (finite.entries kept) (finite.entries_sorted kept), len_implied tables)

-- ---- regions without a table

absent_added : (tables : Tables) (es : List (ℕ × Mark)) → count_absent tables (keys_of es) ≡ added (λ (e : ℕ × Mark). absent_in tables e.0) es
absent_added tables [] = refl
absent_added tables (e ∷ es) = absent_next tables e.0 (keys_of es) ∙ ap (λ n. absent_in tables e.0 + n) (absent_added tables es)

pub absent_permuted : (tables : Tables) (es : List (ℕ × Mark)) → Once es → count_absent tables (keys_of es) ≡ count_absent tables (keys_of (finite.entries (finite.from_entries {R = nat_cmp} es)))
absent_permuted tables es once = absent_added tables es ∙ added-permuted (λ (e : ℕ × Mark). absent_in tables e.0) es _ (entries-permuted es once) ∙ sym (absent_added tables _)

pub absent_one : (tables : Tables) (id : ℕ) → absent_in tables id ≤ 1
absent_one tables id = go (finite.get tables id)
  where
    go : (o : Option Table) → cond (is_some o) 0 1 ≤ 1
    go None = omega arith
    go (Some t) = omega arith

-- one slot more
pub absent_more : (tables : Tables) (ms : List Marks) (i k : ℕ) (d : Marks) → k ≡ i + 1 → i < length ms → d ≡ slice_index_or ms i d →
    count_absent tables (keys_of (slot_entries (drop i ms))) ≡ count_absent tables (keys_of (finite.entries d)) + count_absent tables (keys_of (slot_entries (drop k ms)))
absent_more tables ms i k d e lt is =
    let weight = λ (e : ℕ × Mark). absent_in tables e.0 in
    omega (
      arith,
      absent_added tables (slot_entries (drop i ms)),
      absent_added tables (finite.entries d),
      absent_added tables (slot_entries (drop k ms)),
      ap (added weight) (at_drop_more (λ (l : List Marks). slot_entries l) ms i d lt ∙ ap (λ m. finite.entries m ++ slot_entries (drop (i + 1) ms)) (sym is) ∙ ap (λ n. finite.entries d ++ slot_entries (drop n ms)) (sym e)),
      added-append weight (finite.entries d) (slot_entries (drop k ms)),
    )

pub absent_all : (tables : Tables) (ms : List Marks) (m : Marks) → AreSlots 0 ms → together ms ≡ m → count_absent tables (keys_of (slot_entries ms)) ≡ count_absent tables (keys_of (finite.entries m))
unfolding together
absent_all tables ms m s is = absent_permuted tables (slot_entries ms) (once-slots 0 ms s) ∙ ap (λ x. count_absent tables (keys_of (finite.entries x))) is

pub no_more : (tables : Tables) (ms : List Marks) (i : ℕ) → length ms ≤ i → count_absent tables (keys_of (slot_entries (drop i ms))) ≡ 0
no_more tables ms i le = ap (λ es. count_absent tables (keys_of es)) (drop-none ms i le)
