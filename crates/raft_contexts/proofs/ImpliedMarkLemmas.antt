-- Region marks that are kept, and those that tables imply.
use Rattle.raft_contexts.proofs.Common.{◌≡◌, ℕ, zero, suc, ◌-◌, ◌<◌, ◌≤◌, ◌≢◌, ltb, true, false, cond, List, [], ◌∷◌, ◌++◌, map, take, Option, Some, None, Result, Ok, Err, refl, sym, ap, subst, ◌∙◌, inl, inr, arith, nat_cmp, eq_by_cmp}
use Rattle.raft_contexts.proofs.Common.{nat_cmp_total, find, is_some, option_map, option_or, unwrap_or, OnOk, OnErr, AllocError, false≢true, nat_tests, EntryIndex, LogQueue, Append, Rewrite, IsRun, end_of, FileId, fresh, joined_at}
use Rattle.raft_contexts.proofs.Common.{joined_mark, end_at_reach, mark_of, Mark, leaves_hole, entries_after_replay, Run, Put, table_of, after_step, Table, with_pair, after_replay, start_of, below, joined_fresh, end_of-nil, run_covered}
use Rattle.raft_contexts.proofs.Common.{Marks, MarkedRegions, no_regions, Tables, with_table, table_in, same, by_id, none_some, some_is, get_own, get_other, insert_same, insert_twice, with_other, one_same, one_written, find-both}
use Rattle.raft_contexts.proofs.Common.{implied_mark, implied_marks, all_marks, first_index, mark_in, run_at, IsImpliedStill, IsRunKept, below_take}
use Rattle.std.specs.FinMap as finite
use Rattle.raft_contexts.proofs.SlotMarksLemmas.{first_run}
use Rattle.raft_contexts.proofs.TakenLemmas.{run_mark}

pub find-map : {X Y : Type 0} (f : X → Y) (r : ℕ) (es : List (ℕ × X)) → find nat_cmp r (map (λ e. (e.0, f e.1)) es) ≡ option_map f (find nat_cmp r es)
find-map f r [] = refl
find-map f r (e ∷ es) = elim (eq_by_cmp nat_cmp r e.0) as (λ b. cond b (Some (f e.1)) (find nat_cmp r (map (λ e. (e.0, f e.1)) es)) ≡ option_map f (cond b (Some e.1) (find nat_cmp r es))) [
  | true ↦ refl
  | false ↦ find-map f r es
]

pub get_implied : (tables : Tables) (r : ℕ) → finite.get (implied_marks tables) r ≡ option_map implied_mark (finite.get tables r)
unfolding implied_marks
get_implied tables r =
    finite.get-from_entries nat_cmp_total (map (λ e. (e.0, implied_mark e.1)) (finite.entries tables)) r
    ∙ find-map implied_mark r (finite.entries tables)
    ∙ ap (option_map implied_mark) (sym (finite.get-entries tables r))

pub get_all : (tables : Tables) (kept : Marks) (r : ℕ) → finite.get (all_marks tables kept) r ≡ option_or (finite.get kept r) (option_map implied_mark (finite.get tables r))
unfolding all_marks
get_all tables kept r =
    finite.get-from_entries nat_cmp_total (finite.entries kept ++ finite.entries (implied_marks tables)) r
    ∙ find-both r (finite.entries kept) (finite.entries (implied_marks tables))
    ∙ ap (λ o. option_or o (find nat_cmp r (finite.entries (implied_marks tables)))) (sym (finite.get-entries kept r))
    ∙ ap (option_or (finite.get kept r)) (sym (finite.get-entries (implied_marks tables) r) ∙ get_implied tables r)

abbrev no_tables : Tables
no_tables = finite.empty

abbrev no_marks : Marks
no_marks = finite.empty

all_none : all_marks no_tables no_marks ≡ no_marks
all_none =
    same _ _ (λ r. get_all no_tables no_marks r
    ∙ ap (λ (o : Option Mark). option_or o (option_map implied_mark (finite.get no_tables r))) (finite.get-empty nat_cmp r)
    ∙ ap (λ (o : Option Table). option_map implied_mark o) (finite.get-empty nat_cmp r) ∙ sym (finite.get-empty nat_cmp r))

pub regions_none : (tables : Tables) (kept : Marks) → tables ≡ no_tables → kept ≡ no_marks → ◌≡◌ {A = MarkedRegions} record { tables = tables; marks = all_marks tables kept } no_regions
regions_none tables kept t k = rw (t, k) (ap (λ (x : Marks). record { tables = no_tables; marks = x }) all_none)

-- a region mark that is kept
pub get_kept : (tables : Tables) (kept : Marks) (id : ℕ) (m : Mark) → finite.get kept id ≡ Some m → finite.get (all_marks tables kept) id ≡ Some m
get_kept tables kept id m e = get_all tables kept id ∙ ap (λ o. option_or o (option_map implied_mark (finite.get tables id))) e

-- one that is not
pub get_unkept : (tables : Tables) (kept : Marks) (id : ℕ) → finite.get kept id ≡ None → finite.get (all_marks tables kept) id ≡ option_map implied_mark (finite.get tables id)
get_unkept tables kept id e = get_all tables kept id ∙ ap (λ o. option_or o (option_map implied_mark (finite.get tables id))) e

pub mark_implied : (tables : Tables) (kept : Marks) (id : ℕ) → finite.get kept id ≡ None → mark_in (all_marks tables kept) id ≡ mark_of (Run (table_in tables id).entries)
mark_implied tables kept id e = ap (λ (o : Option Mark). unwrap_or o fresh) (get_unkept tables kept id e) ∙ go (finite.get tables id)
  where
    go : (o : Option Table) → unwrap_or (option_map implied_mark o) fresh ≡ mark_of (Run (table_of id o).entries)
    go None = refl
    go (Some t) = refl

pub mark_kept : (tables : Tables) (kept : Marks) (id : ℕ) → is_some (finite.get kept id) ≡ true → finite.get kept id ≡ Some (mark_in (all_marks tables kept) id)
mark_kept tables kept id h = go (finite.get kept id) refl h
  where
    go : (o : Option Mark) → finite.get kept id ≡ o → is_some o ≡ true → finite.get kept id ≡ Some (mark_in (all_marks tables kept) id)
    go None e k = absurd (false≢true k)
    go (Some m) e k = e ∙ ap (λ (o : Option Mark). Some (unwrap_or o fresh)) (sym (get_kept tables kept id m e))

pub not_kept : (kept : Marks) (id : ℕ) → is_some (finite.get kept id) ≡ false → finite.get kept id ≡ None
not_kept kept id h = go (finite.get kept id) h
  where
    go : (o : Option Mark) → is_some o ≡ false → o ≡ None
    go None k = refl
    go (Some m) k = absurd (false≢true (sym k))

-- ---- a table and its region mark

module _ (tables next : Tables) (id : ℕ) (one : next ≡ with_table tables id (finite.get next id)) where
  elsewhere : (q : ℕ) → eq_by_cmp nat_cmp q id ≡ false → finite.get next q ≡ finite.get tables q
  elsewhere q f = ap (λ t. finite.get t q) one ∙ with_other tables id q (finite.get next id) f

  -- the region mark is kept
  pub all_with : (kept : Marks) (m : Mark) → all_marks next (finite.insert kept id m) ≡ finite.insert (all_marks tables kept) id m
  all_with kept m = same _ _ (λ q. elim (by_id q id) [
    | inl p ↦ subst (λ q. finite.get (all_marks next (finite.insert kept id m)) q ≡ finite.get (finite.insert (all_marks tables kept) id m) q) (sym p)
        (get_kept next (finite.insert kept id m) id m (get_own kept id m) ∙ sym (get_own (all_marks tables kept) id m))
    | inr f ↦ get_all next (finite.insert kept id m) q ∙ ap (λ o. option_or o (option_map implied_mark (finite.get next q))) (get_other kept id q m f)
        ∙ ap (λ o. option_or (finite.get kept q) (option_map implied_mark o)) (elsewhere q f) ∙ sym (get_all tables kept q) ∙ sym (get_other (all_marks tables kept) id q m f)
  ])

  -- or implied
  pub all_implied : (kept : Marks) (t : Table) → finite.get kept id ≡ None → finite.get next id ≡ Some t → all_marks next kept ≡ finite.insert (all_marks tables kept) id (implied_mark t)
  all_implied kept t none is = same _ _ (λ q. elim (by_id q id) [
    | inl p ↦ subst (λ q. finite.get (all_marks next kept) q ≡ finite.get (finite.insert (all_marks tables kept) id (implied_mark t)) q) (sym p)
        (get_unkept next kept id none ∙ ap (option_map implied_mark) is ∙ sym (get_own (all_marks tables kept) id (implied_mark t)))
    | inr f ↦ get_all next kept q ∙ ap (λ o. option_or (finite.get kept q) (option_map implied_mark o)) (elsewhere q f) ∙ sym (get_all tables kept q) ∙ sym (get_other (all_marks tables kept) id q (implied_mark t) f)
  ])

-- what is implied is kept
pub all_kept : (tables : Tables) (kept : Marks) (id : ℕ) (m : Mark) → finite.get (all_marks tables kept) id ≡ Some m → all_marks tables (finite.insert kept id m) ≡ all_marks tables kept
all_kept tables kept id m e = all_with tables tables id (one_same tables tables id refl) kept m ∙ insert_same (all_marks tables kept) id m e

-- ---- entries and the region mark of one run of them

pub no_entries : (es : List EntryIndex) → end_of es ≡ 0 → es ≡ []
unfolding end_of
no_entries [] e = refl
no_entries (x ∷ es) e = absurd (omega (arith, e))

pub of_entries : (es : List EntryIndex) → 0 < end_of es → mark_of (Run es) ≡ run_at (start_of es)
of_entries [] h = absurd (omega (arith, h, end_of-nil))
of_entries (x ∷ es) h = refl

pub of_run : (run : List EntryIndex) (first : ℕ) → first_index run ≡ Some first → mark_of (Run run) ≡ run_at first
of_run [] first e = absurd (none_some e)
of_run (x ∷ run) first e = ap run_at (some_is e)

replayed : (q : LogQueue) (es : List EntryIndex) (e : EntryIndex) (run after : List EntryIndex) → leaves_hole es e.index ≡ false → entries_after_replay q es (e ∷ run) ≡ Some after → below e.index es ++ e ∷ run ≡ after
replayed Append es e run after reaches is = some_is (rw reaches at is)
replayed Rewrite es e run after reaches is = some_is (rw reaches at is)

-- a run that is put where there are no entries
pub replayed_alone : (q : LogQueue) (es run after : List EntryIndex) (first : ℕ) → first_index run ≡ Some first → entries_after_replay q es run ≡ Some after → end_of es ≡ 0 → mark_of (Run after) ≡ run_at first
unfolding below
replayed_alone q es [] after first f is none = absurd (none_some f)
replayed_alone q es (e ∷ run) after first f is none =
    ap (λ (l : List EntryIndex). mark_of (Run l)) (sym (replayed q [] e run after refl (ap (λ l. entries_after_replay q l (e ∷ run)) (sym (no_entries es none)) ∙ is))) ∙ ap run_at (some_is f)

-- a run that is put among entries or right behind them
pub replayed_within : (q : LogQueue) (es run after : List EntryIndex) (first : ℕ) → IsRun es → first_index run ≡ Some first → entries_after_replay q es run ≡ Some after →
    0 < end_of es → start_of es ≤ first → first ≤ end_of es → mark_of (Run after) ≡ mark_of (Run es)
replayed_within q es [] after first r f is some low high = absurd (none_some f)
replayed_within q [] (e ∷ run) after first r f is some low high = absurd (omega (arith, some, end_of-nil))
replayed_within q (x ∷ xs) (e ∷ run) after first r f is some low high =
    ap (λ (l : List EntryIndex). mark_of (Run l)) (sym (replayed q (x ∷ xs) e run after reaches is) ∙ ap (λ (l : List EntryIndex). l ++ e ∷ run) (below_take e.index (e.index - x.index) x.index (x ∷ xs) (omega (arith, at, low)) (refl, r))) ∙
    go (e.index - x.index) refl
  where
    at : e.index ≡ first
    at = some_is f

    reaches : leaves_hole (x ∷ xs) e.index ≡ false
    reaches = let k : ltb (end_of (x ∷ xs)) e.index ≡ false = grind (arith, nat_tests, at, high) in k

    go : (n : ℕ) → e.index - x.index ≡ n → mark_of (Run (take n (x ∷ xs) ++ e ∷ run)) ≡ run_at x.index
    go zero k = ap run_at (omega (arith, k, at, low))
    go (suc n) k = refl

-- ---- a region mark that is kept from now on

-- nothing is kept where there are no entries
pub kept_blank : (tables : Tables) (kept : Marks) (id : ℕ) → is_some (finite.get kept id) ≡ false → (table_in tables id).entries ≡ [] → mark_in kept id ≡ mark_in (all_marks tables kept) id
kept_blank tables kept id h blank =
    let none : finite.get kept id ≡ None = not_kept kept id h in
    ap (λ (o : Option Mark). unwrap_or o fresh) none ∙ sym (mark_implied tables kept id none ∙ ap (λ (l : List EntryIndex). mark_of (Run l)) blank)

module _ (tables : Tables) (kept new : Marks) (id start : ℕ) (t : Table) (r : Result (Unit {0}) AllocError) (h : is_some (finite.get kept id) ≡ false) (is : finite.get tables id ≡ Some t)
    (some : t.entries ≢ []) (from : start ≡ start_of t.entries) (ok : OnOk r (new ≡ finite.insert kept id (run_at start))) (err : OnErr r (new ≡ kept)) where
  there : finite.get (all_marks tables kept) id ≡ Some (run_at start)
  there = get_unkept tables kept id (not_kept kept id h) ∙ ap (option_map implied_mark) is ∙ ap Some (go t.entries some ∙ ap run_at (sym from))
    where
      go : (es : List EntryIndex) → es ≢ [] → mark_of (Run es) ≡ run_at (start_of es)
      go [] n = absurd (n refl)
      go (x ∷ es) n = refl

  pub kept_same : all_marks tables new ≡ all_marks tables kept
  kept_same = elim r as (λ r. OnOk r (new ≡ finite.insert kept id (run_at start)) → OnErr r (new ≡ kept) → all_marks tables new ≡ all_marks tables kept) [
    | Ok u ↦ λ e f. ap (all_marks tables) e ∙ all_kept tables kept id (run_at start) there
    | Err x ↦ λ e f. ap (all_marks tables) f
  ] ok err

  pub kept_now : OnOk r (mark_in new id ≡ mark_in (all_marks tables kept) id)
  kept_now = elim r as (λ r. OnOk r (new ≡ finite.insert kept id (run_at start)) → OnOk r (mark_in new id ≡ mark_in (all_marks tables kept) id)) [
    | Ok u ↦ λ e. ap (λ (o : Option Mark). unwrap_or o fresh) (ap (λ m. finite.get m id) e ∙ get_own kept id (run_at start) ∙ sym there)
    | Err x ↦ λ e. tt
  ] ok

-- a run is joined to what it meets, once that is kept
pub run_kept : (q : LogQueue) (id start end first : ℕ) (old mid new : Marks) (r : Result (Unit {0}) AllocError) → is_some (finite.get old id) ≡ false → 0 < end → mid ≡ finite.insert old id (run_at start) →
    OnOk r (new ≡ finite.insert mid id (joined_at q end (mark_in mid id) (run_at first))) → OnOk r (IsRunKept q id start end first old new)
run_kept q id start end first old mid new (Ok u) h some put e = record {
  by = inr (
    h,
    inr (
      some,
      e ∙ ap (λ m. finite.insert mid id (joined_at q end m (run_at first))) (ap (λ (o : Option Mark). unwrap_or o fresh) (ap (λ m. finite.get m id) put ∙ get_own old id (run_at start)))
          ∙ ap (λ m. finite.insert m id (joined_at q end (run_at start) (run_at first))) put ∙ insert_twice old id (run_at start) (joined_at q end (run_at start) (run_at first)),
    ),
  );
}
run_kept q id start end first old mid new (Err x) h some put e = tt

-- the entries that a run leaves
pub after_entries : (q : LogQueue) (t : Table) (run : List EntryIndex) (u : Table) → after_replay q t run ≡ Some u → entries_after_replay q t.entries run ≡ Some u.entries
after_entries q t run u is = go (entries_after_replay q t.entries run) is
  where
    go : (o : Option (List EntryIndex)) → option_map {U = Table} (λ es. record t { entries = es }) o ≡ Some u → o ≡ Some u.entries
    go None e = absurd (none_some e)
    go (Some es) e = ap (λ (x : Table). Some x.entries) (some_is e)

-- ---- a run and the region marks

module _ (q : LogQueue) (id : ℕ) (tables next : Tables) (kept new : Marks) (t : Table) (start end first : ℕ)
    (one : next ≡ with_table tables id (finite.get next id)) (is : finite.get next id ≡ Some t)
    (from : start ≡ start_of (table_in tables id).entries) (to : end ≡ end_of (table_in tables id).entries)
    (alone : end ≡ 0 → implied_mark t ≡ run_at first)
    (within : 0 < end → start ≤ first → first ≤ end → implied_mark t ≡ mark_of (Run (table_in tables id).entries)) where
  abbrev pub all : Marks
  all = all_marks tables kept

  was : finite.get kept id ≡ None → 0 < end → mark_in all id ≡ run_at start
  was none some = mark_implied tables kept id none ∙ of_entries (table_in tables id).entries (omega (arith, some, to)) ∙ ap run_at (sym from)

  -- what is implied stays so
  still : finite.get kept id ≡ None → IsImpliedStill start end first → implied_mark t ≡ joined_at q end (mark_in all id) (run_at first)
  still none (inl e) = alone e ∙ sym (first_run q end first)
      ∙ ap (λ m. joined_at q end m (run_at first)) (sym (mark_implied tables kept id none ∙ ap (λ (l : List EntryIndex). mark_of (Run l)) (no_entries (table_in tables id).entries (omega (arith, e, to)))))
  still none (inr h) = within h.0 h.1 h.2 ∙ sym (mark_implied tables kept id none) ∙ was none h.0 ∙ sym (run_covered q end first start start (run_at start) refl refl h.1 h.2 h.0)
      ∙ ap (λ m. joined_at q end m (run_at first)) (sym (was none h.0))

  pub run_all : IsRunKept q id start end first kept new → all_marks next new ≡ finite.insert all id (joined_at q end (mark_in all id) (run_at first))
  run_all h = elim h.by [
    | inl k ↦ ap (all_marks next) k.1 ∙ all_with tables next id one kept _ ∙ ap (λ m. finite.insert all id (joined_at q end m (run_at first))) (some_is (got (mark_kept tables kept id k.0) ∙ mark_kept tables kept id k.0))
    | inr k ↦ let none : finite.get kept id ≡ None = not_kept kept id k.0 in elim k.1 [
      | inl s ↦ ap (all_marks next) s.0 ∙ all_implied tables next id one kept t none is ∙ ap (finite.insert all id) (still none s.1)
      | inr s ↦ ap (all_marks next) s.1 ∙ all_with tables next id one kept _ ∙ ap (λ m. finite.insert all id (joined_at q end m (run_at first))) (sym (was none s.0))
    ]
  ]
    where
      got : {m : Mark} → finite.get kept id ≡ Some m → Some (mark_in kept id) ≡ finite.get kept id
      got e = ap (λ (o : Option Mark). Some (unwrap_or o fresh)) e ∙ sym e

-- a table with the entries that were there changes no region mark
pub unmarked_all : (id : ℕ) (tables next : Tables) (kept : Marks) (t : Table) → next ≡ with_table tables id (finite.get next id) → finite.get next id ≡ Some t → implied_mark t ≡ mark_of (Run (table_in tables id).entries)
    → all_marks next kept ≡ finite.insert (all_marks tables kept) id (mark_in (all_marks tables kept) id)
unmarked_all id tables next kept t one is still = elim (is_some (finite.get kept id)) as (λ b. is_some (finite.get kept id) ≡ b → all_marks next kept ≡ finite.insert (all_marks tables kept) id (mark_in (all_marks tables kept) id)) [
  | true ↦ λ k. ap (all_marks next) (sym (insert_same kept id (mark_in (all_marks tables kept) id) (mark_kept tables kept id k))) ∙ all_with tables next id one kept (mark_in (all_marks tables kept) id)
  | false ↦ λ k. let none : finite.get kept id ≡ None = not_kept kept id k in all_implied tables next id one kept t none is ∙ ap (finite.insert (all_marks tables kept) id) (still ∙ sym (mark_implied tables kept id none))
] refl

-- nor does a pair that is put
pub put_all : (q : LogQueue) (id : ℕ) (tables next : Tables) (kept : Marks) (key value : List ℕ) (file : FileId) → after_step q (table_of id (finite.get tables id)) (Put key value file) ≡ Some (finite.get next id)
    → next ≡ with_table tables id (finite.get next id)
    → all_marks next kept ≡ finite.insert (all_marks tables kept) id (joined_mark q id (mark_in (all_marks tables kept) id) (finite.get tables id) (mark_of (Put key value file)))
put_all q id tables next kept key value file is one =
    unmarked_all id tables next kept (with_pair (table_in tables id) key value file) one (sym (some_is is)) refl
    ∙ ap (finite.insert (all_marks tables kept) id) (sym (joined_fresh q (end_at_reach fresh (table_of id (finite.get tables id))) (mark_in (all_marks tables kept) id)))

-- a region mark that is joined to one that is kept
pub joined_all : (q : LogQueue) (id : ℕ) (tables next : Tables) (old kept new : Marks) (end : ℕ) (n m : Mark) → next ≡ with_table tables id (finite.get next id) → all_marks tables kept ≡ all_marks tables old →
    mark_in kept id ≡ mark_in (all_marks tables old) id → new ≡ finite.insert kept id (joined_at q end (mark_in kept id) n) → n ≡ m →
    all_marks next new ≡ finite.insert (all_marks tables old) id (joined_at q end (mark_in (all_marks tables old) id) m)
joined_all q id tables next old kept new end n m one unchanged now is e =
    ap (all_marks next) is ∙ all_with tables next id one kept (joined_at q end (mark_in kept id) n) ∙ ap (λ k. finite.insert k id (joined_at q end (mark_in kept id) n)) unchanged
    ∙ ap (λ k. finite.insert (all_marks tables old) id (joined_at q end k n)) now ∙ ap (λ k. finite.insert (all_marks tables old) id (joined_at q end (mark_in (all_marks tables old) id) k)) e

-- a run that is read again
pub replay_all : (q : LogQueue) (id : ℕ) (tables next : Tables) (kept new : Marks) (run : List EntryIndex) (start end first : ℕ) → IsRun (table_in tables id).entries → first_index run ≡ Some first →
    after_replay q (table_in tables id) run ≡ Some (table_in next id) → next ≡ finite.insert tables id (table_in next id) → start ≡ start_of (table_in tables id).entries → end ≡ end_of (table_in tables id).entries →
    IsRunKept q id start end first kept new → all_marks next new ≡ finite.insert (all_marks tables kept) id (joined_mark q id (mark_in (all_marks tables kept) id) (finite.get tables id) (mark_of (Run run)))
replay_all q id tables next kept new run start end first r first_is is one from to h =
    run_all q id tables next kept new (table_in next id) start end first (one_written tables next id (table_in next id) one) (ap (λ t. finite.get t id) one ∙ get_own tables id (table_in next id)) from to
    (λ e. replayed_alone q es run (table_in next id).entries first first_is after (omega (arith, e, to)))
    (λ some low high. replayed_within q es run (table_in next id).entries first r first_is after (omega (arith, some, to)) (omega (arith, low, from)) (omega (arith, high, to))) h
    ∙ ap (finite.insert (all_marks tables kept) id) (run_mark q id run first end (finite.get tables id) (mark_in (all_marks tables kept) id) first_is to)
  where
    es : List EntryIndex
    es = (table_in tables id).entries

    after : entries_after_replay q es run ≡ Some (table_in next id).entries
    after = after_entries q (table_in tables id) run (table_in next id) is

-- a run that is joined to a region mark that is kept
pub run_joined : (q : LogQueue) (id start end first : ℕ) (old new : Marks) (r : Result (Unit {0}) AllocError) → is_some (finite.get old id) ≡ true →
    OnOk r (new ≡ finite.insert old id (joined_at q end (mark_in old id) (run_at first))) → OnOk r (IsRunKept q id start end first old new)
run_joined q id start end first old new (Ok u) h e = record { by = inl (h, e) }
run_joined q id start end first old new (Err x) h e = tt
