-- An appended table over a rewritten one: by a mark and by its steps, and that it is a run.
use Rattle.raft_table.proofs.Common.{◌≡◌, ℕ, ◌+◌, ◌<◌, ◌≤◌, Bool, true, false, cond, not, ◌||◌, ltb, eqb, List, [], ◌∷◌, ◌++◌, length, Option, Some, None, refl, sym, ap, subst, ◌∙◌, arith, append-nil, nat_tests, EntryIndex, RisesFrom}
use Rattle.raft_table.proofs.Common.{IsRun, end_of, from, start_of, without, pairs_over, left_by, Mark, entries_within, FitsCut, Stands, after_merge, has_clean, deleted_of, is_unjoined, rewritten_within, overlay, overlay_under, IsExactMark}
use Rattle.raft_table.proofs.Common.{Step, table_of, AreSteps, IsTableOf, Table, filter, option_map, Error, LogQueue, below, is_same, Counts, IsTableMergeFault, entries_after_replay, leaves_hole, IsTableRunFault, live_of, Keys, Stored}
use Rattle.raft_table.proofs.Common.{with_pairs, pair_count, Append, Rewrite, ◌^◌, MatchBool, nat_lt, option_or, nat_cmp, slice_cmp, take_all, live, is_missed, is_barred, older_entries, is_refused_over, entries_over, table_over}
use Rattle.raft_table.proofs.Common.{newer_atomic_group, with_newer_atomic_group, empty_table}
use Rattle.raft_table.proofs.RunLemmas.{end_of-run, RisesFrom-append, rises, below_take, rises_behind}
use Rattle.raft_table.proofs.MarkWords.{within-from, end_of-first, top, end_of-part_run, nil_of_end}
use Rattle.raft_table.proofs.MarkExact.{empty_union}
use Rattle.raft_table.proofs.MarkRuns.{run_from, run_below, first_rising}
use Rattle.raft_table.proofs.CutLemmas.{within-cut}
use Rattle.raft_table.proofs.KeyValueCounts.{length-cond, pair_count-insert}
use Rattle.std.specs.Prelude.{IsTrue, ◌↔◌}
use Rattle.raft_table.proofs.KeyValueLaws.{get-pairs_over}
use Rattle.std.proofs.lemmas.Bool.{or_parts}
use Rattle.raft_table.proofs.MarkEntries.{same_some}
use Rattle.raft_table.proofs.RunCounts.{replayed-in}
use Rattle.raft_table.proofs.MarkTables.{own_span, same_keys}
use Rattle.std.specs.FinMap as finite
use Rattle.std.specs.FinSet as finset
use Rattle.raft_base.specs.declared.errors.Error.TheVariants as errors

-- why a run is refused, told of the merge that it is a part of
pub merge_refused : (rule queue : LogQueue) (counts : Counts) (older newer : Table) (e : Error) →
    IsTableRunFault queue counts older.entries (entries_after_replay rule older.entries newer.entries) e →
    IsTableMergeFault counts older newer (Some rule) e
merge_refused rule queue counts older newer e h = at (entries_after_replay rule older.entries newer.entries) refl e h
  where
    at : (o : Option (List EntryIndex)) → entries_after_replay rule older.entries newer.entries ≡ o → (x : Error) → IsTableRunFault queue counts older.entries o x → IsTableMergeFault counts older newer (Some rule) x
    at None k (errors.Corruption text) h = rw k refl
    at None k errors.Memory h = tt
    at None k _ h = absurd h
    at (Some after) k errors.Full h = (queue, let b = replayed-in rule queue older.entries newer.entries after k in omega arith)
    at (Some after) k errors.Memory h = tt
    at (Some after) k _ h = absurd h

-- pairs put over others are at most those of both
pairs_bound : (q : LogQueue) (keys : Keys) (es : List (List ℕ × Stored)) → pair_count q (with_pairs keys es) ≤ pair_count q keys + length (filter (λ e. is_same q e.1.file.queue) es)
pairs_bound q keys [] = omega arith
pairs_bound q keys (e ∷ es) =
    omega (arith, pairs_bound q (finite.insert keys e.0 e.1) es, pair_count-insert q keys e.0 e.1.value e.1.file, length-cond (is_same q e.1.file.queue) e (filter (λ e. is_same q e.1.file.queue) es))

-- a joined table has at most the records of both in each queue
pub joined_uncleaned : (rule q : LogQueue) (older newer w : Table) → after_merge rule older newer ≡ Some w → live_of q w ≤ live_of q older + live_of q newer
joined_uncleaned rule q older newer w e = go (entries_after_replay rule older.entries newer.entries) refl e
  where
    go : (o : Option (List EntryIndex)) → entries_after_replay rule older.entries newer.entries ≡ o →
        option_map {U = Table} (λ es. record older { entries = es; keys = pairs_over newer.keys older.keys }) o ≡ Some w →
        live_of q w ≤ live_of q older + live_of q newer
    go None k e = absurd cc
    go (Some es) k e = subst (λ w. live_of q w ≤ live_of q older + live_of q newer) (same_some (record older { entries = es; keys = pairs_over newer.keys older.keys }) w e)
        (omega (arith, replayed-in rule q older.entries newer.entries es k, pairs_bound q older.keys (finite.entries newer.keys)))

first_rises : (s : ℕ) (a b : List EntryIndex) → RisesFrom s (a ++ b) → RisesFrom s a
first_rises s [] b h = tt
first_rises s (x ∷ a) b h = (h.0, first_rises _ a b h.1)

below_nil : (f : ℕ) → below f [] ≡ []
unfolding below
below_nil f = refl

-- where both are one run, the start rule puts the second behind the first
pub replayed_run : (q : LogQueue) (a b : List EntryIndex) → IsRun (a ++ b) → entries_after_replay q a b ≡ Some (a ++ b)
replayed_run Append a [] r = ap (λ x. Some x) (sym (append-nil a))
replayed_run Rewrite a [] r = ap (λ x. Some x) (sym (append-nil a))
replayed_run q a (e ∷ b) r = (elim q as (λ q. (leaves_hole a e.index ≡ false) × (below e.index a ≡ a) → entries_after_replay q a (e ∷ b) ≡ Some (a ++ e ∷ b))
    [ Append ↦ λ h. rw (h.0, h.1) refl | Rewrite ↦ λ h. rw (h.0, h.1) refl ]) (meets a r)
  where
    meets : (a : List EntryIndex) → IsRun (a ++ e ∷ b) → (leaves_hole a e.index ≡ false) × (below e.index a ≡ a)
    meets [] r = (refl, below_nil e.index)
    meets (x ∷ a) r =
        let rises = first_rises x.index (x ∷ a) (e ∷ b) (refl, r) in
        let behind : e.index ≡ x.index + length (x ∷ a) = (rises_behind x.index (x ∷ a) (e ∷ b) (refl, r)).0 in
        let top = end_of-run x.index (x ∷ a) rises (omega arith) in
        (no_hole (end_of (x ∷ a)) e.index (omega arith), below_take e.index (length (x ∷ a)) x.index (x ∷ a) behind rises ∙ take_all (length (x ∷ a)) (x ∷ a) (omega arith))
      where
        no_hole : (n f : ℕ) → f ≤ n → nat_lt n f ≡ false
        no_hole n f h = grind (arith, nat_tests)

-- what is left, and the own entries behind it, are those over the older ones
left_entries : (q : LogQueue) (m : Mark) (own older : Table) → is_refused_over q m older.entries ≡ false
    → entries_over q m own.entries older.entries ≡ Some ((left_by (is_missed m older.entries) m older).entries ++ own.entries)
left_entries q m own older e = rw e (ap (λ x. Some x) (go m.cleaned q e))
  where
    go : (b : Bool) (q : LogQueue) → is_refused_over q m older.entries ≡ false
        → cond b own.entries (older_entries q m older.entries ++ own.entries) ≡ cond b [] (cond (is_missed m older.entries) [] (entries_within m.floor m.cut older.entries)) ++ own.entries
    go true q e = refl
    go false Append e = rw (or_parts (is_missed m older.entries) (is_barred m.barred older.entries) e).0 refl
    go false Rewrite e = refl

pub whole_keys : (t : Keys) → pairs_over t finite.empty ≡ t
whole_keys t = same_keys _ _ (λ q. get-pairs_over t finite.empty q ∙ ap (option_or (finite.get t q)) (finite.get-empty {X = Stored} (slice_cmp nat_cmp) q) ∙ (elim (finite.get t q) as (λ x. option_or x None ≡ x)
    [ None ↦ refl | Some s ↦ refl ]))

pub over_left : (q : LogQueue) (m : Mark) (own older : Table) → is_refused_over q m older.entries ≡ false → ((es : List EntryIndex) → entries_over q m own.entries older.entries ≡ Some es → IsRun es)
    → let left = left_by (is_missed m older.entries) m older in
    let es = left.entries ++ own.entries in
    (after_merge q left own ≡ Some (record left { entries = es; keys = pairs_over own.keys left.keys }))
    × (table_over q m own older ≡ Some (with_newer_atomic_group own (record left { entries = es; keys = pairs_over own.keys left.keys })))
over_left q m own older e run =
    let left = left_by (is_missed m older.entries) m older in
    let over = left_entries q m own older e in (
      rw (replayed_run q left.entries own.entries (run _ over)) refl,
      rw (
        over,
        keys m.cleaned,
        (elim m.cleaned as (λ b. cond b own.atomic_group (newer_atomic_group own.atomic_group older.atomic_group) ≡ newer_atomic_group own.atomic_group (cond b None older.atomic_group))
            [ true ↦ sym (own_span false own.atomic_group) | false ↦ refl ]),
      ) refl,
    )
  where
    keys : (b : Bool) → cond b own.keys (pairs_over own.keys (without m.deleted older.keys)) ≡ pairs_over own.keys (cond b finite.empty (without m.deleted older.keys))
    keys true = sym (whole_keys own.keys)
    keys false = refl

-- a merge that the start rule accepts, and that is counted, fails for want of memory alone
pub join_memory : (q : LogQueue) (counts : Counts) (left own w : Table) (e : Error) → IsTableMergeFault counts left own (Some q) e →
    after_merge q left own ≡ Some w → ((p : LogQueue) → live p counts + live_of p own < 2 ^ 64) → e ≡ errors.Memory
join_memory q counts left own w (errors.Corruption text) r is room = absurd cc
join_memory q counts left own w errors.Full r is room = absurd (let full = r.1 in let low = room r.0 in omega arith)
join_memory q counts left own w errors.Memory r is room = refl
join_memory q counts left own w _ r is room = absurd r

-- a table without entries, pairs and atomic group is the empty one
pub blank : (t : Table) (b : Bool) → end_of t.entries ≡ 0 → (IsTrue b ↔ (t.keys ≡ finite.empty)) → t.atomic_group ≡ None → MatchBool b (t ≡ empty_table t.region_id) (Unit {0})
blank t false e k g = tt
blank t true e k g =
    ap (λ (es : List EntryIndex). record { region_id = t.region_id; entries = es; keys = t.keys; atomic_group = t.atomic_group }) (nil_of_end t.entries e)
    ∙ ap (λ (ks : Keys). record { region_id = t.region_id; entries = []; keys = ks; atomic_group = t.atomic_group }) (k.0 refl)
    ∙ ap (λ (g : Option (ℕ × ℕ)). record { region_id = t.region_id; entries = []; keys = finite.empty; atomic_group = g }) g

-- what the mark says is what the steps say
pub overlay_exact : (m : Mark) (ss : List Step) (a r : Table) → IsExactMark m ss → overlay_under m a r ≡ overlay ss a r
overlay_exact m ss a r h = go m.cleaned refl
  where
    clean : (b : Bool) → m.cleaned ≡ b → has_clean ss ≡ b
    clean b e = sym h.holds.cleaned ∙ e

    go : (b : Bool) → m.cleaned ≡ b
        → ◌≡◌ {A = Table} (record r {
          entries = cond m.cleaned a.entries (rewritten_within m.floor m.cut a.entries r.entries ++ a.entries);
          keys = cond m.cleaned a.keys (pairs_over a.keys (without m.deleted r.keys));
          atomic_group = cond m.cleaned a.atomic_group r.atomic_group;
        }) (overlay ss a r)
    go true e = rw (e, clean true e) refl
    go false e =
        let d : m.deleted ≡ deleted_of finset.empty ss = sym (h.holds.deleted e finset.empty ∙ empty_union m.deleted) in
        rw (clean false e, ← h.greatest e, ← h.least e, ← d, e) refl

-- the code's way: what is left of the rewritten table, and the appended one behind it, but for the atomic group of a cleaned region
pub over_rewritten : (m : Mark) (a r : Table) → IsRun (overlay_under m a r).entries
    → after_merge Rewrite (left_by (is_unjoined m.cut (end_of r.entries) a.entries) m r) a ≡ Some (record (overlay_under m a r) { atomic_group = cond m.cleaned None r.atomic_group })
over_rewritten m a r run =
    let left = left_by (is_unjoined m.cut (end_of r.entries) a.entries) m r in
    let es = (elim m.cleaned as (λ b. cond b a.entries (rewritten_within m.floor m.cut a.entries r.entries ++ a.entries) ≡ cond b [] (rewritten_within m.floor m.cut a.entries r.entries) ++ a.entries) [ true ↦ refl | false ↦ refl ]) in
    rw (
      replayed_run Rewrite left.entries a.entries (subst IsRun es run),
      ← es,
      ← (elim m.cleaned as
          (λ b. cond b a.keys (pairs_over a.keys (without m.deleted r.keys)) ≡ pairs_over a.keys (cond b finite.empty (without m.deleted r.keys))) [ true ↦ sym (whole_keys a.keys) | false ↦ refl ]),
    ) refl

pub with_group_over : (m : Mark) (a r t u : Table) → t ≡ record (overlay_under m a r) { atomic_group = cond m.cleaned None r.atomic_group } → u.atomic_group ≡ a.atomic_group
    → record t { atomic_group = cond m.cleaned u.atomic_group t.atomic_group } ≡ overlay_under m a r
with_group_over m a r t u is group =
    ap (λ (t : Table). record t { atomic_group = cond m.cleaned u.atomic_group t.atomic_group }) is
    ∙ ap (λ g. record (overlay_under m a r) { atomic_group = g }) (ap (λ g. cond m.cleaned g (cond m.cleaned None r.atomic_group)) group ∙ (elim m.cleaned as
    (λ b. cond b a.atomic_group (cond b None r.atomic_group) ≡ cond b a.atomic_group r.atomic_group) [ true ↦ refl | false ↦ refl ]))

part_run : (floor : ℕ) (cut : Option ℕ) (es : List EntryIndex) → IsRun es → IsRun (entries_within floor cut es)
part_run floor None es r = subst IsRun (sym (within-from floor es)) (run_from floor es r)
part_run floor (Some c) es r = subst IsRun (within-cut floor c es) (run_below c (from floor es) (run_from floor es r))

-- a run behind one that ends where it begins, or behind no entries
one_behind : (p : List EntryIndex) (e : EntryIndex) (own : List EntryIndex) → IsRun p → IsRun (e ∷ own) → (0 < end_of p → end_of p ≡ e.index) → IsRun (p ++ e ∷ own)
one_behind [] e own r h k = h
one_behind (x ∷ p) e own r h k =
    let at : e.index ≡ x.index + length (x ∷ p) = sym (k (omega (arith, end_of-first x p))) ∙ end_of-run x.index (x ∷ p) (refl, r) (omega arith) in
    (RisesFrom-append x.index (x ∷ p) (e ∷ own) (refl, r) (subst (λ n. RisesFrom n (e ∷ own)) at (first_rising e own h))).1

reaches : (s e floor c : ℕ) → c ≤ e → 0 < top s e floor (Some c) → top s e floor (Some c) ≡ c
reaches s e floor c l h = grind (arith, nat_tests)

joined_at_cut : (i c n : ℕ) → (not (eqb i c) || ltb n c) ≡ false → (i ≡ c) × (c ≤ n)
joined_at_cut i c n h = grind (arith, nat_tests)

pub overlay_run : (id : ℕ) (m : Mark) (a : Option Table) (ss : List Step) (r : Table) → AreSteps ss → Stands Append id m a ss → IsTableOf id r → IsRun (overlay_under m (table_of id a) r).entries
overlay_run id m a ss r good h k = (elim m.cleaned as (λ b. m.cleaned ≡ b → IsRun (cond b (table_of id a).entries (rewritten_within m.floor m.cut (table_of id a).entries r.entries ++ (table_of id a).entries)))
    [ true ↦ λ e. h.own_table.run | false ↦ λ e. by_cut m.reach m.cut refl (h.fits.uncleaned e) ]) refl
  where
    by_own : (c : ℕ) (own : List EntryIndex) → IsRun own → IsRun (rewritten_within m.floor (Some c) own r.entries ++ own)
    by_own c [] run = subst IsRun (sym (append-nil (entries_within m.floor (Some c) r.entries))) (part_run m.floor (Some c) r.entries k.run)
    by_own c (e ∷ own) run = go (not (eqb e.index c) || ltb (end_of r.entries) c) refl
      where
        go : (b : Bool) → (not (eqb e.index c) || ltb (end_of r.entries) c) ≡ b → IsRun (cond b [] (entries_within m.floor (Some c) r.entries) ++ e ∷ own)
        go true is = run
        go false is =
            let at : (e.index ≡ c) × (c ≤ end_of r.entries) = joined_at_cut e.index c (end_of r.entries) is in
            let ends : end_of (entries_within m.floor (Some c) r.entries) ≡ top (start_of r.entries) (end_of r.entries) m.floor (Some c) = end_of-part_run (start_of r.entries) m.floor (Some c) r.entries (rises r.entries k.run) in
            one_behind (entries_within m.floor (Some c) r.entries) e own (part_run m.floor (Some c) r.entries k.run) run
            (λ p. ends ∙ reaches (start_of r.entries) (end_of r.entries) m.floor c at.1 (subst (λ n. 0 < n) ends p) ∙ sym at.0)

    by_cut : (y z : Option ℕ) → m.cut ≡ z → FitsCut y z m (table_of id a).entries → IsRun (rewritten_within m.floor z (table_of id a).entries r.entries ++ (table_of id a).entries)
    by_cut y (Some c) is f = by_own c (table_of id a).entries h.own_table.run
    by_cut None None is f = subst (λ own. IsRun (entries_within m.floor None r.entries ++ own)) (sym f) (subst IsRun (sym (append-nil (entries_within m.floor None r.entries))) (part_run m.floor None r.entries k.run))
    by_cut (Some s) None is f = absurd f
