-- Tables under two marks, one after the other, and under the joined one; and one step as a mark.
use Rattle.raft_table.proofs.Common.{◌≡◌, ℕ, Bool, true, false, cond, not, ◌||◌, List, [], ◌∷◌, ◌++◌, Option, Some, None, refl, sym, ap, ◌∙◌, is_some, option_and_then, option_map, option_or, nat_cmp, eq_by_cmp, slice_cmp}
use Rattle.raft_table.proofs.Common.{nat_list_cmp_total, slice_cmp-IsAntisymmetric, nat_cmp-IsAntisymmetric, false≢true, append-nil, LogQueue, EntryIndex, IsRun, end_of, below, from, KeySet, without, Keys, Stored, pairs_over}
use Rattle.raft_table.proofs.Common.{newer_atomic_group, leaves_hole, entries_after_replay, Step, Run, Compact, Truncate, Put, Del, AtomicGroup, Clean, table_of, after_step, IsTableOf, Table, empty_table, Mark, entries_within, misses}
use Rattle.raft_table.proofs.Common.{is_refused_over, entries_over, keys_over, atomic_group_over, table_over, is_there_over, there_if, table_over_older, FitsCut, Fits, joined_deleted, joined_uncleaned, joined_at, joined_mark, end_at_reach}
use Rattle.raft_table.proofs.Common.{fresh, mark_of, own_of, Append, Rewrite}
use Rattle.raft_table.proofs.KeyValueLaws.{get-pairs_over}
use Rattle.raft_table.proofs.MarkWords.{within-whole, within-from, within-below}
use Rattle.raft_table.proofs.MarkEntries.{same_some, join_entries, over_nil}
use Rattle.raft_table.proofs.RunLemmas.{hole_end}
use Rattle.std.specs.FinMap as finite
use Rattle.std.specs.FinSet as finset

pub get-without : (d : KeySet) (o : Keys) (q : List ℕ) → finite.get (without d o) q ≡ cond (not (finset.contains d q)) (finite.get o q) None
unfolding without
get-without d o q = finite.get-retain_keys o (λ k. not (finset.contains d k)) q (λ x tie. ap not (finset.contains_tied nat_list_cmp_total d q x tie))

pub same_keys : (a b : Keys) → ((q : List ℕ) → finite.get a q ≡ finite.get b q) → a ≡ b
same_keys a b h = finite.same_map nat_list_cmp_total (slice_cmp-IsAntisymmetric nat_cmp-IsAntisymmetric) a b h

over_both : (t o u : Option Stored) (d e : Bool) → option_or u (cond (not e) (option_or t (cond (not d) o None)) None) ≡ option_or (option_or u (cond (not e) t None)) (cond (not (d || e)) o None)
over_both t o (Some u) d e = refl
over_both t o None true true = refl
over_both t o None false true = refl
over_both None o None d false = elim d as (λ d. cond (not d) o None ≡ cond (not (d || false)) o None) [ true ↦ refl | false ↦ refl ]
over_both (Some t) o None d false = refl

join_live_keys : (d e : KeySet) (t u o : Keys) → pairs_over u (without e (pairs_over t (without d o))) ≡ pairs_over (pairs_over u (without e t)) (without (finset.union d e) o)
join_live_keys d e t u o = same_keys _ _ (λ q.
    rw (get-pairs_over, get-without, get-pairs_over, get-without, get-pairs_over, get-pairs_over, get-without, get-without, finset.contains-union nat_list_cmp_total)
    (over_both (finite.get t q) (finite.get o q) (finite.get u q) (finset.contains d q) (finset.contains e q)))

join_keys : (a b : Bool) (d e : KeySet) (t u o : Keys) → cond b u (pairs_over u (without e (cond a t (pairs_over t (without d o)))))
    ≡ cond (cond a true b) (cond b u (pairs_over u (without e t))) (pairs_over (cond b u (pairs_over u (without e t))) (without (cond a d (cond b e (finset.union d e))) o))
join_keys true b d e t u o = refl
join_keys false true d e t u o = refl
join_keys false false d e t u o = join_live_keys d e t u o

join_span : (a b : Bool) (t u o : Option (ℕ × ℕ)) → cond b u (newer_atomic_group u (cond a t (newer_atomic_group t o))) ≡ cond (cond a true b) (cond b u (newer_atomic_group u t)) (newer_atomic_group (cond b u (newer_atomic_group u t)) o)
join_span true b t u o = refl
join_span false true t u o = refl
join_span false false t None o = refl
join_span false false t (Some p) o = refl

join_there : (a b t u o : Bool) → cond b u (u || cond a t (t || o)) ≡ cond (cond a true b) (cond b u (u || t)) (cond b u (u || t) || o)
join_there true b t u o = refl
join_there false true t u o = refl
join_there false false t true o = refl
join_there false false t false o = refl

-- what the joined mark has of the two beside its numbers
pub joined_parts : (q : LogQueue) (x : ℕ) (m n : Mark) (t : List EntryIndex) → Fits q m t → ((joined_at q x m n).cleaned ≡ cond m.cleaned true n.cleaned) × ((joined_at q x m n).deleted ≡ cond m.cleaned m.deleted (joined_deleted m n))
joined_parts q x m n t fits = (elim m.cleaned as
    (λ b. m.cleaned ≡ b → ((cond b m (joined_uncleaned m.reach m.cut q x m n)).cleaned ≡ cond b true n.cleaned) × ((cond b m (joined_uncleaned m.reach m.cut q x m n)).deleted ≡ cond b m.deleted (joined_deleted m n)))
    [ true ↦ λ e. (e, refl) | false ↦ λ e. by_run m.reach m.cut (fits.uncleaned e) ]) refl
  where
    by_run : (y z : Option ℕ) → FitsCut y z m t → ((joined_uncleaned y z q x m n).cleaned ≡ n.cleaned) × ((joined_uncleaned y z q x m n).deleted ≡ joined_deleted m n)
    by_run None z h = (refl, refl)
    by_run (Some r) None h = absurd h
    by_run (Some r) (Some c) h = (refl, refl)

abbrev rebuilt : Table → Keys → Option (ℕ × ℕ) → List EntryIndex → Table
rebuilt o keys atomic_group es = record o { entries = es; keys = keys; atomic_group = atomic_group }

pub join_tables : (q : LogQueue) (m n : Mark) (t u w o : Table) → IsRun o.entries → IsRun t.entries → Fits q m t.entries → Fits q n u.entries → table_over q n u t ≡ Some w
    → option_and_then (λ v. table_over q n u v) (table_over q m t o) ≡ table_over q (joined_at q (end_at_reach n t) m n) w o
join_tables q m n t u w o run own fits newer is = by_own (entries_over q n u.entries t.entries) refl is
  where
    j : Mark
    j = joined_at q (end_at_reach n t) m n

    parts : (j.cleaned ≡ cond m.cleaned true n.cleaned) × (j.deleted ≡ cond m.cleaned m.deleted (joined_deleted m n))
    parts = joined_parts q (end_at_reach n t) m n t.entries fits

    keys : keys_over n u.keys (keys_over m t.keys o.keys) ≡ keys_over j (keys_over n u.keys t.keys) o.keys
    keys = rw (parts.0, parts.1) (join_keys m.cleaned n.cleaned m.deleted n.deleted t.keys u.keys o.keys)

    atomic_group : atomic_group_over n u.atomic_group (atomic_group_over m t.atomic_group o.atomic_group) ≡ atomic_group_over j (atomic_group_over n u.atomic_group t.atomic_group) o.atomic_group
    atomic_group = rw (parts.0) (join_span m.cleaned n.cleaned t.atomic_group u.atomic_group o.atomic_group)

    by_older : (we : List EntryIndex) → (x : Option (List EntryIndex)) → entries_over q m t.entries o.entries ≡ x → option_and_then (λ v. entries_over q n u.entries v) x ≡ entries_over q j we o.entries
        → option_and_then (λ v. table_over q n u v) (option_map (rebuilt o (keys_over m t.keys o.keys) (atomic_group_over m t.atomic_group o.atomic_group)) x)
        ≡ option_map (rebuilt o (keys_over j (keys_over n u.keys t.keys) o.keys) (atomic_group_over j (atomic_group_over n u.atomic_group t.atomic_group) o.atomic_group)) (entries_over q j we o.entries)
    by_older we None e k = rw (← k) refl
    by_older we (Some ve) e k = rw (← k, ← keys, ← atomic_group) refl

    by_own : (x : Option (List EntryIndex)) → entries_over q n u.entries t.entries ≡ x → option_map (rebuilt t (keys_over n u.keys t.keys) (atomic_group_over n u.atomic_group t.atomic_group)) x ≡ Some w
        → option_and_then (λ v. table_over q n u v) (table_over q m t o) ≡ table_over q j w o
    by_own None e k = absurd cc
    by_own (Some we) e k =
        rw (← same_some _ w k)
        (by_older we (entries_over q m t.entries o.entries) refl (join_entries q m n t.entries u.entries we o.entries run own fits newer e))

abbrev pub some_there : (b : Bool) (x : Table) → Option Table
some_there true x = Some x
some_there false x = None

pub there_if-some : (b : Bool) (x : Table) → there_if b (Some x) ≡ Some (some_there b x)
there_if-some true x = refl
there_if-some false x = refl

pub is_some-there : (b : Bool) (x : Table) → is_some (some_there b x) ≡ b
is_some-there true x = refl
is_some-there false x = refl

pub table_of-there : (id : ℕ) (b : Bool) (x : Table) → (b ≡ false → x ≡ empty_table id) → table_of id (some_there b x) ≡ x
table_of-there id true x h = refl
table_of-there id false x h = sym (h refl)

empty_parts : (id : ℕ) (older : Table) (es : List EntryIndex) (keys : Keys) (atomic_group : Option (ℕ × ℕ)) → older.region_id ≡ id → es ≡ [] → keys ≡ finite.empty → atomic_group ≡ None → rebuilt older keys atomic_group es ≡ empty_table id
empty_parts id older es keys atomic_group e f g k = rw (e, f, g, k) refl

no_keys : (d : KeySet) → pairs_over finite.empty (without d finite.empty) ≡ finite.empty
no_keys d = same_keys _ _ (λ q. rw (get-pairs_over, get-without, finite.get-empty {X = Stored} (slice_cmp nat_cmp) q) (elim (finset.contains d q) as
    (λ b. ◌≡◌ {A = Option Stored} (cond (not b) None None) None) [ true ↦ refl | false ↦ refl ]))

-- what is applied without a table has no records
none_cleaned : (q : LogQueue) (id : ℕ) (m : Mark) (o x : Table) → o.region_id ≡ id → m.cleaned ≡ true → table_over q m (empty_table id) o ≡ Some x → x ≡ empty_table id
none_cleaned q id m o x r e is = go (is_refused_over q m o.entries) refl
  where
    go : (b : Bool) → is_refused_over q m o.entries ≡ b → x ≡ empty_table id
    go true k = let n : ◌≡◌ {A = Option Table} None (Some x) = rw k at is in absurd cc
    go false k = sym (same_some _ x (rw (k, e) at is)) ∙ empty_parts id o [] finite.empty None r refl refl refl

none_live : (q : LogQueue) (id : ℕ) (m : Mark) (x : Table) → m.cleaned ≡ false → table_over q m (empty_table id) (empty_table id) ≡ Some x → x ≡ empty_table id
none_live q id m x e is = sym (same_some _ x (rw (over_nil q m [], e) at is)) ∙ empty_parts id (empty_table id) [] _ None refl refl (no_keys m.deleted) refl

pub none_over : (q : LogQueue) (id : ℕ) (m : Mark) (t o : Option Table) (x : Table) → IsTableOf id (table_of id o) → is_there_over m t o ≡ false → table_over q m (table_of id t) (table_of id o) ≡ Some x → x ≡ empty_table id
none_over q id m t o x h none is = go m.cleaned refl t o h.region none is
  where
    go : (b : Bool) → m.cleaned ≡ b → (t o : Option Table) → (table_of id o).region_id ≡ id → cond m.cleaned (is_some t) (is_some t || is_some o) ≡ false → table_over q m (table_of id t) (table_of id o) ≡ Some x → x ≡ empty_table id
    go true e None o r n is = none_cleaned q id m (table_of id o) x r e is
    go true e (Some t) o r n is = absurd (false≢true (sym n ∙ (rw e refl)))
    go false e None None r n is = none_live q id m x e is
    go false e None (Some o) r n is = absurd (false≢true (sym n ∙ (rw e refl)))
    go false e (Some t) o r n is = absurd (false≢true (sym n ∙ (rw e refl)))

pub applied-some : (q : LogQueue) (id : ℕ) (m : Mark) (t o : Option Table) (x : Table) → table_over q m (table_of id t) (table_of id o) ≡ Some x → table_over_older q id m t o ≡ Some (some_there (is_there_over m t o) x)
applied-some q id m t o x is = rw is (there_if-some (is_there_over m t o) x)

pub table-applied : (q : LogQueue) (id : ℕ) (m : Mark) (t o w : Option Table) → IsTableOf id (table_of id o) → table_over_older q id m t o ≡ Some w →
    (table_over q m (table_of id t) (table_of id o) ≡ Some (table_of id w)) × (is_some w ≡ is_there_over m t o)
table-applied q id m t o w h is = go (table_over q m (table_of id t) (table_of id o)) refl
  where
    go : (y : Option Table) → table_over q m (table_of id t) (table_of id o) ≡ y → (table_over q m (table_of id t) (table_of id o) ≡ Some (table_of id w)) × (is_some w ≡ is_there_over m t o)
    go None e = let n : ◌≡◌ {A = Option (Option Table)} None (Some w) = rw e at is in absurd cc
    go (Some x) e =
        let same : some_there (is_there_over m t o) x ≡ w = same_some _ w (sym (applied-some q id m t o x e) ∙ is) in
        let whole : table_of id w ≡ x = ap (table_of id) (sym same) ∙ table_of-there id (is_there_over m t o) x (λ n. none_over q id m t o x h n e) in
        (e ∙ ap (λ y. Some y) (sym whole), ap is_some (sym same) ∙ is_some-there (is_there_over m t o) x)

pub join_applied : (q : LogQueue) (id : ℕ) (m n : Mark) (t u w o : Option Table) → Fits q m (table_of id t).entries →
    Fits q n (table_of id u).entries → IsTableOf id (table_of id t) → IsTableOf id (table_of id o) → table_over_older q id n u t ≡ Some w
    → option_and_then (λ v. table_over_older q id n u v) (table_over_older q id m t o) ≡ table_over_older q id (joined_mark q id m t n) w o
join_applied q id m n t u w o fits fits' own h is = go (table_over q m (table_of id t) (table_of id o)) refl
  where
    j : Mark
    j = joined_mark q id m t n

    newer : (table_over q n (table_of id u) (table_of id t) ≡ Some (table_of id w)) × (is_some w ≡ is_there_over n u t)
    newer = table-applied q id n u t w own is

    law : option_and_then (λ v. table_over q n (table_of id u) v) (table_over q m (table_of id t) (table_of id o)) ≡ table_over q j (table_of id w) (table_of id o)
    law = join_tables q m n (table_of id t) (table_of id u) (table_of id w) (table_of id o) h.run own.run fits fits' newer.0

    there : cond n.cleaned (is_some u) (is_some u || is_there_over m t o) ≡ is_there_over j w o
    there = rw (newer.1, (joined_parts q (end_at_reach n (table_of id t)) m n (table_of id t).entries fits).0) (join_there m.cleaned n.cleaned (is_some t) (is_some u) (is_some o))

    go : (y : Option Table) → table_over q m (table_of id t) (table_of id o) ≡ y → option_and_then (λ v. table_over_older q id n u v) (table_over_older q id m t o) ≡ table_over_older q id j w o
    go None e = rw e (ap (there_if (is_there_over j w o)) (sym (ap (option_and_then (λ v. table_over q n (table_of id u) v)) e) ∙ law))
    go (Some x) e =
        let v : Option Table = some_there (is_there_over m t o) x in
        let whole : table_of id v ≡ x = table_of-there id (is_there_over m t o) x (λ n. none_over q id m t o x h n e) in
        let content : table_over q n (table_of id u) (table_of id v) ≡ table_over q j (table_of id w)
        (table_of id o) = ap (table_over q n (table_of id u)) whole ∙ sym (ap (option_and_then (λ v. table_over q n (table_of id u) v)) e)
        ∙ law in
        let flag : is_there_over n u v ≡ is_there_over j w o = ap (λ b. cond n.cleaned (is_some u) (is_some u || b)) (is_some-there (is_there_over m t o) x) ∙ there in
        ap (option_and_then (λ v. table_over_older q id n u v)) (applied-some q id m t o x e) ∙ (rw (content, flag) refl)

meets : (f : ℕ) (o : List EntryIndex) → misses (Some f) (end_of (entries_within 0 None o)) ≡ leaves_hole o f
meets f o = ap (λ es. misses (Some f) (end_of es)) (within-whole o) ∙ sym (hole_end o f)

either_behind : (b : Bool) (a run : List EntryIndex) → cond b [] a ++ run ≡ cond b run (a ++ run)
either_behind true a run = refl
either_behind false a run = refl

run_over : (q : LogQueue) (e : EntryIndex) (run o : List EntryIndex) → entries_over q (mark_of (Run (e ∷ run))) (e ∷ run) o ≡ entries_after_replay q o (e ∷ run)
run_over Append e run o = rw (meets e.index o, within-below, (elim (leaves_hole o e.index) as (λ b. (b || false) ≡ b) [ true ↦ refl | false ↦ refl ])) refl
run_over Rewrite e run o = rw (meets e.index o, within-below) (ap (λ x. Some x) (either_behind (leaves_hole o e.index) (below e.index o) (e ∷ run)))

-- a mark without a run, of a region that wasn't cleaned
kept_over : (q : LogQueue) (floor : ℕ) (deleted : KeySet) (o : List EntryIndex) → entries_over q (record fresh { floor = floor; deleted = deleted }) [] o ≡ Some (from floor o)
kept_over Append floor deleted o = ap (λ x. Some x) (append-nil (entries_within floor None o) ∙ within-from floor o)
kept_over Rewrite floor deleted o = ap (λ x. Some x) (append-nil (entries_within floor None o) ∙ within-from floor o)

cut_over : (q : LogQueue) (i : ℕ) (o : List EntryIndex) → entries_over q (record fresh { cut = Some i }) [] o ≡ Some (below i o)
cut_over Append i o = ap (λ x. Some x) (append-nil (entries_within 0 (Some i) o) ∙ within-below i o)
cut_over Rewrite i o = ap (λ x. Some x) (append-nil (entries_within 0 (Some i) o) ∙ within-below i o)

untouched : (q : LogQueue) (deleted : KeySet) (o : List EntryIndex) → entries_over q (record fresh { deleted = deleted }) [] o ≡ Some o
untouched q deleted o = kept_over q 0 deleted o ∙ ap (λ x. Some x) (sym (within-from 0 o) ∙ within-whole o)

keys_kept : (o : Keys) → pairs_over finite.empty (without finset.empty o) ≡ o
keys_kept o = same_keys _ _ (λ q. rw (get-pairs_over, get-without, finite.get-empty {X = Stored} (slice_cmp nat_cmp) q, finset.contains-empty (slice_cmp nat_cmp) q) refl)

key_put : (o : Keys) (key : List ℕ) (s : Stored) → pairs_over (finite.insert finite.empty key s) (without finset.empty o) ≡ finite.insert o key s
key_put o key s = same_keys _ _
    (λ q. rw (
      get-pairs_over,
      get-without,
      finite.get-insert nat_list_cmp_total finite.empty key s q,
      finite.get-insert nat_list_cmp_total o key s q,
      finite.get-empty {X = Stored} (slice_cmp nat_cmp) q,
      finset.contains-empty (slice_cmp nat_cmp) q,
    )
    (elim (eq_by_cmp (slice_cmp nat_cmp) q key) as (λ b. option_or (cond b (Some s) None) (finite.get o q) ≡ cond b (Some s) (finite.get o q)) [ true ↦ refl | false ↦ refl ]))

key_deleted : (o : Keys) (key : List ℕ) → pairs_over finite.empty (without (finset.insert finset.empty key) o) ≡ finite.remove o key
key_deleted o key = same_keys _ _
    (λ q. rw (
      get-pairs_over,
      get-without,
      finite.get-remove nat_list_cmp_total o key q,
      finset.contains-insert nat_list_cmp_total finset.empty key q,
      finite.get-empty {X = Stored} (slice_cmp nat_cmp) q,
      finset.contains-empty (slice_cmp nat_cmp) q,
    )
    (elim (eq_by_cmp (slice_cmp nat_cmp) q key) as (λ b. cond (not (b || false)) (finite.get o q) None ≡ cond b None (finite.get o q)) [ true ↦ refl | false ↦ refl ]))

pub one_step : (q : LogQueue) (id : ℕ) (s : Step) (o : Option Table) → table_over_older q id (mark_of s) (own_of id s) o ≡ after_step q (table_of id o) s
one_step q id (Run []) o = rw (untouched q finset.empty (table_of id o).entries, keys_kept (table_of id o).keys) refl
one_step q id (Run (e ∷ run)) o = rw (run_over q e run (table_of id o).entries, keys_kept (table_of id o).keys) refl
one_step q id (Compact i) o = rw (kept_over q i finset.empty (table_of id o).entries, keys_kept (table_of id o).keys) refl
one_step q id (Truncate i) o = rw (cut_over q i (table_of id o).entries, keys_kept (table_of id o).keys) refl
one_step q id (Put key value file) o = rw (untouched q finset.empty (table_of id o).entries, key_put (table_of id o).keys key (record { value = value; file = file })) refl
one_step q id (Del key) o = rw (untouched q (finset.insert finset.empty key) (table_of id o).entries, key_deleted (table_of id o).keys key) refl
one_step q id (AtomicGroup first_seq last_seq) o = rw (untouched q finset.empty (table_of id o).entries, keys_kept (table_of id o).keys) refl
one_step Append id Clean o = refl
one_step Rewrite id Clean o = refl

pub own_keys : (b : Bool) (d : KeySet) (t : Keys) → cond b t (pairs_over t (without d finite.empty)) ≡ t
own_keys true d t = refl
own_keys false d t = same_keys _ _ (λ q. rw (get-pairs_over, get-without, finite.get-empty {X = Stored} (slice_cmp nat_cmp) q) (go (finite.get t q) (finset.contains d q)))
  where
    go : (x : Option Stored) (b : Bool) → option_or x (cond (not b) None None) ≡ x
    go None true = refl
    go None false = refl
    go (Some s) b = refl

pub own_span : (b : Bool) (t : Option (ℕ × ℕ)) → cond b t (newer_atomic_group t None) ≡ t
own_span true t = refl
own_span false None = refl
own_span false (Some s) = refl

pub own_alone : (q : LogQueue) (id : ℕ) (m : Mark) (t : Table) → t.region_id ≡ id → table_over q m t (empty_table id) ≡ Some t
own_alone q id m t r = rw (over_nil q m t.entries, own_keys m.cleaned m.deleted t.keys, own_span m.cleaned t.atomic_group, ← r) refl

pub applied_none : (q : LogQueue) (id : ℕ) (m : Mark) (t : Option Table) → (table_of id t).region_id ≡ id → table_over_older q id m t None ≡ Some t
applied_none q id m t r = rw (own_alone q id m (table_of id t) r) (go m.cleaned t)
  where
    go : (b : Bool) (t : Option Table) → there_if (cond b (is_some t) (is_some t || false)) (Some (table_of id t)) ≡ Some t
    go true None = refl
    go false None = refl
    go true (Some x) = refl
    go false (Some x) = refl

pub applied_fresh : (q : LogQueue) (id : ℕ) (o : Option Table) → table_over_older q id fresh None o ≡ Some o
applied_fresh q id o = rw (untouched q finset.empty (table_of id o).entries, keys_kept (table_of id o).keys) (elim o as (λ o. there_if (is_some o) (Some (table_of id o)) ≡ Some o) [ None ↦ refl | Some x ↦ refl ])
