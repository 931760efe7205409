-- Tables and waiting groups have no more records than the history names.
use Rattle.raft_history.proofs.Common.{Append, Rewrite, Begin, Middle, End, Equal, T, length-filter-le, accepted_is, cond_both, map_some, option_and_then_some, subst, some_is, ◌≡◌, ℕ, ◌+◌, ◌-◌, ◌≤◌, Bool, true, false, cond, not, List, []}
use Rattle.raft_history.proofs.Common.{◌∷◌, ◌++◌, length, Option, Some, None, refl, sym, ap, ◌∙◌, arith, append-nil, Ordering, option_map, nat_lt, nat_le, nat_cmp, slice_cmp, nat_list_cmp_total, is_sorted, slice_cmp-IsAntisymmetric}
use Rattle.raft_history.proofs.Common.{nat_cmp-IsAntisymmetric, where_key, is_sorted-where_key, find-where_key, length-append, LogQueue, EntryIndex, below, from, KeySet, without, Keys, Stored, with_pairs, pairs_over, Mark, entries_within}
use Rattle.raft_history.proofs.Common.{older_entries, atomic_group_over, table_over, is_refused_over, is_missed, is_there_over, there_if, table_over_older, joined_mark, mark_of, entries_after_replay, leaves_hole, Step, Run, Compact}
use Rattle.raft_history.proofs.Common.{Truncate, Put, Del, AtomicGroup, after_step, table_of, Table, empty_table, AtomicGroupStatus, GroupMarker, Event, batch_of, Context, merged_with, completed_steps, region_steps_or, taken_with}
use Rattle.raft_history.proofs.Common.{IsBounded, AreMerged, records_of, records_in, MarkedRegions, MarkedRegion, region_in, with_region, regions_after, named_regions, on_each, region_steps_of_whole, region_steps_of_wholes, Marks}
use Rattle.raft_history.proofs.Common.{joined_marked, records_or, records_in_wholes, waiting_records, table_records, all_records, RegionStep, Tables, with_table, steps_of_items, joined_group, WaitingGroup, WholeGroup, whole_group}
use Rattle.raft_history.proofs.Common.{one_marker, known_of, groups_after, whole_groups, held_steps}
use Rattle.std.specs.FinMap as finite
use Rattle.std.specs.FinSet as finset
use Rattle.raft_history.proofs.TotalLemmas.{found, total-insert, total-remove, total-both}
use Rattle.raft_history.proofs.WaitingLemmas.{records-append, joined_weight, waiting_known, merged_waiting}

-- ---- lists and keys

where_shorter : {K X : Type 0} (R : K → K → Ordering) (p : K → Bool) (es : List (K × X)) → length (where_key R p es) ≤ length es
where_shorter R p [] = omega arith
where_shorter R p (e ∷ es) =
    let rest : length (where_key R p es) ≤ length es = where_shorter R p es in
    cond_both (p e.0) (e ∷ where_key R p es) (where_key R p es) (λ l. length l ≤ length (e ∷ es)) (λ t. omega (arith, rest)) (λ t. omega (arith, rest))

len_without : (d : KeySet) (o : Keys) → finite.len (without d o) ≤ finite.len o
unfolding without
len_without d o = omega (arith, finite.len-entries (without d o), finite.len-entries o, ap length same, where_shorter (slice_cmp nat_cmp) p (finite.entries o))
  where
    p : List ℕ → Bool
    p k = not (finset.contains d k)

    alike : (q x : List ℕ) → slice_cmp nat_cmp q x ≡ Equal → p x ≡ p q
    alike q x tie = ap not (finset.contains_tied nat_list_cmp_total d q x tie)

    in_order : T (is_sorted (slice_cmp nat_cmp) (where_key (slice_cmp nat_cmp) p (finite.entries o)))
    in_order = is_sorted-where_key (slice_cmp nat_cmp) p (finite.entries o) (finite.entries_sorted o)

    same : finite.entries (without d o) ≡ where_key (slice_cmp nat_cmp) p (finite.entries o)
    same = ap finite.entries (finite.same_map nat_list_cmp_total (slice_cmp-IsAntisymmetric nat_cmp-IsAntisymmetric) (without d o) (finite.from_sorted (where_key (slice_cmp nat_cmp) p (finite.entries o)))
        (λ q. finite.get-retain_keys o p q (alike q) ∙ ap (λ v. cond (p q) v None) (finite.get-entries o q)
        ∙ sym (find-where_key (slice_cmp nat_cmp) p q (alike q) (finite.entries o))
        ∙ sym (finite.get-from_sorted (slice_cmp nat_cmp) (where_key (slice_cmp nat_cmp) p (finite.entries o)) q in_order)))
        ∙ finite.entries-from_sorted (slice_cmp nat_cmp) (where_key (slice_cmp nat_cmp) p (finite.entries o)) in_order

len_insert : {X : Type 0} (m : finite.FinMap (slice_cmp nat_cmp) X) (k : List ℕ) (x : X) → finite.len (finite.insert m k x) ≤ finite.len m + 1
len_insert m k x = omega (arith, finite.len-insert nat_list_cmp_total m k x, (elim (finite.contains_key m k) as (λ b. cond b (finite.len m) (finite.len m + 1) ≤ finite.len m + 1) [ true ↦ omega arith | false ↦ omega arith ]))

len_remove : {X : Type 0} (m : finite.FinMap (slice_cmp nat_cmp) X) (k : List ℕ) → finite.len (finite.remove m k) ≤ finite.len m
len_remove m k = omega (arith, finite.len-remove nat_list_cmp_total m k, (elim (finite.contains_key m k) as (λ b. cond b (finite.len m - 1) (finite.len m) ≤ finite.len m) [ true ↦ omega arith | false ↦ omega arith ]))

len_pairs : (m : Keys) (es : List (List ℕ × Stored)) → finite.len (with_pairs m es) ≤ finite.len m + length es
len_pairs m [] = omega arith
len_pairs m (e ∷ es) = omega (arith, len_pairs (finite.insert m e.0 e.1) es, len_insert m e.0 e.1)

len_pairs_over : (own older : Keys) → finite.len (pairs_over own older) ≤ finite.len older + finite.len own
len_pairs_over own older = omega (arith, len_pairs older (finite.entries own), finite.len-entries own)

-- ---- one region

abbrev recs : Option Table → ℕ
recs o = found table_records o

empty_records : (r : ℕ) → table_records (empty_table r) ≡ 0
empty_records r = omega (arith, finite.len-empty (slice_cmp nat_cmp) Stored)

of_table : (r : ℕ) (o : Option Table) → table_records (table_of r o) ≡ recs o
of_table r None = empty_records r
of_table r (Some t) = refl

below_shorter : (i : ℕ) (es : List EntryIndex) → length (below i es) ≤ length es
unfolding below
below_shorter i es = length-filter-le (λ e. nat_lt e.index i) es

from_shorter : (i : ℕ) (es : List EntryIndex) → length (from i es) ≤ length es
unfolding from
from_shorter i es = length-filter-le (λ e. nat_le i e.index) es

part_shorter : (floor : ℕ) (cut : Option ℕ) (es : List EntryIndex) → length (entries_within floor cut es) ≤ length es
unfolding entries_within
part_shorter floor cut es = length-filter-le _ es

run_records : (q : LogQueue) (es run after : List EntryIndex) → entries_after_replay q es run ≡ Some after → length after ≤ length es + length run
run_records q es [] after e = omega (arith, ap length (some_is e))
run_records Append es (x ∷ run) after e =
    omega (arith, ap length (accepted_is (leaves_hole es x.index) (below x.index es ++ x ∷ run) after e), length-append (below x.index es) (x ∷ run), below_shorter x.index es)
run_records Rewrite es (x ∷ run) after e = subst (λ l. length l ≤ length es + length (x ∷ run)) (some_is e)
    (cond_both (leaves_hole es x.index) (x ∷ run) (below x.index es ++ x ∷ run) (λ l. length l ≤ length es + length (x ∷ run)) (λ t. omega arith) (λ t. omega (arith, length-append (below x.index es) (x ∷ run), below_shorter x.index es)))

there_records : (b : Bool) (o : Option Table) (w : Option Table) (n : ℕ) → there_if b o ≡ Some w → ((x : Table) → o ≡ Some x → table_records x ≤ n) → recs w ≤ n
there_records b None w n e h = absurd cc
there_records true (Some x) w n e h = omega (arith, h x refl, ap recs (some_is e))
there_records false (Some x) w n e h = omega (arith, ap recs (some_is e))

step_records : (q : LogQueue) (r : ℕ) (o w : Option Table) (s : Step) → after_step q (table_of r o) s ≡ Some w → recs w ≤ recs o + records_of s
step_records q r o w (Run run) e = go (entries_after_replay q (table_of r o).entries run) refl e
  where
    go : (y : Option (List EntryIndex)) → entries_after_replay q (table_of r o).entries run ≡ y → option_map Some (option_map {U = Table} (λ es. record (table_of r o) { entries = es }) y) ≡ Some w → recs w ≤ recs o + length run
    go None p e = absurd cc
    go (Some a) p e = omega (arith, ap recs (some_is e), run_records q (table_of r o).entries run a p, of_table r o)
step_records q r o w (Compact i) e = omega (arith, ap recs (some_is e), from_shorter i (table_of r o).entries, of_table r o)
step_records q r o w (Truncate i) e = omega (arith, ap recs (some_is e), below_shorter i (table_of r o).entries, of_table r o)
step_records q r o w (Put key value file) e = omega (arith, ap recs (some_is e), len_insert (table_of r o).keys key (record { value = value; file = file }), of_table r o)
step_records q r o w (Del key) e = omega (arith, ap recs (some_is e), len_remove (table_of r o).keys key, of_table r o)
step_records q r o w _ e = omega (arith, ap recs (some_is e), of_table r o)

older_shorter : (q : LogQueue) (m : Mark) (es : List EntryIndex) → length (older_entries q m es) ≤ length es
older_shorter Append m es = part_shorter m.floor m.cut es
older_shorter Rewrite m es = cond_both (is_missed m es) [] (entries_within m.floor m.cut es) (λ l. length l ≤ length es) (λ t. omega arith) (λ t. part_shorter m.floor m.cut es)

over_records : (q : LogQueue) (m : Mark) (t o x : Table) → table_over q m t o ≡ Some x → table_records x ≤ table_records o + table_records t
over_records q m t o x e = go (is_refused_over q m o.entries) m.cleaned refl e
  where
    go : (b c : Bool) → m.cleaned ≡ c →
        option_map {U = Table} (λ es. record o {
          entries = es;
          keys = cond m.cleaned t.keys (pairs_over t.keys (without m.deleted o.keys));
          atomic_group = atomic_group_over m t.atomic_group o.atomic_group;
        })
        (cond b None (Some (cond c t.entries (older_entries q m o.entries ++ t.entries)))) ≡ Some x →
        table_records x ≤ table_records o + table_records t
    go true c k e = absurd cc
    go false true k e = omega (arith, ap table_records (some_is e), ap (λ c. finite.len (cond c t.keys (pairs_over t.keys (without m.deleted o.keys)))) k)
    go false false k e = omega (
      arith,
      ap table_records (some_is e),
      ap (λ c. finite.len (cond c t.keys (pairs_over t.keys (without m.deleted o.keys)))) k,
      len_pairs_over t.keys (without m.deleted o.keys),
      len_without m.deleted o.keys,
      length-append (older_entries q m o.entries) t.entries,
      older_shorter q m o.entries,
    )

join_records : (q : LogQueue) (r : ℕ) (m : Mark) (t o w : Option Table) → table_over_older q r m t o ≡ Some w → recs w ≤ recs o + recs t
join_records q r m t o w e = there_records (is_there_over m t o) (table_over q m (table_of r t) (table_of r o)) w (recs o + recs t) e (λ x k. omega (arith, over_records q m (table_of r t) (table_of r o) x k, of_table r t, of_table r o))

-- ---- all regions

with_records : (m : Tables) (r : ℕ) (t : Option Table) → all_records (with_table m r t) + recs (finite.get m r) ≡ all_records m + recs t
with_records m r None = omega (arith, total-remove table_records m r)
with_records m r (Some t) = total-insert table_records m r t

pub read_records : (q : LogQueue) (rs new : MarkedRegions) (is : List RegionStep) → regions_after q rs is ≡ Some new → all_records new.tables ≤ all_records rs.tables + records_in is
read_records q rs new [] e = omega (arith, ap (λ (n : MarkedRegions). all_records n.tables) (some_is e))
read_records q rs new (i ∷ is) e =
    option_and_then_some (λ (x : MarkedRegion). regions_after q (with_region rs i.region x) is) (option_map put (after_step q (table_of i.region (finite.get rs.tables i.region)) i.step)) new e
    (λ x is' e. map_some put (after_step q (table_of i.region (finite.get rs.tables i.region)) i.step) x is' (λ t k p.
    let rest : all_records new.tables ≤ all_records (with_table rs.tables i.region x.table) + records_in is = read_records q (with_region rs i.region x) new is e in
    omega (arith, rest, with_records rs.tables i.region x.table, step_records q i.region (finite.get rs.tables i.region) t i.step k, ap (λ (x : MarkedRegion). recs x.table) p)))
  where
    put : Option Table → MarkedRegion
    put t = record { mark = joined_mark q i.region (region_in rs i.region).mark (region_in rs i.region).table (mark_of i.step); table = t }

-- two neighbors, joined region by region
joined_records : (q : LogQueue) (mid : MarkedRegions) (marks : Marks) (tables : Tables) (new : MarkedRegions) →
    ((r : ℕ) → joined_marked q r (finite.get marks r) (finite.get tables r) (region_in mid r) ≡ Some (region_in new r)) →
    all_records new.tables ≤ all_records mid.tables + all_records tables
joined_records q mid marks tables new h = total-both table_records new.tables mid.tables tables (λ r. at r (finite.get marks r) (h r))
  where
    at : (r : ℕ) (o : Option Mark) → joined_marked q r o (finite.get tables r) (region_in mid r) ≡ Some (region_in new r) → recs (finite.get new.tables r) ≤ recs (finite.get mid.tables r) + recs (finite.get tables r)
    at r None e = omega (arith, ap (λ (x : MarkedRegion). recs x.table) (some_is e))
    at r (Some m) e = map_some {B = MarkedRegion} (λ t. record { mark = joined_mark q r (region_in mid r).mark (finite.get mid.tables r) m; table = t })
        (table_over_older q r m (finite.get tables r) (finite.get mid.tables r)) (region_in new r) e
        (λ w k p. omega (arith, join_records q r m (finite.get tables r) (finite.get mid.tables r) w k, ap (λ (x : MarkedRegion). recs x.table) p))

spans-records : (rs : List ℕ) (first_seq last_seq : ℕ) → records_in (on_each rs (AtomicGroup first_seq last_seq)) ≡ 0
spans-records [] s e = refl
spans-records (r ∷ rs) s e = omega (arith, spans-records rs s e)

pub whole_group-records : (w : WholeGroup) → records_in (region_steps_of_whole w) ≡ records_in w.steps
whole_group-records w = omega (arith, records-append w.steps (on_each (named_regions w.steps) (AtomicGroup w.first_seq w.last_seq)), spans-records (named_regions w.steps) w.first_seq w.last_seq)

pub wholes-records : (ws : List WholeGroup) → records_in (region_steps_of_wholes ws) ≡ records_in_wholes ws
wholes-records [] = refl
wholes-records (w ∷ ws) = omega (arith, records-append (region_steps_of_whole w) (region_steps_of_wholes ws), whole_group-records w, wholes-records ws)

-- ---- contexts

pub merged_bounded : (q : LogQueue) (c d : Context) (rs : MarkedRegions) (n m : ℕ) → IsBounded c n → IsBounded d m → AreMerged q c d rs → IsBounded (merged_with c d rs) (n + m)
merged_bounded q c d rs n m a b is = omega (
  arith,
  a,
  b,
  read_records q c.regions is.middle (region_steps_of_wholes (whole_groups c.groups d.groups)) is.wholes,
  wholes-records (whole_groups c.groups d.groups),
  merged_waiting c.groups d.groups,
  joined_records q is.middle d.regions.marks d.regions.tables rs is.regions,
)

pub one_weight : (s : AtomicGroupStatus) (is : List RegionStep) (f : ℕ) → records_in (held_steps (one_marker s is f)) ≡ records_in is
one_weight Begin is f = refl
one_weight Middle is f = ap records_in (append-nil is)
one_weight End is f = ap records_in (append-nil is)

pub taken_bounded : (q : LogQueue) (c : Context) (e : Event) (rs : MarkedRegions) (n : ℕ) → IsBounded c n →
    regions_after q c.regions (completed_steps c.groups (batch_of e) (batch_of e).marker) ≡ Some rs →
    IsBounded (taken_with c e rs) (n + records_in (steps_of_items e.items))
taken_bounded q c e rs n a k = go (batch_of e).marker (read_records q c.regions rs (completed_steps c.groups (batch_of e) (batch_of e).marker) k)
  where
    or_whole : (o : Option WholeGroup) → records_in (region_steps_or o) ≡ records_or o
    or_whole None = refl
    or_whole (Some w) = whole_group-records w

    go : (m : Option GroupMarker) → all_records rs.tables ≤ all_records c.regions.tables + records_in (completed_steps c.groups (batch_of e) m) →
        all_records rs.tables + waiting_records (groups_after c.groups (batch_of e) m) ≤ n + records_in (steps_of_items e.items)
    go None h = omega (arith, h, a)
    go (Some m) h = let g : WaitingGroup = one_marker m.status (steps_of_items e.items) e.file.seq in
        omega (
          arith,
          h,
          a,
          or_whole (whole_group (known_of c.groups m.group) g),
          total-insert (λ (g : WaitingGroup). records_in (held_steps g))
              c.groups m.group (joined_group (known_of c.groups m.group) g),
          waiting_known c.groups m.group,
          joined_weight (known_of c.groups m.group) g,
          one_weight m.status (steps_of_items e.items) e.file.seq,
        )
