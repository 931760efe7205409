-- How many records are live after steps on all regions.
use Rattle.raft_contexts.proofs.Common.{◌≡◌, ℕ, ◌+◌, ◌≤◌, true, false, cond, List, [], ◌∷◌, length, Option, Some, None, refl, ap, arith, option_map, option_and_then, FileId, LogQueue, EntryIndex, entry_count, from, file_weight, joined_mark}
use Rattle.raft_contexts.proofs.Common.{mark_of, count_in, is_same, entries_after_replay, Step, Run, Compact, Truncate, Put, Del, AtomicGroup, Clean, table_of, after_step, Table, pair_count-insert, pair_count-remove, pair_count-le-len}
use Rattle.raft_contexts.proofs.Common.{entries_in_one, each_placed, entry_count-le, replayed-in, records_of, records_in, IsStepOfQueue, MarkedRegions, MarkedRegion, region_in, with_region, regions_after, total_of, total, table_records}
use Rattle.raft_contexts.proofs.Common.{all_records, RegionStep, Tables, with_table, live_in, live_in_all, AreStepsOfQueue, live_of_all, live-all, live-with, live-table_of, some_is, subst, within-from, entry_count-below}
use Rattle.std.specs.FinMap as finite
use Rattle.raft_table.proofs.CutLemmas.{within-fewer}

entries-from : (q : LogQueue) (i : ℕ) (es : List EntryIndex) → entry_count q (from i es) ≤ entry_count q es
entries-from q i es = subst (λ (l : List EntryIndex). entry_count q l ≤ entry_count q es) (within-from i es) (within-fewer q i None es)

weight-put : (q queue : LogQueue) (file : FileId) → file.queue ≡ queue → file_weight q (Some file) ≡ count_in q queue 1
weight-put q queue file e = ap (λ x. count_in q x 1) e

-- a step of a queue adds the records that it names there, and none in the other queue
pub step_live : (queue q : LogQueue) (id : ℕ) (o u : Option Table) (s : Step) → after_step queue (table_of id o) s ≡ Some u → IsStepOfQueue queue s → live_in q u ≤ live_in q o + count_in q queue (records_of s)
step_live queue q id o u (Run run) e h = go (entries_after_replay queue (table_of id o).entries run) refl e
  where
    go : (y : Option (List EntryIndex)) → entries_after_replay queue (table_of id o).entries run ≡ y →
        option_map Some (option_map {U = Table} (λ es. record (table_of id o) { entries = es }) y) ≡ Some u →
        live_in q u ≤ live_in q o + count_in q queue (length run)
    go None p e = absurd cc
    go (Some a) p e = omega (arith, ap (live_in q) (some_is e), replayed-in queue q (table_of id o).entries run a p, entries_in_one q queue run (each_placed queue run h.placed), live-table_of q id o)
step_live queue q id o u (Compact i) e h = omega (arith, ap (live_in q) (some_is e), entries-from q i (table_of id o).entries, live-table_of q id o)
step_live queue q id o u (Truncate i) e h = omega (arith, ap (live_in q) (some_is e), entry_count-below q i (table_of id o).entries, live-table_of q id o)
step_live queue q id o u (Put key value file) e h = omega (arith, ap (live_in q) (some_is e), pair_count-insert q (table_of id o).keys key value file, weight-put q queue file h, live-table_of q id o)
step_live queue q id o u (Del key) e h = omega (arith, ap (live_in q) (some_is e), pair_count-remove q (table_of id o).keys key, live-table_of q id o)
step_live queue q id o u (AtomicGroup first_seq last_seq) e h = omega (arith, ap (live_in q) (some_is e), live-table_of q id o)
step_live queue q id o u Clean e h = omega (arith, ap (live_in q) (some_is e))

count_sum : (q queue : LogQueue) (a b : ℕ) → count_in q queue a + count_in q queue b ≡ count_in q queue (a + b)
count_sum q queue a b = elim (is_same q queue) as (λ x. cond x a 0 + cond x b 0 ≡ cond x (a + b) 0) [ true ↦ refl | false ↦ refl ]

pub steps_live : (queue q : LogQueue) (rs new : MarkedRegions) (steps : List RegionStep) → regions_after queue rs steps ≡ Some new →
    AreStepsOfQueue queue steps → live_in_all q new.tables ≤ live_in_all q rs.tables + count_in q queue (records_in steps)
steps_live queue q rs new [] e h = omega (arith, ap (λ (n : MarkedRegions). live_in_all q n.tables) (some_is e))
steps_live queue q rs new (s ∷ steps) e h = go (after_step queue (table_of s.region (finite.get rs.tables s.region)) s.step) refl e (λ x e. steps_live queue q (with_region rs s.region x) new steps e h.1)
  where
    put : Option Table → MarkedRegion
    put t = record { mark = joined_mark queue s.region (region_in rs s.region).mark (region_in rs s.region).table (mark_of s.step); table = t }

    go : (o : Option (Option Table)) → after_step queue (table_of s.region (finite.get rs.tables s.region)) s.step ≡ o → option_and_then (λ x. regions_after queue (with_region rs s.region x) steps) (option_map put o) ≡ Some new
        → ((x : MarkedRegion) → regions_after queue (with_region rs s.region x) steps ≡ Some new → live_in_all q new.tables ≤ live_in_all q (with_table rs.tables s.region x.table) + count_in q queue (records_in steps))
        → live_in_all q new.tables ≤ live_in_all q rs.tables + count_in q queue (records_in (s ∷ steps))
    go None k e ih = absurd cc
    go (Some t) k e ih = omega (arith, ih (put t) e, live-with q rs.tables s.region t, step_live queue q s.region (finite.get rs.tables s.region) t s.step k h.0, count_sum q queue (records_of s.step) (records_in steps))

-- ---- no more records are live in a queue than there are

live_le : (q : LogQueue) (es : List (ℕ × Table)) → live_of_all q es ≤ total_of table_records es
live_le q [] = omega arith
live_le q (e ∷ es) = omega (arith, live_le q es, entry_count-le q e.1.entries, pair_count-le-len q e.1.keys)

pub live-le-all : (q : LogQueue) (m : Tables) → live_in_all q m ≤ all_records m
unfolding total
live-le-all q m = rw (live-all q m) (live_le q (finite.entries m))
