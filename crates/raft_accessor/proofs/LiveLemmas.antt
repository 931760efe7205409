-- The live counts of all tables, when one is written or taken away.
use Rattle.raft_accessor.proofs.Common.{total-remove, Append, Rewrite, ◌≡◌, ℕ, ◌+◌, ◌-◌, ◌≤◌, List, [], ◌∷◌, map, sum_by, Option, Some, None, refl, ap, ◌∙◌, arith, sum_by-cons, LogQueue, Counts, live_of_empty, table_of, Table, empty_table}
use Rattle.raft_accessor.proofs.Common.{live_of, with_table_deleted, IsCounted, IsRecounted, Tables, with_table, table_in, live_in, live_in_all, AreCountsOf, found, total, total_of, total-insert, total-none}
use Rattle.std.specs.FinMap as finite

-- the live counts of some regions' tables together
abbrev pub live_of_all : LogQueue → List (ℕ × Table) → ℕ
live_of_all queue es = total_of (live_of queue) es

pub live-all : (q : LogQueue) (m : Tables) → live_in_all q m ≡ live_of_all q (finite.entries m)
unfolding live_in_all
live-all q m = go (finite.entries m)
  where
    go : (es : List (ℕ × Table)) → sum_by (live_of q) (map (λ (e : ℕ × Table). e.1) es) ≡ live_of_all q es
    go [] = refl
    go (e ∷ es) = sum_by-cons (live_of q) e.1 (map (λ (e : ℕ × Table). e.1) es) ∙ ap (λ n. live_of q e.1 + n) (go es)

pub live-total : (q : LogQueue) (m : Tables) → live_in_all q m ≡ total (live_of q) m
unfolding total
live-total q m = live-all q m

live-found : (q : LogQueue) (o : Option Table) → found (live_of q) o ≡ live_in q o
live-found q None = refl
live-found q (Some t) = refl

pub live-remove : (q : LogQueue) (m : Tables) (k : ℕ) → live_in_all q (finite.remove m k) + live_in q (finite.get m k) ≡ live_in_all q m
live-remove q m k = omega (arith, total-remove (live_of q) m k, live-total q (finite.remove m k), live-total q m, live-found q (finite.get m k))

-- one region's table written, or taken away
pub live-with : (q : LogQueue) (m : Tables) (k : ℕ) (t : Option Table) → live_in_all q (with_table m k t) + live_in q (finite.get m k) ≡ live_in_all q m + live_in q t
live-with q m k None = omega (arith, live-remove q m k)
live-with q m k (Some t) = omega (arith, total-insert (live_of q) m k t, live-total q (finite.insert m k t), live-total q m, live-found q (finite.get m k))

pub live-table_of : (q : LogQueue) (k : ℕ) (o : Option Table) → live_of q (table_of k o) ≡ live_in q o
live-table_of q k None = live_of_empty q k
live-table_of q k (Some t) = refl

-- a table's records are counted among all
pub table-counted : (m : Tables) (counts : Counts) (k : ℕ) → AreCountsOf m counts → IsCounted (table_in m k) counts
table-counted m counts k h = λ q. omega (arith, h q, live-table_of q k (finite.get m k), live-remove q m k)

-- where the counts change by one table's records, they are still those of all
pub counted-with : (m : Tables) (old new : Counts) (k : ℕ) (t : Option Table) → AreCountsOf m old → IsRecounted (table_in m k) (table_of k t) old new → AreCountsOf (with_table m k t) new
counted-with m old new k t h r = λ q. omega (arith, h q, r q, live-with q m k t, live-table_of q k (finite.get m k), live-table_of q k t)

pub live-none : (q : LogQueue) → live_in_all q finite.empty ≡ 0
live-none q = live-total q finite.empty ∙ total-none (live_of q)

pub table_live-le : (q : LogQueue) (m : Tables) (k : ℕ) → live_of q (table_in m k) ≤ live_in_all q m
table_live-le q m k = omega (arith, live-table_of q k (finite.get m k), live-remove q m k)

-- a table without records takes nothing off the counts
pub none_deleted : (id : ℕ) (counts : Counts) → with_table_deleted (empty_table id) counts ≡ counts
none_deleted id counts =
    let append : counts.append - live_of Append (empty_table id) ≡ counts.append = omega (arith, live_of_empty Append id) in
    let deleted : counts.deleted + live_of Rewrite (empty_table id) ≡ counts.deleted = omega (arith, live_of_empty Rewrite id) in
    ap (λ n. record counts { append = n; deleted = counts.deleted + live_of Rewrite (empty_table id) }) append ∙ ap (λ n. record counts { deleted = n }) deleted
