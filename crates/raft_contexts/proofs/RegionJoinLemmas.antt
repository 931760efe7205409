-- One region of a newer neighbor joined.
use Rattle.raft_contexts.proofs.Common.{◌≡◌, ◌≤◌, ◌+◌, ℕ, Table, Option, Some, sym, ap, subst, ◌∙◌, arith, unwrap_or, option_map, LogQueue, Mark, fresh, joined_mark, joined_at, end_at_reach, table_over_older, live_of, IsRunOver, stands_run}
use Rattle.raft_contexts.proofs.Common.{StandForSteps, Marks, MarkedRegions, region_in, with_region, joined_region, Tables, with_table, table_in, live_in, live_in_all, mark_in, AreRunsOver, get_own, live-with, live-table_of}
use Rattle.std.specs.FinMap as finite

-- where both sides stand for steps, what the newer marks make of the older entries is a run
pub stand_runs : (queue : LogQueue) (older newer : MarkedRegions) → StandForSteps queue older → StandForSteps queue newer → AreRunsOver queue newer.marks newer.tables older.tables
stand_runs queue older newer h k r m is =
    subst (λ (m : Mark). IsRunOver queue m (table_in newer.tables r) (table_in older.tables r)) (ap (λ (o : Option Mark). unwrap_or o fresh) is)
    (stands_run queue r (region_in newer r).mark (region_in newer r).table (region_in older r).table (k r).0 (k r).1 (h r).2.stands.own_table (k r).2.stands)

-- a region's mark and table were joined
pub region_with : (old new : MarkedRegions) (id : ℕ) (m : Mark) → new.tables ≡ with_table old.tables id (finite.get new.tables id) → new.marks ≡ finite.insert old.marks id m → new ≡ with_region old id (region_in new id)
region_with old new id m t e =
    ap (λ (tables : Tables). record { tables = tables; marks = new.marks }) t
    ∙ ap (λ (marks : Marks). record { tables = with_table old.tables id (finite.get new.tables id); marks = marks }) (e ∙ ap (finite.insert old.marks id) (sym (mark_now old new id m e)))
  where
    mark_now : (old new : MarkedRegions) (id : ℕ) (m : Mark) → new.marks ≡ finite.insert old.marks id m → (region_in new id).mark ≡ m
    mark_now old new id m e = ap (λ (o : Option Mark). unwrap_or o fresh) (ap (λ x. finite.get x id) e ∙ get_own old.marks id m)

pub region_joined : (queue : LogQueue) (old new : MarkedRegions) (id : ℕ) (m : Mark) (newer : Option Table) (end : ℕ) →
    end ≡ end_at_reach m (table_in old.tables id) → new.marks ≡ finite.insert old.marks id (joined_at queue end (mark_in old.marks id) m)
    → table_over_older queue id m newer (finite.get old.tables id) ≡ Some (finite.get new.tables id) → joined_region queue id (region_in old id) record { mark = m; table = newer } ≡ Some (region_in new id)
region_joined queue old new id m newer end at e is =
    let now : (region_in new id).mark ≡ joined_at queue end (mark_in old.marks id) m = ap (λ (o : Option Mark). unwrap_or o fresh) (ap (λ x. finite.get x id) e ∙ get_own old.marks id _) in
    ap (option_map (λ t. record { mark = joined_mark queue id (region_in old id).mark (region_in old id).table m; table = t })) is
    ∙ ap (λ (n : Mark). Some (record { mark = n; table = finite.get new.tables id })) (ap (λ x. joined_at queue x (mark_in old.marks id) m) (sym at) ∙ sym now)

pub live_joined : (q : LogQueue) (old new : Tables) (id : ℕ) (newer : Option Table) → new ≡ with_table old id (finite.get new id) →
    live_of q (table_in new id) ≤ live_of q (table_in old id) + live_in q newer → live_in_all q new ≤ live_in_all q old + live_in q newer
live_joined q old new id newer one few =
    omega (arith, ap (live_in_all q) one, live-with q old id (finite.get new id), live-table_of q id (finite.get new id), live-table_of q id (finite.get old id), few)
