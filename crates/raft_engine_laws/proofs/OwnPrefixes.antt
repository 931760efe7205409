-- Of files that keep tables, nothing that a recovery finds was dropped in front: so all may be told later.
use Rattle.raft_engine_laws.proofs.Common.{◌≡◌, ℕ, ◌≤◌, Bool, true, false, cond, ◌||◌, List, [], ◌∷◌, ◌++◌, refl, sym, ap, subst, ◌∙◌, EntryIndex, Rewrite, Step, Compact, table_of, Table, placed_in, is_placed_in, start_of, same_some, rises, Event, batches, IsReadingOfBoth}
use Rattle.raft_engine_laws.proofs.Common.{steps_of, RegionStep, Tables, steps_on, IsRegionKept, AreKept, is_index_spoken, unspoken}
use Rattle.std.specs.FinMap as finite
use Rattle.raft_engine_laws.proofs.EachLemmas.{Each}
use Rattle.raft_engine_laws.proofs.FoundTables.{kept_found}
use Rattle.raft_engine_laws.proofs.OpenedEntries.{all_from, rise_above}
use Rattle.raft_engine_laws.proofs.OpenedFiles.{moved_start}
use Rattle.raft_engine_laws.proofs.UnspokenLemmas.{unspoken-steps, unspoken-compact, unspoken_same, spoken-append, all_left}

each_placed : (s : ℕ) (es : List EntryIndex) → Each (λ n. s ≤ n) es → Each (λ n. s ≤ n) (placed_in Rewrite es)
unfolding placed_in
each_placed s [] h = tt
each_placed s (e ∷ es) h = go (is_placed_in Rewrite e) (each_placed s es h.1)
  where
    go : (b : Bool) → Each (λ n. s ≤ n) (placed_in Rewrite es) → Each (λ n. s ≤ n) (cond b (e ∷ placed_in Rewrite es) (placed_in Rewrite es))
    go true k = (h.0, k)
    go false k = k

covered : (a b : Bool) → (a ≡ true → b ≡ true) → (a || b) ≡ b
covered true b h = sym (h refl)
covered false b h = refl

pub region_joins : (content : EntryIndex → List ℕ) (id : ℕ) (kept untold : List Step) (rewritten t : Table) → IsRegionKept content id kept untold rewritten t → (start : ℕ) → start ≡ start_of t.entries
    → unspoken (kept ++ Compact start ∷ []) rewritten.entries ≡ unspoken kept rewritten.entries
region_joins content id kept untold rewritten t h start is =
    sym (unspoken-steps kept (Compact start ∷ []) rewritten.entries) ∙ unspoken-compact start (unspoken kept rewritten.entries) ∙ all_from start (unspoken kept rewritten.entries) each
  where
    through : unspoken kept rewritten.entries ≡ unspoken kept (placed_in Rewrite t.entries)
    through =
        sym (unspoken_same (untold ++ kept) kept rewritten.entries (λ i. spoken-append untold kept i ∙ covered (is_index_spoken untold i) (is_index_spoken kept i) (h.covers i)))
        ∙ sym (unspoken-steps untold kept rewritten.entries)
        ∙ ap (unspoken kept) h.told

    above : Each (λ n. start ≤ n) t.entries
    above = subst (λ s. Each (λ n. s ≤ n) t.entries) (sym is) (rise_above (start_of t.entries) t.entries (rises t.entries h.sound.consecutive.run))

    each : Each (λ n. start ≤ n) (unspoken kept rewritten.entries)
    each = subst (Each (λ n. start ≤ n)) (sym through) (all_left (λ (e : EntryIndex). start ≤ e.index) kept (placed_in Rewrite t.entries) (each_placed start t.entries above))

pub own_joins : (content : EntryIndex → List ℕ) (append rewrite : List Event) (untold : List RegionStep) (tables found : Tables) (cleaned : List ℕ) → AreKept content append rewrite untold tables
    → (both : IsReadingOfBoth rewrite append found cleaned) → (r : ℕ)
    → unspoken (steps_of r (batches append) ++ Compact (start_of (table_of r (finite.get found r)).entries) ∷ []) (table_of r (finite.get both.rewritten r)).entries
    ≡ unspoken (steps_of r (batches append)) (table_of r (finite.get both.rewritten r)).entries
own_joins content append rewrite untold tables found cleaned h both r =
    subst (λ o. unspoken (steps_of r (batches append) ++ Compact (start_of (table_of r (finite.get found r)).entries) ∷ []) (table_of r o).entries ≡ unspoken (steps_of r (batches append)) (table_of r o).entries)
    (same_some _ _ (sym (h.read.tables_read r) ∙ both.rewrite_read.tables_read r))
    (region_joins content r (steps_of r (batches append)) (steps_on r untold) (table_of r (finite.get h.rewritten r)) (table_of r (finite.get tables r)) (h.each r)
    (start_of (table_of r (finite.get found r)).entries)
    (moved_start content (table_of r (finite.get tables r)).entries (table_of r (finite.get found r)).entries ((kept_found content append rewrite untold tables found cleaned h both).entries r)))
