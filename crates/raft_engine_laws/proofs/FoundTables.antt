-- What a recovery of both queues finds: the records of the kept tables.
use Rattle.raft_engine_laws.proofs.Common.{◌≡◌, ℕ, List, Option, sym, subst, ◌∙◌, EntryIndex, overlay, Step, table_of, Table, same_some, Event, batches, IsReadingOfBoth, steps_of, RegionStep, Tables, steps_on, IsMovedPair, AreKept, AreMoved, AreFound}
use Rattle.std.specs.FinMap as finite
use Rattle.raft_engine_laws.proofs.BothTables.{both_records}
use Rattle.raft_engine_laws.proofs.OverlaidPairs.{overlaid_pairs}
use Rattle.raft_engine_laws.proofs.RecoveredRegion.{recovered_entries}
use Rattle.raft_engine_laws.proofs.SameRecords.{HasRecordsOf}

module _ (content : EntryIndex → List ℕ) (append rewrite : List Event) (untold : List RegionStep) (tables found : Tables) (cleaned : List ℕ)
    (h : AreKept content append rewrite untold tables) (both : IsReadingOfBoth rewrite append found cleaned) where
  abbrev kept : ℕ → List Step
  kept r = steps_of r (batches append)

  rewritten_same : (r : ℕ) → finite.get both.rewritten r ≡ finite.get h.rewritten r
  rewritten_same r = same_some _ _ (sym (both.rewrite_read.tables_read r) ∙ h.read.tables_read r)

  appended_same : (r : ℕ) → finite.get both.appended r ≡ (h.each r).own
  appended_same r = same_some _ _ (sym (both.append_read.tables_read r) ∙ (h.each r).read)

  -- what is found has the records of the overlay
  pub found_records : (r : ℕ) → HasRecordsOf (table_of r (finite.get found r)) (overlay (kept r) (table_of r (h.each r).own) (table_of r (finite.get h.rewritten r)))
  found_records r =
      subst (λ (o : Option Table). HasRecordsOf (table_of r (finite.get found r)) (overlay (kept r) (table_of r o) (table_of r (finite.get h.rewritten r)))) (appended_same r)
      (subst (λ (o : Option Table). HasRecordsOf (table_of r (finite.get found r)) (overlay (kept r) (table_of r (finite.get both.appended r)) (table_of r o))) (rewritten_same r)
      (both_records append rewrite found cleaned both r))

  pub kept_found : AreFound content tables found
  kept_found = record {
    entries = λ r. subst (AreMoved content (table_of r (finite.get tables r)).entries) (sym (found_records r).entries)
        (recovered_entries content r (kept r) (steps_on r untold) (table_of r (finite.get h.rewritten r)) (table_of r (finite.get tables r))
        (h.each r));
    pairs = λ r key. subst (IsMovedPair (finite.get (table_of r (finite.get tables r)).keys key)) (sym ((found_records r).pairs key))
        (overlaid_pairs content r (kept r) (steps_on r untold) (table_of r (finite.get h.rewritten r)) (table_of r (finite.get tables r))
        (h.each r) key);
  }
