-- Kept tables that are read again are kept, and the rewrite queue has been told nothing yet of what stands in the append files.
use Rattle.raft_engine_laws.proofs.Common.{◌≡◌, ℕ, List, [], ◌∷◌, ◌++◌, sym, ap, subst, ◌∙◌, flat_map, EntryIndex, Append, Rewrite, overlay, Step, table_of, Event, BatchSteps, batches, IsReadingOfBoth, steps_of, FilesFrom, RegionStep, Tables, steps_on, steps_of_items}
use Rattle.raft_engine_laws.proofs.Common.{without_marker, own-append, own_none, plain_steps, IsRegionKept, AreKept}
use Rattle.std.specs.FinMap as finite
use Rattle.raft_engine_laws.proofs.FoundTables.{found_records}
use Rattle.raft_engine_laws.proofs.QueueSteps.{read_places, read_files, read_pairs}
use Rattle.raft_engine_laws.proofs.ReopenedRegion.{reopened_kept}
use Rattle.raft_engine_laws.proofs.SameRecords.{HasRecordsOf, kept_records}

-- all steps of the batches, in order
abbrev pub all_steps_of : List Event → List RegionStep
all_steps_of h = flat_map (λ (e : Event). steps_of_items e.items) h

on_all : (r : ℕ) (h : List Event) → steps_on r (all_steps_of h) ≡ flat_map (λ (b : BatchSteps). steps_on r b.steps) (batches h)
on_all r [] = own_none r
on_all r (e ∷ h) = own-append r (steps_of_items e.items) (all_steps_of h) ∙ ap (λ l. steps_on r (steps_of_items e.items) ++ l) (on_all r h)

-- they are those of the append queue's history, where no batch has a group marker
pub all_steps : (r : ℕ) (h : List Event) → FilesFrom Append 0 h → steps_on r (all_steps_of h) ≡ steps_of r (batches h)
all_steps r h files = on_all r h ∙ sym (plain_steps r (batches h) (without_marker 0 h files))

module _ (content : EntryIndex → List ℕ) (append rewrite : List Event) (untold : List RegionStep) (tables found : Tables) (cleaned : List ℕ)
    (h : AreKept content append rewrite untold tables) (both : IsReadingOfBoth rewrite append found cleaned) where
  abbrev kept : ℕ → List Step
  kept r = steps_of r (batches append)

  all_are : (r : ℕ) → steps_on r (all_steps_of append) ≡ kept r
  all_are r = all_steps r append h.append_sound.files

  records : (r : ℕ) → HasRecordsOf (table_of r (finite.get found r)) (overlay (kept r) (table_of r (h.each r).own) (table_of r (finite.get h.rewritten r)))
  records r = found_records content append rewrite untold tables found cleaned h both r

  -- what is recovered is kept, whatever its entries are said to have as contents, and the rewrite queue is told nothing yet of what stands in the append files
  pub reopened : (other : EntryIndex → List ℕ) → AreKept other append rewrite (all_steps_of append) found
  reopened other = record {
    append_sound = h.append_sound;
    rewrite_sound = h.rewrite_sound;
    apart = h.apart;
    rewritten = h.rewritten;
    read = h.read;
    each = λ r. subst (λ l. IsRegionKept other r (kept r) l (table_of r (finite.get h.rewritten r)) (table_of r (finite.get found r))) (sym (all_are r))
        (kept_records other r (kept r) (kept r) (table_of r (finite.get h.rewritten r)) (overlay (kept r) (table_of r (h.each r).own) (table_of r (finite.get h.rewritten r))) (table_of r (finite.get found r)) (records r)
        (reopened_kept content r (kept r) (steps_on r untold) (table_of r (finite.get h.rewritten r)) (table_of r (finite.get tables r)) (h.each r)
        (read_places Append r append (h.each r).own h.append_sound (h.each r).read)
        (read_places Rewrite r rewrite (finite.get h.rewritten r) h.rewrite_sound (h.read.tables_read r))
        (read_files Append r append (h.each r).own h.append_sound (h.each r).read)
        (read_pairs Rewrite r rewrite (finite.get h.rewritten r) h.rewrite_sound (h.read.tables_read r)) other));
  }
