-- A batch more in the append queue.
use Rattle.raft_engine_laws.proofs.Common.{◌≡◌, ℕ, Bool, true, false, cond, List, [], ◌∷◌, ◌++◌, map, sym, ap, subst, ◌∙◌, append-nil, arith, filter, AllByRecursion, EntryIndex, LogQueue, Append, Step, AreSteps, table_of, IsStepOfQueue, Event, batches, steps_of, HaveStatus}
use Rattle.raft_engine_laws.proofs.Common.{FilesFrom, RegionStep, Tables, steps_on, steps_of_items, items_in_queue, files-append, in_files-append, status-append, steps_good, without_marker, own-append, plain-append, plain_steps, is_on, IsRegionKept, AreKept, IsWrittenNext}
use Rattle.std.specs.FinMap as finite
use Rattle.raft_engine_laws.proofs.WrittenTables.{items_by_region, writes_kept}

-- the steps on a region among such as are all so
pub on_region : (P : Step → Type 0) (r : ℕ) (is : List RegionStep) → AllByRecursion (λ (i : RegionStep). P i.step) is → AllByRecursion P (steps_on r is)
unfolding steps_on
on_region P r [] h = tt
on_region P r (i ∷ is) h = go (is_on r i) (on_region P r is h.1)
  where
    go : (b : Bool) → AllByRecursion P (map (λ i. i.step) (filter (is_on r) is)) → AllByRecursion P (map (λ i. i.step) (cond b (i ∷ filter (is_on r) is) (filter (is_on r) is)))
    go true rest = (h.0, rest)
    go false rest = rest

module _ (content : EntryIndex → List ℕ) (append rewrite : List Event) (untold : List RegionStep) (tables new : Tables) (e : Event) (h : AreKept content append rewrite untold tables)
    (next : IsWrittenNext append tables e new) where
  alone : FilesFrom Append 0 (e ∷ [])
  alone = (next.queue, omega arith, tt)

  files : FilesFrom Append 0 (append ++ e ∷ [])
  files = files-append Append 0 append (e ∷ []) h.append_sound.files (next.queue, next.follows, tt)

  one : (r : ℕ) → steps_of r (batches (e ∷ [])) ≡ steps_on r (steps_of_items e.items)
  one r = plain_steps r (batches (e ∷ [])) (without_marker 0 (e ∷ []) alone) ∙ append-nil (steps_on r (steps_of_items e.items))

  steps_more : (r : ℕ) → steps_of r (batches (append ++ e ∷ [])) ≡ steps_of r (batches append) ++ steps_on r (steps_of_items e.items)
  steps_more r = plain-append r append (e ∷ []) h.append_sound.files alone files ∙ ap (λ l. steps_of r (batches append) ++ l) (one r)

  status : HaveStatus e.file.queue e.items
  status = subst (λ (q : LogQueue). HaveStatus q e.items) (sym next.queue) tt

  region : (r : ℕ) → IsRegionKept content r (steps_of r (batches (append ++ e ∷ []))) (steps_on r (untold ++ steps_of_items e.items)) (table_of r (finite.get h.rewritten r)) (table_of r (finite.get new r))
  region r =
      subst (λ l. IsRegionKept content r l (steps_on r (untold ++ steps_of_items e.items)) (table_of r (finite.get h.rewritten r)) (table_of r (finite.get new r))) (sym (steps_more r))
      (subst (λ l. IsRegionKept content r (steps_of r (batches append) ++ steps_on r (steps_of_items e.items)) l (table_of r (finite.get h.rewritten r)) (table_of r (finite.get new r))) (sym (own-append r untold (steps_of_items e.items)))
      (writes_kept content r (steps_of r (batches append)) (steps_on r untold) (table_of r (finite.get h.rewritten r)) (finite.get tables r) (finite.get new r) (steps_on r (steps_of_items e.items)) (h.each r)
      (subst AreSteps (one r) (steps_good r (e ∷ []) (next.in_file, tt)))
      (on_region (IsStepOfQueue Append) r (steps_of_items e.items) (items_in_queue Append e.file e.items next.queue next.in_file))
      (items_by_region tables new e.items next.taken r)))

  -- a batch is written to the append queue and to the tables
  pub written_kept : AreKept content (append ++ e ∷ []) rewrite (untold ++ steps_of_items e.items) new
  written_kept = record {
    append_sound = record {
      files = files;
      items = in_files-append append (e ∷ []) h.append_sound.items (next.in_file, tt);
      markers = status-append append (e ∷ []) h.append_sound.markers (status, tt);
      accepted = λ r. ((region r).own, (region r).read);
    };
    rewrite_sound = h.rewrite_sound;
    apart = h.apart;
    rewritten = h.rewritten;
    read = h.read;
    each = region;
  }
