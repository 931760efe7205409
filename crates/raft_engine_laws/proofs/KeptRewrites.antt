-- A batch more in the rewrite queue: it is held, it moves records, or it tells.
use Rattle.raft_engine_laws.proofs.Common.{◌≡◌, ℕ, List, [], ◌∷◌, ◌++◌, Option, Some, None, sym, ap, subst, ◌∙◌, append-nil, option_and_then, EntryIndex, LogQueue, Rewrite, table_of, after, Table, same_some, after-append, Event, batch_of, batches, steps_of, HaveStatus}
use Rattle.raft_engine_laws.proofs.Common.{IsOneReading, RegionStep, Tables, steps_on, steps_of_items, tables_after, reading_by_region, batches-append, files-append, in_files-append, status-append, own_none, HasNoMarker, LeavesOpen, IsRegionKept, AreKept, AreRecordsMoved}
use Rattle.raft_engine_laws.proofs.Common.{IsRewrittenNext, AreRemovals, SayTheSame}
use Rattle.std.specs.FinMap as finite
use Rattle.raft_engine_laws.proofs.GroupLemmas.{held_adds}
use Rattle.raft_engine_laws.proofs.RewriteReadings.{steps_taken, plain_more, reading_of}
use Rattle.raft_engine_laws.proofs.RewrittenRegion.{rewrite_kept}
use Rattle.raft_engine_laws.proofs.ToldRegion.{told_kept}

module _ (content : EntryIndex → List ℕ) (append rewrite : List Event) (untold : List RegionStep) (tables : Tables) (e : Event) (h : AreKept content append rewrite untold tables) (next : IsRewrittenNext rewrite e) where
  -- the store with this batch, where each region is kept so
  pub kept_with : (put : Tables) → IsOneReading Rewrite (rewrite ++ e ∷ []) put []
      → (untold' : List RegionStep) (new : Tables) →
      ((r : ℕ) → IsRegionKept content r (steps_of r (batches append)) (steps_on r untold') (table_of r (finite.get put r))
      (table_of r (finite.get new r))) → AreKept content append (rewrite ++ e ∷ []) untold' new
  kept_with put read untold' new each = record {
    append_sound = h.append_sound;
    rewrite_sound = record {
      files = files-append Rewrite 0 rewrite (e ∷ []) h.rewrite_sound.files (next.queue, next.follows, tt);
      items = in_files-append rewrite (e ∷ []) h.rewrite_sound.items (next.in_file, tt);
      markers = status-append rewrite (e ∷ []) h.rewrite_sound.markers (subst (λ (q : LogQueue). HaveStatus q e.items) (sym next.queue) next.status, tt);
      accepted = λ r. (finite.get put r, read.tables_read r);
    };
    apart = next.apart;
    rewritten = put;
    read = read;
    each = each;
  }

  -- a batch that leaves its group open changes nothing
  pub held_kept : LeavesOpen e → AreKept content append (rewrite ++ e ∷ []) untold tables
  held_kept held = kept_with h.rewritten
      (reading_of (rewrite ++ e ∷ []) h.rewritten
      (λ r. ap (after Rewrite r None) (ap (steps_of r) (batches-append rewrite (e ∷ [])) ∙ held_adds r (batches rewrite) (batch_of e) held)
      ∙ h.read.tables_read r)) untold tables h.each

-- records move: the batch has copies of them, behind what the rewritten tables have of the first
pub moved_kept : (content : EntryIndex → List ℕ) (append rewrite : List Event) (tables new rewritten put : Tables) (e : Event) → AreKept content append rewrite [] tables → IsRewrittenNext rewrite e
    → IsOneReading Rewrite rewrite rewritten [] → IsOneReading Rewrite (rewrite ++ e ∷ []) put []
    → ((r : ℕ) → AreRecordsMoved content e.file (table_of r (finite.get tables r)) (table_of r (finite.get new r)) (table_of r (finite.get rewritten r)) (table_of r (finite.get put r)))
    → AreKept content append (rewrite ++ e ∷ []) [] new
moved_kept content append rewrite tables new rewritten put e h next read read_put moves = kept_with content append rewrite [] tables e h next put read_put [] new each
  where
    moves_so : (r : ℕ) → AreRecordsMoved content e.file (table_of r (finite.get tables r)) (table_of r (finite.get new r)) (table_of r (finite.get h.rewritten r)) (table_of r (finite.get put r))
    moves_so r = subst (λ (o : Option Table). AreRecordsMoved content e.file (table_of r (finite.get tables r)) (table_of r (finite.get new r))
        (table_of r o) (table_of r (finite.get put r))) (same_some _ _ (sym (read.tables_read r) ∙ h.read.tables_read r)) (moves r)

    each : (r : ℕ) → IsRegionKept content r (steps_of r (batches append)) (steps_on r []) (table_of r (finite.get put r)) (table_of r (finite.get new r))
    each r =
        subst (λ l. IsRegionKept content r (steps_of r (batches append)) l (table_of r (finite.get put r)) (table_of r (finite.get new r))) (sym (own_none r))
        (rewrite_kept content r (steps_of r (batches append)) e.file (table_of r (finite.get h.rewritten r)) (table_of r (finite.get put r)) (table_of r (finite.get tables r)) (table_of r (finite.get new r))
        (subst (λ l. IsRegionKept content r (steps_of r (batches append)) l (table_of r (finite.get h.rewritten r)) (table_of r (finite.get tables r))) (own_none r) (h.each r)) (moves_so r))

module _ (content : EntryIndex → List ℕ) (append rewrite : List Event) (untold : List RegionStep) (tables : Tables) (e : Event)
    (h : AreKept content append rewrite untold tables) (next : IsRewrittenNext rewrite e) (plain : HasNoMarker e) where
  pub put_more : (n : Tables) × (tables_after Rewrite h.rewritten (steps_of_items e.items) ≡ Some n)
  put_more = steps_taken h.rewritten (steps_of_items e.items)

  -- the rewritten tables after the batch
  abbrev pub put_tables : Tables
  put_tables = put_more.0

  pub put_by_region : (r : ℕ) → after Rewrite r (finite.get h.rewritten r) (steps_on r (steps_of_items e.items)) ≡ Some (finite.get put_tables r)
  put_by_region r = reading_by_region Rewrite h.rewritten put_tables (steps_of_items e.items) put_more.1 r

  pub read_more : (r : ℕ) → after Rewrite r None (steps_of r (batches (rewrite ++ e ∷ []))) ≡ Some (finite.get put_tables r)
  read_more r = ap (after Rewrite r None) (plain_more r rewrite e plain) ∙ after-append Rewrite r None (steps_of r (batches rewrite))
      (steps_on r (steps_of_items e.items)) ∙ ap (option_and_then (λ u. after Rewrite r u (steps_on r (steps_of_items e.items))))
      (h.read.tables_read r) ∙ put_by_region r

  -- the rewrite queue is told some of it
  pub telling_kept : (left : List RegionStep) → ((r : ℕ) → AreRemovals (steps_on r (steps_of_items e.items))) → ((r : ℕ) → SayTheSame (steps_on r (steps_of_items e.items) ++ steps_on r left) (steps_on r untold))
      → AreKept content append (rewrite ++ e ∷ []) left tables
  telling_kept left removals same = kept_with content append rewrite untold tables e h next put_tables (reading_of (rewrite ++ e ∷ []) put_tables read_more) left tables
      (λ r. told_kept content r (steps_of r (batches append)) (steps_on r untold) (finite.get h.rewritten r) (table_of r (finite.get tables r))
      (h.each r) (steps_on r (steps_of_items e.items)) (steps_on r left) (removals r) (same r) (finite.get put_tables r) (put_by_region r))

  -- and all of it
  pub told_all_kept : ((r : ℕ) → AreRemovals (steps_on r (steps_of_items e.items))) → ((r : ℕ) → SayTheSame (steps_on r (steps_of_items e.items)) (steps_on r untold)) → AreKept content append (rewrite ++ e ∷ []) [] tables
  told_all_kept removals same = telling_kept [] removals
      (λ r. subst (λ l. SayTheSame l (steps_on r untold))
      (sym (ap (λ l. steps_on r (steps_of_items e.items) ++ l) (own_none r) ∙ append-nil (steps_on r (steps_of_items e.items)))) (same r))
