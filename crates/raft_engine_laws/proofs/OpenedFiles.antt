-- Any files that could be read: once the rewrite queue is told, the tables that were found are kept.
use Rattle.raft_engine_laws.proofs.Common.{◌≡◌, ℕ, List, [], ◌∷◌, ◌++◌, Option, Some, None, inl, inr, refl, sym, ap, subst, ◌∙◌, option_and_then, EntryIndex, LogQueue, Append, Rewrite, overlay, Step, Compact, table_of, after, Table, AreTableEntries, start_of, same_some}
use Rattle.raft_engine_laws.proofs.Common.{after-append, no_table, table_after, Event, batches, IsReadingOfBoth, steps_of, IsSoundIn, HaveStatus, Apart, RegionStep, Tables, steps_on, steps_of_items, tables_after, reading_by_region, files-append, in_files-append, status-append}
use Rattle.raft_engine_laws.proofs.Common.{steps_good, own_none, HasNoMarker, IsRegionKept, AreKept, MayBeToldLater, IsToldNowOrLater, AreMoved, IsRewrittenNext, unspoken, AreRemovals, SayEnoughAtOpening}
use Rattle.std.specs.FinMap as finite
use Rattle.raft_engine_laws.proofs.BothTables.{both_records}
use Rattle.raft_engine_laws.proofs.OpenedTables.{opened_kept, later_kept, again_nothing}
use Rattle.raft_engine_laws.proofs.FoundTables.{kept_found}
use Rattle.raft_engine_laws.proofs.QueueSteps.{read_places, read_files, read_pairs}
use Rattle.raft_engine_laws.proofs.RewriteReadings.{plain_more, steps_taken, reading_of}
use Rattle.raft_engine_laws.proofs.SameRecords.{HasRecordsOf, kept_records}

-- entries that moved begin where they did
pub moved_start : (content : EntryIndex → List ℕ) (es others : List EntryIndex) → AreMoved content es others → start_of others ≡ start_of es
moved_start content [] [] h = refl
moved_start content (k ∷ es) (e ∷ others) h = sym h.0.0.0
moved_start content [] (e ∷ others) h = absurd h
moved_start content (k ∷ es) [] h = absurd h

module _ (content : EntryIndex → List ℕ) (append rewrite : List Event) (found : Tables) (cleaned : List ℕ) (sound_append : IsSoundIn Append append) (sound_rewrite : IsSoundIn Rewrite rewrite)
    (both : IsReadingOfBoth rewrite append found cleaned) (sound : (r : ℕ) → AreTableEntries (table_of r (finite.get found r)).entries) where
  abbrev kept : ℕ → List Step
  kept r = steps_of r (batches append)

  records : (r : ℕ) → HasRecordsOf (table_of r (finite.get found r)) (overlay (kept r) (table_of r (finite.get both.appended r)) (table_of r (finite.get both.rewritten r)))
  records r = both_records append rewrite found cleaned both r

  -- a region, once it is told
  region : (r : ℕ) (told : List Step) (put : Option Table) → AreRemovals told → SayEnoughAtOpening (kept r) told (table_of r (finite.get both.rewritten r)) (table_of r (finite.get found r)) → after Rewrite r (finite.get both.rewritten r) told ≡ Some put
      → IsRegionKept content r (kept r) [] (table_of r put) (table_of r (finite.get found r))
  region r told put removals says puts =
      let same = (records r).entries in
      kept_records content r (kept r) [] (table_of r put) (overlay (kept r) (table_of r (finite.get both.appended r)) (table_of r (finite.get both.rewritten r))) (table_of r (finite.get found r)) (records r)
      (opened_kept content r (kept r) (finite.get both.appended r) (finite.get both.rewritten r) (steps_good r append sound_append.items) (both.append_read.tables_read r)
      (table_after Rewrite r None (finite.get both.rewritten r) (steps_of r (batches rewrite)) (steps_good r rewrite sound_rewrite.items) (no_table r) (both.rewrite_read.tables_read r)).run
      (subst AreTableEntries same (sound r))
      (read_places Append r append (finite.get both.appended r) sound_append (both.append_read.tables_read r))
      (read_places Rewrite r rewrite (finite.get both.rewritten r) sound_rewrite (both.rewrite_read.tables_read r))
      (read_files Append r append (finite.get both.appended r) sound_append (both.append_read.tables_read r))
      (read_pairs Rewrite r rewrite (finite.get both.rewritten r) sound_rewrite (both.rewrite_read.tables_read r))
      put told removals (record { entries = says.entries ∙ ap (λ l. unspoken (kept r ++ Compact (start_of l) ∷ []) (table_of r (finite.get both.rewritten r)).entries) same; pairs = says.pairs }) puts)

  -- a region, before it is told
  region_later : (r : ℕ) (untold : List Step) → MayBeToldLater (kept r) untold (table_of r (finite.get both.rewritten r)) (table_of r (finite.get found r))
      → IsRegionKept content r (kept r) untold (table_of r (finite.get both.rewritten r)) (table_of r (finite.get found r))
  region_later r untold later =
      let same = (records r).entries in
      kept_records content r (kept r) untold (table_of r (finite.get both.rewritten r)) (overlay (kept r) (table_of r (finite.get both.appended r)) (table_of r (finite.get both.rewritten r))) (table_of r (finite.get found r)) (records r)
      (later_kept content r (kept r) (finite.get both.appended r) (finite.get both.rewritten r) (steps_good r append sound_append.items) (both.append_read.tables_read r)
      (table_after Rewrite r None (finite.get both.rewritten r) (steps_of r (batches rewrite)) (steps_good r rewrite sound_rewrite.items) (no_table r) (both.rewrite_read.tables_read r)).run
      (subst AreTableEntries same (sound r))
      (read_places Append r append (finite.get both.appended r) sound_append (both.append_read.tables_read r))
      (read_places Rewrite r rewrite (finite.get both.rewritten r) sound_rewrite (both.rewrite_read.tables_read r))
      (read_files Append r append (finite.get both.appended r) sound_append (both.append_read.tables_read r))
      (read_pairs Rewrite r rewrite (finite.get both.rewritten r) sound_rewrite (both.rewrite_read.tables_read r))
      untold (record { joins = ap (λ l. unspoken (kept r ++ Compact (start_of l) ∷ []) (table_of r (finite.get both.rewritten r)).entries) (sym same) ∙ later.joins; entries = later.entries; covers = later.covers; pairs = later.pairs; pair_covers = later.pair_covers }))

  -- where all may be told later
  pub opened_later : Apart rewrite → (untold : List RegionStep)
      → ((r : ℕ) → IsToldNowOrLater (kept r) [] (steps_on r untold) (table_of r (finite.get both.rewritten r)) (table_of r (finite.get found r))) → AreKept content append rewrite untold found
  opened_later apart untold each = record {
    append_sound = sound_append;
    rewrite_sound = sound_rewrite;
    apart = apart;
    rewritten = both.rewritten;
    read = both.rewrite_read;
    each = λ r. go r (each r);
  }
    where
      go : (r : ℕ) → IsToldNowOrLater (kept r) [] (steps_on r untold) (table_of r (finite.get both.rewritten r)) (table_of r (finite.get found r))
          → IsRegionKept content r (kept r) (steps_on r untold) (table_of r (finite.get both.rewritten r)) (table_of r (finite.get found r))
      go r (inl now) = subst (λ l. IsRegionKept content r (kept r) l (table_of r (finite.get both.rewritten r)) (table_of r (finite.get found r)))
          (sym now.none) (region r [] (finite.get both.rewritten r) tt now.says refl)
      go r (inr then) = region_later r (steps_on r untold) then.1

  -- where there is nothing to tell
  pub opened_untold : Apart rewrite → ((r : ℕ) → SayEnoughAtOpening (kept r) [] (table_of r (finite.get both.rewritten r)) (table_of r (finite.get found r))) → AreKept content append rewrite [] found
  opened_untold apart none = record {
    append_sound = sound_append;
    rewrite_sound = sound_rewrite;
    apart = apart;
    rewritten = both.rewritten;
    read = both.rewrite_read;
    each = λ r. subst (λ l. IsRegionKept content r (kept r) l (table_of r (finite.get both.rewritten r)) (table_of r (finite.get found r))) (sym (own_none r)) (region r [] (finite.get both.rewritten r) tt (none r) refl);
  }

  module _ (e : Event) (next : IsRewrittenNext rewrite e) (plain : HasNoMarker e) where
    later : (n : Tables) × (tables_after Rewrite both.rewritten (steps_of_items e.items) ≡ Some n)
    later = steps_taken both.rewritten (steps_of_items e.items)

    put_by_region : (r : ℕ) → after Rewrite r (finite.get both.rewritten r) (steps_on r (steps_of_items e.items)) ≡ Some (finite.get later.0 r)
    put_by_region r = reading_by_region Rewrite both.rewritten later.0 (steps_of_items e.items) later.1 r

    read_more : (r : ℕ) → after Rewrite r None (steps_of r (batches (rewrite ++ e ∷ []))) ≡ Some (finite.get later.0 r)
    read_more r =
        ap (after Rewrite r None) (plain_more r rewrite e plain)
        ∙ after-append Rewrite r None (steps_of r (batches rewrite)) (steps_on r (steps_of_items e.items))
        ∙ ap (option_and_then (λ u. after Rewrite r u (steps_on r (steps_of_items e.items)))) (both.rewrite_read.tables_read r) ∙ put_by_region r

    opened_with : (untold : List RegionStep) → ((r : ℕ) → IsRegionKept content r (kept r) (steps_on r untold) (table_of r (finite.get later.0 r)) (table_of r (finite.get found r)))
        → AreKept content append (rewrite ++ e ∷ []) untold found
    opened_with untold regions = record {
      append_sound = sound_append;
      rewrite_sound = record {
        files = files-append Rewrite 0 rewrite (e ∷ []) sound_rewrite.files (next.queue, next.follows, tt);
        items = in_files-append rewrite (e ∷ []) sound_rewrite.items (next.in_file, tt);
        markers = status-append rewrite (e ∷ []) sound_rewrite.markers (subst (λ (q : LogQueue). HaveStatus q e.items) (sym next.queue) next.status, tt);
        accepted = λ r. (finite.get later.0 r, read_more r);
      };
      apart = next.apart;
      rewritten = later.0;
      read = reading_of (rewrite ++ e ∷ []) later.0 read_more;
      each = regions;
    }

    -- some regions are told all now, and all may be told later of the others
    pub opened_mixed : (untold : List RegionStep)
        → ((r : ℕ) → IsToldNowOrLater (kept r) (steps_on r (steps_of_items e.items)) (steps_on r untold) (table_of r (finite.get both.rewritten r)) (table_of r (finite.get found r)))
        → AreKept content append (rewrite ++ e ∷ []) untold found
    opened_mixed untold each = opened_with untold (λ r. go r (each r))
      where
        go : (r : ℕ) → IsToldNowOrLater (kept r) (steps_on r (steps_of_items e.items)) (steps_on r untold) (table_of r (finite.get both.rewritten r)) (table_of r (finite.get found r))
            → IsRegionKept content r (kept r) (steps_on r untold) (table_of r (finite.get later.0 r)) (table_of r (finite.get found r))
        go r (inl now) = subst (λ l. IsRegionKept content r (kept r) l (table_of r (finite.get later.0 r)) (table_of r (finite.get found r)))
            (sym now.none) (region r (steps_on r (steps_of_items e.items)) (finite.get later.0 r) now.removals now.says (put_by_region r))
        go r (inr then) = subst (λ o. IsRegionKept content r (kept r) (steps_on r untold) (table_of r o) (table_of r (finite.get found r)))
            (same_some _ _ (sym (ap (after Rewrite r (finite.get both.rewritten r)) then.0) ∙ put_by_region r))
            (region_later r (steps_on r untold) then.1)

    module _ (removals : (r : ℕ) → AreRemovals (steps_on r (steps_of_items e.items))) (told : (r : ℕ) → SayEnoughAtOpening (kept r) (steps_on r (steps_of_items e.items)) (table_of r (finite.get both.rewritten r)) (table_of r (finite.get found r))) where
      pub opened : AreKept content append (rewrite ++ e ∷ []) [] found
      opened = opened_with [] (λ r. subst (λ l. IsRegionKept content r (kept r) l (table_of r (finite.get later.0 r)) (table_of r (finite.get found r)))
          (sym (own_none r)) (region r (steps_on r (steps_of_items e.items)) (finite.get later.0 r) (removals r) (told r) (put_by_region r)))

      -- a reading once it is told tells nothing more
      pub nothing_again : (others : Tables) (cleaned' : List ℕ) (too : IsReadingOfBoth (rewrite ++ e ∷ []) append others cleaned')
          → (r : ℕ) → SayEnoughAtOpening (kept r) [] (table_of r (finite.get too.rewritten r)) (table_of r (finite.get others r))
      nothing_again others cleaned' too r =
          subst (λ o. SayEnoughAtOpening (kept r) [] (table_of r o) (table_of r (finite.get others r)))
          (same_some _ _ (sym (read_more r) ∙ too.rewrite_read.tables_read r))
          (again_nothing content r (kept r) (finite.get both.appended r) (finite.get both.rewritten r) (steps_good r append sound_append.items) (both.append_read.tables_read r)
          (table_after Rewrite r None (finite.get both.rewritten r) (steps_of r (batches rewrite)) (steps_good r rewrite sound_rewrite.items) (no_table r) (both.rewrite_read.tables_read r)).run
          (subst AreTableEntries (records r).entries (sound r))
          (read_places Append r append (finite.get both.appended r) sound_append (both.append_read.tables_read r))
          (read_places Rewrite r rewrite (finite.get both.rewritten r) sound_rewrite (both.rewrite_read.tables_read r))
          (read_files Append r append (finite.get both.appended r) sound_append (both.append_read.tables_read r))
          (read_pairs Rewrite r rewrite (finite.get both.rewritten r) sound_rewrite (both.rewrite_read.tables_read r))
          (finite.get later.0 r) (steps_on r (steps_of_items e.items)) (removals r)
          (record { entries = (told r).entries ∙ ap (λ l. unspoken (kept r ++ Compact (start_of l) ∷ []) (table_of r (finite.get both.rewritten r)).entries) (records r).entries; pairs = (told r).pairs })
          (put_by_region r) (table_of r (finite.get others r))
          (moved_start content (table_of r (finite.get found r)).entries (table_of r (finite.get others r)).entries ((kept_found content append (rewrite ++ e ∷ []) [] found others cleaned' opened too).entries r)
          ∙ ap start_of (records r).entries))
