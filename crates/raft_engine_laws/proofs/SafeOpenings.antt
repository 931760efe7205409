-- An engine is opened over any sound files.
use Rattle.raft_engine_laws.proofs.Common.{◌≡◌, ◌⊎◌, ℕ, ◌≤◌, cond, List, [], ◌∷◌, ◌++◌, Option, None, option_map, inl, inr, refl, sym, ap, subst, ◌∙◌, arith, EntryIndex, LogQueue, Append, Rewrite, IsRun, Stored, overlay, overlaid_table, Step, AreSteps, table_of, Table}
use Rattle.raft_engine_laws.proofs.Common.{AreTableEntries, same_some, no_table, table_after, Event, batches, IsReadingOfBoth, steps_of, is_named, FilesFrom, Apart, IsSoundIn, RegionStep, Tables, steps_on, steps_of_items, steps_good, HasNoMarker, AreKept, IsToldNowOrLater}
use Rattle.raft_engine_laws.proofs.Common.{IsRewrittenNext, Records, entries_told, after_changes, live, HasRecords, HaveRecords, Deed, Write, Sync, Crash, written, deleted, MayStand, in_files_from, IsLeft, IsNextIn, LoseNothing, IsSafe, AreRemovals, SayEnoughAtOpening}
use Rattle.std.specs.FinMap as finite
use Rattle.raft_engine_laws.proofs.BaseRecords as before
use Rattle.raft_engine_laws.proofs.BothTables.{both_records}
use Rattle.raft_engine_laws.proofs.FoundTables.{kept_found}
use Rattle.raft_engine_laws.proofs.GroupRows.{alone_apart}
use Rattle.raft_engine_laws.proofs.OpenedFiles.{opened, opened_untold, opened_later, opened_mixed}
use Rattle.raft_engine_laws.proofs.RecordLemmas.{found_have}
use Rattle.raft_engine_laws.proofs.Reopened.{all_steps}
use Rattle.raft_engine_laws.proofs.SameRecords.{HasRecordsOf}
use Rattle.raft_engine_laws.proofs.CrashLemmas.{all_from}

-- where no file is deleted, all is left that stands
all_left : (q : LogQueue) (deeds : List Deed) (h k : List Event) (n : ℕ) → FilesFrom q 0 h → deleted deeds ≡ 0 → n ≤ deleted deeds → k ≡ h → in_files_from n k ≡ h
all_left q deeds h k n files none low same =
    let zero : n ≡ 0 = omega (arith, none, low) in
    ap (in_files_from n) same ∙ ap (λ i. in_files_from i h) zero ∙ all_from q 0 0 h files (omega arith)

-- what is left of the batches that stood when the machine crashed, of which none are gone, are all of them
pub left_of_crash : (q : LogQueue) (h standing k : List Event) → FilesFrom q 0 h → IsLeft (Crash h 0 ∷ []) standing k → k ≡ h
left_of_crash q h standing k files x = x.left ∙ all_left q (Crash h 0 ∷ []) h standing x.gone files refl x.may_go.at_most x.stands

module _ (append rewrite : List Event) (found : Tables) (cleaned : List ℕ) (sound_append : IsSoundIn Append append) (sound_rewrite : IsSoundIn Rewrite rewrite) (apart : Apart rewrite)
    (both : IsReadingOfBoth rewrite append found cleaned) (sound : (r : ℕ) → AreTableEntries (table_of r (finite.get found r)).entries) where
  abbrev kept : ℕ → List Step
  kept r = steps_of r (batches append)

  good : (r : ℕ) → AreSteps (kept r)
  good r = steps_good r append sound_append.items

  run : (r : ℕ) → IsRun (table_of r (finite.get both.rewritten r)).entries
  run r = (table_after Rewrite r None (finite.get both.rewritten r) (steps_of r (batches rewrite)) (steps_good r rewrite sound_rewrite.items) (no_table r) (both.rewrite_read.tables_read r)).run

  -- what was found that no step of the append files makes
  pub base : (EntryIndex → List ℕ) → ℕ → Records
  base content r = before.base content r (kept r) (finite.get both.appended r) (finite.get both.rewritten r) (good r) (both.append_read.tables_read r) (run r)

  module _ (content : EntryIndex → List ℕ) where
    -- the tables that were found have the records that the append files make of it
    found_live : HaveRecords content found (live content (base content) append)
    unfolding live base
    found_live r =
        let same : HasRecordsOf (table_of r (finite.get found r)) (overlay (kept r) (table_of r (finite.get both.appended r)) (table_of r (finite.get both.rewritten r))) = both_records append rewrite found cleaned both r in
        let has = before.overlay_has content r (kept r) (finite.get both.appended r) (finite.get both.rewritten r) (good r) (both.append_read.tables_read r) (run r) in
        subst (λ ss. HasRecords content (table_of r (finite.get found r)) (after_changes content (base content r) ss)) (sym (all_steps r append sound_append.files)) (record {
          entries = ap (entries_told content) same.entries ∙ has.entries;
          values = λ key. ap (option_map (λ (s : Stored). s.value)) (same.pairs key) ∙ has.values key;
        })

    abbrev overlaid : ℕ → Option Table → Option Table → Option Table
    overlaid r a w = cond (is_named r (batches append)) (overlaid_table r (kept r) a w) w

    -- any other reading finds the same
    same_found : (others : Tables) (cleaned' : List ℕ) → IsReadingOfBoth rewrite append others cleaned' → (r : ℕ) → finite.get others r ≡ finite.get found r
    same_found others cleaned' too r =
        too.overlaid r
        ∙ ap (λ a. overlaid r a (finite.get too.rewritten r)) (same_some _ _ (sym (too.append_read.tables_read r) ∙ both.append_read.tables_read r))
        ∙ ap (overlaid r (finite.get both.appended r)) (same_some _ _ (sym (too.rewrite_read.tables_read r) ∙ both.rewrite_read.tables_read r))
        ∙ sym (both.overlaid r)

    -- what is left of both can be read, and gives the records
    record GoesOn (a w : List Event) (records : ℕ → Records) : Type 0 where
      pub readable : IsSoundIn Append a × IsSoundIn Rewrite w × Apart w
      pub has : (tables : Tables) (cleaned : List ℕ) → IsReadingOfBoth w a tables cleaned → HaveRecords content tables records

    as_found : GoesOn append rewrite (live content (base content) append)
    as_found = record {
      readable = (sound_append, sound_rewrite, apart);
      has = λ tables cleaned too r. subst (λ (o : Option Table). HasRecords content (table_of r o) (live content (base content) append r)) (sym (same_found tables cleaned too r)) (found_live r);
    }

    as_kept : (untold : List RegionStep) (w : List Event) → AreKept content append w untold found → GoesOn append w (live content (base content) append)
    as_kept untold w h = record {
      readable = (h.append_sound, h.rewrite_sound, h.apart);
      has = λ tables cleaned too. found_have content found tables (live content (base content) append) (kept_found content append w untold found tables cleaned h too) found_live;
    }

    append_left : (standing a : List Event) → IsLeft (Crash append 0 ∷ []) standing a → a ≡ append
    append_left standing a x = left_of_crash Append append standing a sound_append.files x

    -- where all that is left of the rewrite queue goes on, nothing is lost
    loses : (deeds : List Deed) → ((others w : List Event) → IsLeft deeds others w → GoesOn append w (live content (base content) append)) → LoseNothing content (base content) (Crash append 0 ∷ []) deeds
    loses deeds goes = record {
      readable = λ standing a others w x y. (on standing a others w x y).readable;
      found = λ standing a others w x y. (on standing a others w x y).has;
    }
      where
        on : (standing a others w : List Event) → IsLeft (Crash append 0 ∷ []) standing a → IsLeft deeds others w → GoesOn a w (live content (base content) standing)
        on standing a others w x y =
            subst (λ l. GoesOn l w (live content (base content) standing)) (sym (append_left standing a x))
            (subst (λ l. GoesOn append w (live content (base content) l)) (sym x.stands) (goes others w y))

    -- tables that are kept, whatever is left, are safe
    safe_by : (untold : List RegionStep) (deeds : List Deed) (w : List Event) → AreKept content append w untold found → FilesFrom Rewrite 0 w → written deeds ≡ w → deleted deeds ≡ 0 → ((h : List Event) → MayStand deeds h → h ≡ w)
        → IsSafe content (base content) (Crash append 0 ∷ []) deeds untold found
    safe_by untold deeds w h files all none stands = record {
      append_files = sound_append.files;
      rewrite_files = subst (FilesFrom Rewrite 0) (sym all) files;
      has = found_live;
      kept = λ m n g k. to (in_files_from m append) (in_files_from n (written deeds))
          (all_left Append (Crash append 0 ∷ []) append append m sound_append.files refl g.at_most refl)
          (all_left Rewrite deeds w (written deeds) n files none k.at_most all);
      left = λ standing a others q x y. record {
        untold = untold;
        tables = found;
        kept = to a q (append_left standing a x) (y.left ∙ all_left Rewrite deeds w others y.gone files none y.may_go.at_most (stands others y.stands));
        has = subst (λ l. HaveRecords content found (live content (base content) l)) (sym x.stands) found_live;
      };
    }
      where
        to : (a q : List Event) → a ≡ append → q ≡ w → AreKept content a q untold found
        to a q e f = subst (λ l. AreKept content l q untold found) (sym e) (subst (λ l. AreKept content append l untold found) (sym f) h)

    rewrite_left : (others w : List Event) → IsLeft (Crash rewrite 0 ∷ []) others w → w ≡ rewrite
    rewrite_left others w x = left_of_crash Rewrite rewrite others w sound_rewrite.files x

    pub at_first : LoseNothing content (base content) (Crash append 0 ∷ []) (Crash rewrite 0 ∷ [])
    at_first = loses (Crash rewrite 0 ∷ []) (λ others w x. subst (λ l. GoesOn append l (live content (base content) append)) (sym (rewrite_left others w x)) as_found)

    -- where there is nothing to tell
    pub safe_at_once : ((r : ℕ) → SayEnoughAtOpening (kept r) [] (table_of r (finite.get both.rewritten r)) (table_of r (finite.get found r))) → IsSafe content (base content) (Crash append 0 ∷ []) (Crash rewrite 0 ∷ []) [] found
    safe_at_once none = safe_by [] (Crash rewrite 0 ∷ []) rewrite (opened_untold content append rewrite found cleaned sound_append sound_rewrite both sound apart none) sound_rewrite.files refl refl (λ h x. x)

    -- where all may be told later
    pub safe_later : (untold : List RegionStep) → ((r : ℕ) → IsToldNowOrLater (kept r) [] (steps_on r untold) (table_of r (finite.get both.rewritten r)) (table_of r (finite.get found r)))
        → IsSafe content (base content) (Crash append 0 ∷ []) (Crash rewrite 0 ∷ []) untold found
    safe_later untold later = safe_by untold (Crash rewrite 0 ∷ []) rewrite (opened_later content append rewrite found cleaned sound_append sound_rewrite both sound apart untold later) sound_rewrite.files refl refl (λ h x. x)

    module _ (e : Event) (next : IsNextIn Rewrite (Crash rewrite 0 ∷ []) e) (plain : HasNoMarker e) where
      next_is : IsRewrittenNext rewrite e
      next_is = record { queue = next.queue_is; follows = next.follows; in_file = next.in_file; status = next.status; apart = alone_apart rewrite e plain apart }

      module _ (untold : List RegionStep) (after_telling : AreKept content append (rewrite ++ e ∷ []) untold found) where
        -- once the rewrite queue is told and synced
        safe_as : IsSafe content (base content) (Crash append 0 ∷ []) (Sync ∷ Write e ∷ Crash rewrite 0 ∷ []) untold found
        safe_as = safe_by untold (Sync ∷ Write e ∷ Crash rewrite 0 ∷ []) (rewrite ++ e ∷ []) after_telling after_telling.rewrite_sound.files refl refl (λ h x. x)

        -- and before that
        while_as : LoseNothing content (base content) (Crash append 0 ∷ []) (Write e ∷ Crash rewrite 0 ∷ [])
        while_as = loses (Write e ∷ Crash rewrite 0 ∷ []) (λ others w x. go others w x x.stands)
          where
            go : (others w : List Event) → (x : IsLeft (Write e ∷ Crash rewrite 0 ∷ []) others w) → (others ≡ rewrite) ⊎ (others ≡ rewrite ++ e ∷ []) → GoesOn append w (live content (base content) append)
            go others w x (inl s) = subst (λ l. GoesOn append l (live content (base content) append)) (sym (x.left ∙ all_left Rewrite (Write e ∷ Crash rewrite 0 ∷ []) rewrite others x.gone sound_rewrite.files refl x.may_go.at_most s)) as_found
            go others w x (inr s) = subst (λ l. GoesOn append l (live content (base content) append))
                (sym (x.left ∙ all_left Rewrite (Write e ∷ Crash rewrite 0 ∷ []) (rewrite ++ e ∷ []) others x.gone after_telling.rewrite_sound.files refl
                x.may_go.at_most s)) (as_kept untold (rewrite ++ e ∷ []) after_telling)

      module _ (untold : List RegionStep)
          (each : (r : ℕ) → IsToldNowOrLater (kept r) (steps_on r (steps_of_items e.items)) (steps_on r untold) (table_of r (finite.get both.rewritten r)) (table_of r (finite.get found r))) where
        mixed : AreKept content append (rewrite ++ e ∷ []) untold found
        mixed = opened_mixed content append rewrite found cleaned sound_append sound_rewrite both sound e next_is plain untold each

        pub safe_mixed : IsSafe content (base content) (Crash append 0 ∷ []) (Sync ∷ Write e ∷ Crash rewrite 0 ∷ []) untold found
        safe_mixed = safe_as untold mixed

        pub while_mixed : LoseNothing content (base content) (Crash append 0 ∷ []) (Write e ∷ Crash rewrite 0 ∷ [])
        while_mixed = while_as untold mixed

      module _ (removals : (r : ℕ) → AreRemovals (steps_on r (steps_of_items e.items))) (told : (r : ℕ) → SayEnoughAtOpening (kept r) (steps_on r (steps_of_items e.items)) (table_of r (finite.get both.rewritten r)) (table_of r (finite.get found r))) where
        all_told : AreKept content append (rewrite ++ e ∷ []) [] found
        all_told = opened content append rewrite found cleaned sound_append sound_rewrite both sound e next_is plain removals told

        pub safe_told : IsSafe content (base content) (Crash append 0 ∷ []) (Sync ∷ Write e ∷ Crash rewrite 0 ∷ []) [] found
        safe_told = safe_as [] all_told

        pub while_told : LoseNothing content (base content) (Crash append 0 ∷ []) (Write e ∷ Crash rewrite 0 ∷ [])
        while_told = while_as [] all_told
