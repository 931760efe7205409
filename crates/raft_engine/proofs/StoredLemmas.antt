-- What each ask makes of what is stored of an engine.
use Rattle.raft_engine.proofs.Common.{◌≡◌, suc, inl, inr, ℕ, ◌+◌, true, List, [], ◌∷◌, ◌++◌, Some, length, map, refl, sym, ap, subst, append-nil, CompressionType, EntryIndex, FileBlockHandle, FileId, LogQueue, Append, Rewrite, Version, Item, placed_item, Batch, entry_place}
use Rattle.raft_engine.proofs.Common.{Event, PlacedItemsAreInFile, AreInFile, HaveStatus, RegionStep, Tables, steps_of_items, steps_on, Step, Appending, after_items, Act, Ask, Begin, IsTrusted, NoSyncFailed, NumberedBytes, Put, Sync, Unsynced, acts_on, ask, begun, deletions}
use Rattle.raft_engine.proofs.Common.{written_event, whole_file, AreLeastFrom, HasNoMarker, HaveRecords, Records, live, no_base, Deed, Write, IsNextIn, IsSafe, IsSynced, LoseNothing, written, AreRemovals, SayTheSame, TakeAway, taking_items, taking_steps, told_items, AreBothTold}
use Rattle.raft_engine.proofs.Common.{KeepsBytes, LastFileIsNext, bytes_for, place_at, placed_at, KeptEngine, AreSynced, IsBegunOrFound, IsLasting, IsLastingAfter, AreAllDone, AreEverLasting, AreKeptStored, AreStored, Bases, DeletionsAreStored, FailedSyncsAreStored}
use Rattle.raft_engine.proofs.Common.{FirstFilesAreStored, IsWritableBatch, NewFilesAreStored, SyncsAreStored, ToldBatchesAreStored, WhatIsDoneLasts, WrittenBatchesAreStored, rows_alone, own_joins}
use Rattle.std.specs.FinMap as finite
use Rattle.raft_base.specs.declared.compression_type.CompressionType.TheVariants as compressions
use Rattle.raft_files.specs.Asks as asks
use Rattle.raft_engine_laws.specs.Crashes as queue_deeds
use Rattle.raft_engine_laws.specs.Crashes.{Delete}
use Rattle.raft_engine.proofs.DoneLemmas.{deeds_synced}
use Rattle.raft_engine.proofs.UntoldLemmas.{placed_away, placed_steps}
use Rattle.raft_engine.proofs.WellPutLemmas.{both_well}

-- steps that say the same as untold ones, and others that are none, say the same
all_told : (r : ℕ) (told untold : List RegionStep) → told ≡ untold → SayTheSame (steps_on r told ++ steps_on r []) (steps_on r untold)
unfolding steps_on
all_told r told untold e = subst (λ (l : List RegionStep). SayTheSame (steps_on r told ++ []) (steps_on r l)) e
    (subst (λ (l : List Step). SayTheSame l (steps_on r told)) (sym (append-nil (steps_on r told))) (record { indexes = λ i. refl; keys = λ key. refl }))

no_more : (x : Ask) (rest : List Ask) → [] ≡ x ∷ rest → ⊥
no_more x rest e = absurd cc

same_rest : (a x : Ask) (asked rest : List Ask) → a ∷ asked ≡ x ∷ rest → asked ≡ rest
same_rest a x asked rest e = cc

-- what was asked first stays so
pub first_on : (a : Ask) (asked : List Ask) → IsBegunOrFound asked → IsBegunOrFound (a ∷ asked)
first_on a asked (inl f) = inl (a ∷ f.0, ap (λ (l : List Ask). a ∷ l) f.1)
first_on a asked (inr f) = inr (a ∷ f.0, f.1, f.2, ap (λ (l : List Ask). a ∷ l) f.3)

module _
    (lasts : WhatIsDoneLasts)
    (lose : (content : EntryIndex → List ℕ) (base : ℕ → Records) (appended rewritten : List Deed) (untold : List RegionStep)
    (tables : Tables) → IsSafe content base appended rewritten untold tables → LoseNothing content base appended rewritten)
    (keep : (asks : List Ask) (a : Ask) (content : EntryIndex → List ℕ) → KeepsBytes a.act → AreBothTold (a ∷ asks) content → AreBothTold asks content) where
  lasting_stored : (version : Version) (asked : List Ask) (base : Bases) (untold : List Item) (tables : Tables) (s : AreStored version asked base untold tables)
      (content : EntryIndex → List ℕ) → AreBothTold asked content → (lasting : IsLastingAfter content version (base content) asked) × (lasting.batches ≡ written s.appended)
  lasting_stored version asked base untold tables s content told =
      lasts content version (base content) asked s.appended s.rewritten s.append_done.done.done s.rewrite_done.done.done s.append_done.put.put
      (both_well version asked s.append_done.well s.rewrite_done.well) s.rows
      (lose content (base content) s.appended s.rewritten (steps_of_items untold) tables (s.safe content told))
      (λ found standing append others rewrite a r.
      let k = (s.safe content told).left standing append others rewrite a r in
      λ found_tables cleaned both region. own_joins content append rewrite k.untold k.tables found_tables cleaned k.kept both region)

  stored_lasts : (version : Version) (asked : List Ask) (base : Bases) (untold : List Item) (tables : Tables) → AreStored version asked base untold tables
      → (content : EntryIndex → List ℕ) → AreBothTold asked content → IsLastingAfter content version (base content) asked
  stored_lasts version asked base untold tables s content told = (lasting_stored version asked base untold tables s content told).0

  -- after nothing was asked
  ever_at_first : (version : Version) (base : Bases) (untold : List Item) (tables : Tables) → AreStored version [] base untold tables → AreEverLasting version [] base
  ever_at_first version base untold tables s content told [] earlier e begun =
      subst (λ (l : List Ask). IsLastingAfter content version (base content) l) e (stored_lasts version [] base untold tables s content told)
  ever_at_first version base untold tables s content told (x ∷ later) earlier e begun = absurd (no_more x (later ++ earlier) e)

  -- after one ask more
  ever_on : (version : Version) (a : Ask) (asked : List Ask) (base : Bases) (untold : List Item) (tables : Tables) → KeepsBytes a.act
      → AreEverLasting version asked base → AreStored version (a ∷ asked) base untold tables → AreEverLasting version (a ∷ asked) base
  ever_on version a asked base untold tables kept ever s content told [] earlier e begun =
      subst (λ (l : List Ask). IsLastingAfter content version (base content) l) e (stored_lasts version (a ∷ asked) base untold tables s content told)
  ever_on version a asked base untold tables kept ever s content told (x ∷ later) earlier e begun =
      ever content (keep asked a content kept told) later earlier (same_rest a x asked (later ++ earlier) e) begun

  pub goes_on : (version : Version) (a : Ask) (asked : List Ask) (base : Bases) (untold : List Item) (tables : Tables) → KeepsBytes a.act
      → IsBegunOrFound asked → AreEverLasting version asked base → AreStored version (a ∷ asked) base untold tables → AreKeptStored version (a ∷ asked) base untold tables
  goes_on version a asked base untold tables kept first ever s = record { first = first_on a asked first; now = s; ever = ever_on version a asked base untold tables kept ever s }

  -- what lasts of an engine
  pub stored_is_lasting : (content : EntryIndex → List ℕ) (engine : KeptEngine) → AreBothTold engine.asks content → (base : Bases) (untold : List Item) (tables : Tables) → AreKeptStored engine.version engine.asks base untold tables
      → IsTrusted engine.asks → (engine.intact ≡ true → NoSyncFailed engine.asks)
      → (engine.intact ≡ true → engine.accessor.tables ≡ tables) → IsLasting content engine
  stored_is_lasting content engine told base untold tables k trusted unfailed are =
      let l = lasting_stored engine.version engine.asks base untold tables k.now content told in record {
        first = k.first;
        trusted = trusted;
        unfailed = unfailed;
        base = base content;
        now = l.0;
        has = λ intact. subst (λ (h : List Event). HaveRecords content engine.accessor.tables (live content (base content) h)) (sym l.1)
            (subst (λ (m : Tables). HaveRecords content m (live content (base content) (written k.now.appended))) (sym (are intact)) (k.now.safe content told).has);
        ever = k.ever content told;
      }

  -- ---- the first files

  pub first_stored : ((queue : LogQueue) (version : Version) → AreAllDone queue version [] [])
      → ((queue : LogQueue) (version : Version) → AreAllDone queue version [] [] → AreAllDone queue version (Begin 1 ∷ []) [])
      → ((content : EntryIndex → List ℕ) → IsSafe content no_base [] [] [] finite.empty)
      → FirstFilesAreStored
  first_stored none first safe version =
      let base : Bases = λ content. no_base in
      let none_in : (queue : LogQueue) → AreAllDone queue version [] [] = λ queue. none queue version in
      let first_in : (queue : LogQueue) → AreAllDone queue version (Begin 1 ∷ []) [] = λ queue. first queue version (none queue version) in
      let one = ever_at_first version base [] finite.empty (record { appended = []; rewritten = []; append_done = none_in Append; rewrite_done = none_in Rewrite; rows = tt; safe = λ content told. safe content }) in
      let two = ever_on version (ask Append (Begin 1)) [] base [] finite.empty tt one
      (record { appended = []; rewritten = []; append_done = first_in Append; rewrite_done = none_in Rewrite; rows = tt; safe = λ content told. safe content }) in
      let now : AreStored version (ask Rewrite (Begin 1) ∷ ask Append (Begin 1) ∷ []) base [] finite.empty =
      record { appended = []; rewritten = []; append_done = first_in Append; rewrite_done = first_in Rewrite; rows = tt; safe = λ content told. safe content } in
      record { first = inl ([], refl); now = now; ever = ever_on version (ask Rewrite (Begin 1)) (ask Append (Begin 1) ∷ []) base [] finite.empty tt two now }

  -- ---- a sync

  module _
      (done : (queue : LogQueue) (version : Version) (acts : List Act) (deeds : List Deed)
      → AreAllDone queue version acts deeds → AreAllDone queue version (Sync ∷ acts) (queue_deeds.Sync ∷ deeds))
      (safe_append : (content : EntryIndex → List ℕ) (base : ℕ → Records) (appended rewritten : List Deed) (untold : List RegionStep)
      (tables : Tables) → IsSafe content base appended rewritten untold tables → IsSafe content base (queue_deeds.Sync ∷ appended) rewritten untold tables)
      (safe_rewrite : (content : EntryIndex → List ℕ) (base : ℕ → Records) (appended rewritten : List Deed) (untold : List RegionStep)
      (tables : Tables) → IsSafe content base appended rewritten untold tables → IsSafe content base appended (queue_deeds.Sync ∷ rewritten) untold tables) where
    pub sync_stored : SyncsAreStored
    sync_stored Append version asked base untold tables k =
        let s = k.now in
        goes_on version (ask Append Sync) asked base untold tables tt k.first k.ever (record {
          appended = queue_deeds.Sync ∷ s.appended;
          rewritten = s.rewritten;
          append_done = done Append version (acts_on Append asked) s.appended s.append_done;
          rewrite_done = s.rewrite_done;
          rows = s.rows;
          safe = λ content told. safe_append content (base content) s.appended s.rewritten (steps_of_items untold) tables (s.safe content (keep asked (ask Append Sync) content tt told));
        })
    sync_stored Rewrite version asked base untold tables k =
        let s = k.now in
        goes_on version (ask Rewrite Sync) asked base untold tables tt k.first k.ever (record {
          appended = s.appended;
          rewritten = queue_deeds.Sync ∷ s.rewritten;
          append_done = s.append_done;
          rewrite_done = done Rewrite version (acts_on Rewrite asked) s.rewritten s.rewrite_done;
          rows = s.rows;
          safe = λ content told. safe_rewrite content (base content) s.appended s.rewritten (steps_of_items untold) tables (s.safe content (keep asked (ask Rewrite Sync) content tt told));
        })

  -- ---- a sync that failed

  pub unsynced_stored : ((queue : LogQueue) (version : Version) (acts : List Act) (deeds : List Deed) → AreAllDone queue version acts deeds → AreAllDone queue version (Unsynced ∷ acts) deeds) → FailedSyncsAreStored
  unsynced_stored done Append version asked base untold tables k =
      let s = k.now in
      goes_on version (ask Append Unsynced) asked base untold tables tt k.first k.ever (record {
        appended = s.appended;
        rewritten = s.rewritten;
        append_done = done Append version (acts_on Append asked) s.appended s.append_done;
        rewrite_done = s.rewrite_done;
        rows = s.rows;
        safe = λ content told. s.safe content (keep asked (ask Append Unsynced) content tt told);
      })
  unsynced_stored done Rewrite version asked base untold tables k =
      let s = k.now in
      goes_on version (ask Rewrite Unsynced) asked base untold tables tt k.first k.ever (record {
        appended = s.appended;
        rewritten = s.rewritten;
        append_done = s.append_done;
        rewrite_done = done Rewrite version (acts_on Rewrite asked) s.rewritten s.rewrite_done;
        rows = s.rows;
        safe = λ content told. s.safe content (keep asked (ask Rewrite Unsynced) content tt told);
      })

  -- ---- a new file

  pub begin_stored : ((queue : LogQueue) (version : Version) (acts : List Act) (deeds : List Deed) (closed : List NumberedBytes) (last : NumberedBytes) (seq : ℕ)
      → AreSynced acts → begun acts ≡ closed ++ last ∷ [] → seq ≡ suc last.0 → AreAllDone queue version acts deeds → AreAllDone queue version (Begin seq ∷ acts) deeds)
      → NewFilesAreStored
  begin_stored done Append version asked base untold tables seq bytes next synced last follows k =
      let s = k.now in
      goes_on version (ask Append (Begin next)) asked base untold tables tt k.first k.ever (record {
        appended = s.appended;
        rewritten = s.rewritten;
        append_done = done Append version (acts_on Append asked) s.appended last.closed (seq, bytes) next synced last.files follows s.append_done;
        rewrite_done = s.rewrite_done;
        rows = s.rows;
        safe = λ content told. s.safe content (keep asked (ask Append (Begin next)) content tt told);
      })
  begin_stored done Rewrite version asked base untold tables seq bytes next synced last follows k =
      let s = k.now in
      goes_on version (ask Rewrite (Begin next)) asked base untold tables tt k.first k.ever (record {
        appended = s.appended;
        rewritten = s.rewritten;
        append_done = s.append_done;
        rewrite_done = done Rewrite version (acts_on Rewrite asked) s.rewritten last.closed (seq, bytes) next synced last.files follows s.rewrite_done;
        rows = s.rows;
        safe = λ content told. s.safe content (keep asked (ask Rewrite (Begin next)) content tt told);
      })

  -- ---- a batch

  module _
      (put : (queue : LogQueue) (version : Version) (acts : List Act) (deeds : List Deed) (closed : List NumberedBytes) (last : NumberedBytes)
      (handle : FileBlockHandle) (batch : Batch) → IsWritableBatch batch
      → handle.id ≡ record { queue = queue; seq = last.0 } → handle.offset ≡ length last.1
      → begun acts ≡ closed ++ last ∷ [] → AreAllDone queue version acts deeds
      → AreAllDone queue version (Put (bytes_for (record { id = record { queue = queue; seq = last.0 }; version = version }) batch) ∷ acts)
      (Write (written_event (whole_file queue version last) handle batch.items batch.entry_bytes) ∷ deeds))
      (next : LastFileIsNext) where
    pub write_stored : PlacedItemsAreInFile
        → ((content : EntryIndex → List ℕ) (base : ℕ → Records) (appended rewritten : List Deed) (untold : List RegionStep)
        (tables new : Tables) (e : Event) → IsSafe content base appended rewritten untold tables
        → IsNextIn Append appended e → after_items Appending tables e.items ≡ Some new
        → IsSafe content base (Write e ∷ appended) rewritten (untold ++ taking_steps tables (steps_of_items e.items)) new)
        → ((content : EntryIndex → List ℕ) (base : ℕ → Records) (appended rewritten : List Deed) (untold : List RegionStep)
        (tables : Tables) → IsSafe content base appended rewritten untold tables
        → (other : List RegionStep) → ((r : ℕ) → SayTheSame (steps_on r other) (steps_on r untold))
        → IsSafe content base appended rewritten other tables)
        → ((tables : Tables) (place : FileBlockHandle) (compression : CompressionType) (untold items : List Item) (r : ℕ)
        → SayTheSame (steps_on r (steps_of_items (untold ++ told_items (taking_items tables items))))
        (steps_on r (steps_of_items untold ++ taking_steps tables (steps_of_items (map (placed_item place compression) items)))))
        → WrittenBatchesAreStored
    write_stored placed safe same more version asked base untold tables new seq bytes batch last w taken k =
        let s = k.now in
        let handle = place_at (record { queue = Append; seq = seq }) (length bytes) batch in
        let e : Event = written_event (whole_file Append version (seq, bytes)) handle batch.items batch.entry_bytes in
        let acts : List Act = acts_on Append asked in
        let place = entry_place handle batch.entry_bytes in
        let in_file = placed place compressions.None 0 batch.items w.tiled.tiled in
        let is_next : IsNextIn Append s.appended e = next Append version acts s.appended last.closed (seq, bytes) e s.append_done.done last.files refl in_file tt in
        goes_on version (ask Append (Put (bytes_for (record { id = record { queue = Append; seq = seq }; version = version }) batch))) asked base
        (untold ++ told_items (taking_items tables batch.items)) new tt k.first k.ever (record {
          appended = Write e ∷ s.appended;
          rewritten = s.rewritten;
          append_done = put Append version acts s.appended last.closed (seq, bytes) handle batch w refl refl last.files s.append_done;
          rewrite_done = s.rewrite_done;
          rows = s.rows;
          safe = λ content told. same content (base content) (Write e ∷ s.appended) s.rewritten (steps_of_items untold ++ taking_steps tables (steps_of_items e.items)) new
              (safe content (base content) s.appended s.rewritten (steps_of_items untold) tables new e
              (s.safe content (keep asked (ask Append
              (Put (bytes_for (record { id = record { queue = Append; seq = seq }; version = version }) batch))) content tt told)) is_next taken)
              (steps_of_items (untold ++ told_items (taking_items tables batch.items))) (more tables place compressions.None untold batch.items);
        })

    pub tell_stored : ((content : EntryIndex → List ℕ) (base : ℕ → Records) (appended rewritten : List Deed) (untold : List RegionStep)
        (tables : Tables) (e : Event) → IsSafe content base appended rewritten untold tables
        → IsNextIn Rewrite rewritten e → IsSynced appended → HasNoMarker e
        → (others : List RegionStep) → ((r : ℕ) → AreRemovals (steps_on r (steps_of_items e.items)))
        → ((r : ℕ) → SayTheSame (steps_on r (steps_of_items e.items) ++ steps_on r others) (steps_on r untold))
        → IsSafe content base appended (Write e ∷ rewritten) others tables)
        → ((items : List Item) → TakeAway items → (r : ℕ) → AreRemovals (steps_on r (steps_of_items items)))
        → ((file : FileId) (items : List Item) → TakeAway items → AreInFile file items)
        → ((items : List Item) → TakeAway items → HaveStatus Rewrite items)
        → ((file : FileId) (items : List Item) → TakeAway items → HasNoMarker (record { items = items; file = file }))
        → ToldBatchesAreStored
    tell_stored safe removals in_file status unmarked version asked base tables seq bytes batch synced last w away k =
        let s = k.now in
        let id : FileId = record { queue = Rewrite; seq = seq } in
        let handle = place_at id (length bytes) batch in
        let e : Event = written_event (whole_file Rewrite version (seq, bytes)) handle batch.items batch.entry_bytes in
        let acts : List Act = acts_on Rewrite asked in
        let place = entry_place handle batch.entry_bytes in
        let items = placed_at id (length bytes) batch in
        let taken : TakeAway items = placed_away place compressions.None batch.items away in
        let is_next : IsNextIn Rewrite s.rewritten e = next Rewrite version acts s.rewritten last.closed (seq, bytes) e s.rewrite_done.done last.files refl (in_file id items taken) (status items taken) in
        let steps : steps_of_items items ≡ steps_of_items batch.items = placed_steps place compressions.None batch.items away in
        goes_on version (ask Rewrite (Put (bytes_for (record { id = id; version = version }) batch))) asked base [] tables tt k.first k.ever (record {
          appended = s.appended;
          rewritten = Write e ∷ s.rewritten;
          append_done = s.append_done;
          rewrite_done = put Rewrite version acts s.rewritten last.closed (seq, bytes) handle batch w refl refl last.files s.rewrite_done;
          rows = rows_alone (written s.rewritten) e (unmarked id items taken) s.rows;
          safe = λ content told. safe content (base content) s.appended s.rewritten (steps_of_items batch.items) tables e
              (s.safe content (keep asked (ask Rewrite (Put (bytes_for (record { id = id; version = version }) batch))) content tt told)) is_next
              (deeds_synced Append version (acts_on Append asked) s.appended s.append_done synced) (unmarked id items taken) [] (removals items taken)
              (λ r. all_told r (steps_of_items items) (steps_of_items batch.items) steps);
        })

  -- ---- a deletion

  pub delete_stored : ((queue : LogQueue) (version : Version) (acts : List Act) (deeds : List Deed) (gone rest : List NumberedBytes) (oldest next : NumberedBytes)
      → begun acts ≡ gone ++ oldest ∷ next ∷ rest → deletions acts ≡ length gone
      → AreAllDone queue version acts deeds → AreAllDone queue version (asks.Delete ∷ acts) (Delete (oldest.0 + 1) ∷ deeds))
      → ((content : EntryIndex → List ℕ) (base : ℕ → Records) (appended rewritten : List Deed) (tables : Tables) (n : ℕ)
      → IsSafe content base appended rewritten [] tables → IsSynced appended → IsSynced rewritten
      → AreLeastFrom Append n tables → IsSafe content base (Delete n ∷ appended) rewritten [] tables)
      → DeletionsAreStored Append
  delete_stored done safe version asked base tables gone rest oldest next append_synced rewrite_synced is count least k =
      let s = k.now in
      goes_on version (ask Append asks.Delete) asked base [] tables tt k.first k.ever (record {
        appended = Delete (oldest.0 + 1) ∷ s.appended;
        rewritten = s.rewritten;
        append_done = done Append version (acts_on Append asked) s.appended gone rest oldest next is count s.append_done;
        rewrite_done = s.rewrite_done;
        rows = s.rows;
        safe = λ content told. safe content (base content) s.appended s.rewritten tables (oldest.0 + 1) (s.safe content (keep asked (ask Append asks.Delete) content tt told))
            (deeds_synced Append version (acts_on Append asked) s.appended s.append_done append_synced)
            (deeds_synced Rewrite version (acts_on Rewrite asked) s.rewritten s.rewrite_done rewrite_synced) least;
      })
