-- What a read, and a batch that moves records, make of what is stored of an engine.
use Rattle.raft_engine.proofs.Common.{◌≡◌, ℕ, false, cond, List, [], ◌∷◌, ◌++◌, Option, Some, None, option_map, length, map, refl, sym, ap, ◌∙◌, subst, AllByRecursion, option_or, option_and_then, EntryIndex, FileBlockHandle, FileId, LogQueue, Append, Rewrite, Version}
use Rattle.raft_engine.proofs.Common.{first_marker, is_reserved, marker_byte, marker_byte_in, status_of, Item, with_lengths, placed_item, with_offsets_from, Batch, entry_place, Event, marker_in, PlacedItemsAreInFile, HaveStatus, RegionStep, Tables, table_of, Table}
use Rattle.raft_engine.proofs.Common.{AreTableEntries, placed_in, Rewriting, after_items, none_some, Act, Ask, NumberedBytes, Put, Read, acts_on, ask, begun, written_event, whole_file, HasNoMarker, AreOrdinary, IsMovingBatch, MoveAgain, moving_items, put_items, Records, Deed}
use Rattle.raft_engine.proofs.Common.{Write, IsNextIn, IsSafe, IsSynced, LoseNothing, written, AddedEntriesAreTold, AreBothTold, HaveContents, KeepsBytes, ReadEntryIsTold, placed_entries, AreDoneWhole, LastFileIsNext, bytes_for, place_at, placed_at, IsLastFile, AreSynced}
use Rattle.raft_engine.proofs.Common.{ReadsAreStored, IsBatchMoving, AreAllDone, AreKeptStored, AreStored, Bases, IsWritableBatch, WhatIsDoneLasts, rows_alone}
use Rattle.std.specs.FinMap as finite
use Rattle.raft_base.specs.declared.compression_type.CompressionType.TheVariants as compressions
use Rattle.raft_records.specs.declared.key_value.OpType.TheVariants as operations
use Rattle.raft_engine.proofs.DoneLemmas.{deeds_synced}
use Rattle.raft_engine.proofs.LowPairs.{safe_low}
use Rattle.raft_engine.proofs.MovesAgain.{again_batch_taken, all_in_part, all_moving, move_again}
use Rattle.raft_engine.proofs.MovingPuts.{batch_taken, contents_told, is_moving, placed_moving}
use Rattle.raft_engine.proofs.WellPutLemmas.{read_well}
use Rattle.raft_engine.proofs.StoredLemmas.{goes_on}

-- ---- no marker

abbrev Unmarked : List Item → Type 0
Unmarked items = AllByRecursion (λ (item : Item). marker_byte item.content ≡ None) items

pub put_unmarked : (key value : List ℕ) → is_reserved key ≡ false → marker_byte_in operations.Put key (Some value) ≡ None
put_unmarked key [] h = refl
put_unmarked key (byte ∷ []) h = ap (λ b. cond b (Some byte) None) h
put_unmarked key (byte ∷ more ∷ bytes) h = refl

puts_unmarked : (id : ℕ) (file : FileId) (ps : List (List ℕ × List ℕ)) → AreOrdinary ps → Unmarked (put_items id file ps)
puts_unmarked id file [] h = tt
puts_unmarked id file (p ∷ ps) h = (put_unmarked p.0 p.1 h.0, puts_unmarked id file ps h.1)

moving_unmarked : (id : ℕ) (file : FileId) (es : List EntryIndex) (ps : List (List ℕ × List ℕ)) → AreOrdinary ps → Unmarked (moving_items id file es ps)
moving_unmarked id file [] ps h = puts_unmarked id file ps h
moving_unmarked id file (e ∷ es) ps h = (refl, puts_unmarked id file ps h)

batch_unmarked : (gate : Option ℕ) (left : List EntryIndex) (t : Table) (old asks : List Ask) (batch : Batch) (seq offset : ℕ) → IsBatchMoving gate left t old asks batch → Unmarked (placed_at (record { queue = Rewrite; seq = seq }) offset batch)
batch_unmarked gate left t old asks batch seq offset m =
    let place : FileBlockHandle = entry_place (place_at (record { queue = Rewrite; seq = seq }) offset batch) batch.entry_bytes in
    subst Unmarked (sym (ap (λ (b : Batch). map (placed_item place compressions.None) b.items) m.is ∙ placed_moving place t.region_id _ m.strings _ m.read.reads m.read.have))
    (moving_unmarked t.region_id place.id _ _ m.ordinary)

have_status : (items : List Item) → Unmarked items → HaveStatus Rewrite items
have_status [] h = tt
have_status (item ∷ items) h = (λ byte e. absurd (none_some (sym h.0 ∙ e)), have_status items h.1)

no_first : (items : List Item) → Unmarked items → first_marker items ≡ None
unfolding first_marker
no_first [] h = refl
no_first (item ∷ items) h = ap (λ o. option_or (option_map (λ status. (item.raft_group_id, status)) (option_and_then status_of o)) (first_marker items)) h.0 ∙ no_first items h.1

no_marker : (file : FileId) (items : List Item) → file.queue ≡ Rewrite → Unmarked items → HasNoMarker (record { items = items; file = file })
no_marker file items q h = subst (λ (queue : LogQueue). marker_in queue items ≡ None) (sym q) (ap (option_map (λ m. record { group = m.0; status = m.1 })) (no_first items h))

-- ---- what is stored

module _
    (lasts : WhatIsDoneLasts)
    (lose : (content : EntryIndex → List ℕ) (base : ℕ → Records) (appended rewritten : List Deed) (untold : List RegionStep)
    (tables : Tables) → IsSafe content base appended rewritten untold tables → LoseNothing content base appended rewritten)
    (keep : (asks : List Ask) (a : Ask) (content : EntryIndex → List ℕ) → KeepsBytes a.act → AreBothTold (a ∷ asks) content → AreBothTold asks content) where
  pub read_stored : ((queue : LogQueue) (version : Version) (acts : List Act) (deeds : List Deed) (place : FileBlockHandle) (bytes : List ℕ)
      → AreDoneWhole queue version acts deeds → AreDoneWhole queue version (Read place bytes ∷ acts) deeds)
      → ReadsAreStored
  read_stored done Append place bytes version asked base untold tables k =
      let s = k.now in
      goes_on lasts lose keep version (ask Append (Read place bytes)) asked base untold tables tt k.first k.ever (record {
        appended = s.appended;
        rewritten = s.rewritten;
        append_done = record {
          done = done Append version (acts_on Append asked) s.appended place bytes s.append_done.done;
          put = record { put = s.append_done.put.put; whole = s.append_done.put.whole };
          well = read_well Append version (acts_on Append asked) place bytes s.append_done.well;
        };
        rewrite_done = s.rewrite_done;
        rows = s.rows;
        safe = λ content told. s.safe content (keep asked (ask Append (Read place bytes)) content tt told);
      })
  read_stored done Rewrite place bytes version asked base untold tables k =
      let s = k.now in
      goes_on lasts lose keep version (ask Rewrite (Read place bytes)) asked base untold tables tt k.first k.ever (record {
        appended = s.appended;
        rewritten = s.rewritten;
        append_done = s.append_done;
        rewrite_done = record {
          done = done Rewrite version (acts_on Rewrite asked) s.rewritten place bytes s.rewrite_done.done;
          put = record { put = s.rewrite_done.put.put; whole = s.rewrite_done.put.whole };
          well = read_well Rewrite version (acts_on Rewrite asked) place bytes s.rewrite_done.well;
        };
        rows = s.rows;
        safe = λ content told. s.safe content (keep asked (ask Rewrite (Read place bytes)) content tt told);
      })

  -- ---- a batch that moves records

  module _
      (put : (queue : LogQueue) (version : Version) (acts : List Act) (deeds : List Deed) (closed : List NumberedBytes) (last : NumberedBytes)
      (handle : FileBlockHandle) (batch : Batch) → IsWritableBatch batch
      → handle.id ≡ record { queue = queue; seq = last.0 } → handle.offset ≡ length last.1
      → begun acts ≡ closed ++ last ∷ [] → AreAllDone queue version acts deeds
      → AreAllDone queue version (Put (bytes_for (record { id = record { queue = queue; seq = last.0 }; version = version }) batch) ∷ acts)
      (Write (written_event (whole_file queue version last) handle batch.items batch.entry_bytes) ∷ deeds))
      (next : LastFileIsNext) (placed : PlacedItemsAreInFile) (added : AddedEntriesAreTold) (read : ReadEntryIsTold)
      (past : (content : EntryIndex → List ℕ) (base : ℕ → Records) (appended rewritten : List Deed) (tables new : Tables) (e : Event)
      → IsSafe content base appended rewritten [] tables → IsNextIn Rewrite rewritten e → IsSynced appended
      → HasNoMarker e → (gate id : ℕ) (t : Table) → finite.get tables id ≡ Some t
      → IsMovingBatch content gate id t e
      → after_items (Rewriting (Some gate) e.file.seq) tables e.items ≡ Some new
      → IsSafe content base appended (Write e ∷ rewritten) [] new)
      (again : (content : EntryIndex → List ℕ) (base : ℕ → Records) (appended rewritten : List Deed) (tables new : Tables) (e : Event)
      → IsSafe content base appended rewritten [] tables → IsNextIn Rewrite rewritten e → IsSynced appended
      → HasNoMarker e → MoveAgain content tables e.file e.items
      → after_items (Rewriting None e.file.seq) tables e.items ≡ Some new
      → IsSafe content base appended (Write e ∷ rewritten) [] new)
      (version : Version) (old asked : List Ask) (base : Bases) (tables : Tables) (seq : ℕ) (bytes : List ℕ) (gate : Option ℕ) (left : List EntryIndex) (t : Table) (batch : Batch)
      (synced : AreSynced (acts_on Append asked)) (last : IsLastFile Rewrite asked seq bytes) (w : IsWritableBatch batch)
      (found : finite.get tables t.region_id ≡ Some t) (m : IsBatchMoving gate left t old asked batch) (k : AreKeptStored version asked base [] tables) where
    abbrev s : AreStored version asked base [] tables
    s = k.now

    abbrev id : FileId
    id = record { queue = Rewrite; seq = seq }

    abbrev items : List Item
    items = placed_at id (length bytes) batch

    abbrev handle : FileBlockHandle
    handle = place_at id (length bytes) batch

    abbrev e : Event
    e = written_event (whole_file Rewrite version (seq, bytes)) handle batch.items batch.entry_bytes

    abbrev a : Ask
    a = ask Rewrite (Put (bytes_for (record { id = id; version = version }) batch))

    unmarked : Unmarked items
    unmarked = batch_unmarked gate left t old asked batch seq (length bytes) m

    plain : HasNoMarker e
    plain = no_marker id items refl unmarked

    is_next : IsNextIn Rewrite s.rewritten e
    is_next = next Rewrite version (acts_on Rewrite asked) s.rewritten last.closed (seq, bytes) e s.rewrite_done.done last.files refl
        (placed (entry_place handle batch.entry_bytes) compressions.None 0 batch.items w.tiled.tiled) (have_status items unmarked)

    safe_before : (content : EntryIndex → List ℕ) → AreBothTold (a ∷ asked) content → IsSafe content (base content) s.appended s.rewritten [] tables
    safe_before content told = s.safe content (keep asked a content tt told)

    -- what is stored as these tables, if it is safe
    stored_as : (new : Tables) → ((content : EntryIndex → List ℕ) → AreBothTold (a ∷ asked) content → IsSafe content (base content) s.appended (Write e ∷ s.rewritten) [] new)
        → AreKeptStored version (a ∷ asked) base [] new
    stored_as new safe = goes_on lasts lose keep version a asked base [] new tt k.first k.ever (record {
      appended = s.appended;
      rewritten = Write e ∷ s.rewritten;
      append_done = s.append_done;
      rewrite_done = put Rewrite version (acts_on Rewrite asked) s.rewritten last.closed (seq, bytes) handle batch w refl refl last.files s.rewrite_done;
      safe = safe;
      rows = rows_alone (written s.rewritten) e plain s.rows;
    })

    safe_so : (gate : Option ℕ) → IsBatchMoving gate left t old asked batch → (new : Tables) → after_items (Rewriting gate seq) tables items ≡ Some new
        → (content : EntryIndex → List ℕ) → AreBothTold (a ∷ asked) content → IsSafe content (base content) s.appended (Write e ∷ s.rewritten) [] new
    safe_so (Some n) m new taken content told =
        let have = contents_told keep added read version old asked seq s.rewrite_done.done.done.first bytes (Some n) left t batch last s.rewrite_done.done.done.rising w.some m content told in
        past content (base content) s.appended s.rewritten tables new e (safe_before content told) is_next
        (deeds_synced Append version (acts_on Append asked) s.appended s.append_done synced) plain
        n t.region_id t found (is_moving content n left t old asked batch m seq (length bytes) have.0 have.1) taken
    safe_so None m new taken content told =
        let have = contents_told keep added read version old asked seq s.rewrite_done.done.done.first bytes None left t batch last s.rewrite_done.done.done.rising w.some m content told in
        let all = all_moving left t old asked batch m in
        let part = all_in_part left t old asked batch m in
        again content (base content) s.appended s.rewritten tables new e (safe_before content told) is_next
        (deeds_synced Append version (acts_on Append asked) s.appended s.append_done synced) plain
        (move_again content tables t found old asked batch all.0 seq (length bytes)
        (subst (λ (s : List (List ℕ)). HaveContents content (placed_in Rewrite t.entries) s) (sym all.1) (subst (λ (l : List EntryIndex). HaveContents content l m.strings) part have.0))
        (subst (λ (s : List (List ℕ)). HaveContents content (placed_entries (entry_place handle batch.entry_bytes) (with_offsets_from 0 (with_lengths (placed_in Rewrite t.entries) s))) s) (sym all.1)
        (subst (λ (l : List EntryIndex). HaveContents content (placed_entries (entry_place handle batch.entry_bytes) (with_offsets_from 0 (with_lengths l m.strings))) m.strings) part have.1))) taken

    pub move_stored : (new : Tables) → after_items (Rewriting gate seq) tables items ≡ Some new → AreKeptStored version (a ∷ asked) base [] new
    move_stored new taken = stored_as new (safe_so gate m new taken)

    -- some tables take it
    pub put_stored : AreTableEntries t.entries → (new : Tables) × AreKeptStored version (a ∷ asked) base [] new
    put_stored sound = by gate m
      where
        tried : (m : IsBatchMoving None left t old asked batch) → (o : Option Tables) → after_items (Rewriting None seq) tables items ≡ o → (new : Tables) × AreKeptStored version (a ∷ asked) base [] new
        tried m (Some new) taken = (new, stored_as new (safe_so None m new taken))
        tried m None refused = (tables, stored_as tables (λ content told. absurd (never content told)))
          where
            never : (content : EntryIndex → List ℕ) → AreBothTold (a ∷ asked) content → ⊥
            never content told =
                let low = safe_low content (base content) s.appended s.rewritten tables seq (safe_before content told) is_next.follows in
                let taken = again_batch_taken tables t old asked batch seq (length bytes) found sound
                (λ key x there queue. low t.region_id key x (ap (λ (o : Option Table). finite.get (table_of t.region_id o).keys key) found ∙ there) queue) (all_moving left t old asked batch m).0 in
                none_some (sym refused ∙ taken.1)

        by : (gate : Option ℕ) → IsBatchMoving gate left t old asked batch → (new : Tables) × AreKeptStored version (a ∷ asked) base [] new
        by None m = tried m (after_items (Rewriting None seq) tables items) refl
        by (Some n) m =
            let taken = batch_taken n left tables t old asked batch seq (length bytes) found sound m in
            (taken.0, stored_as taken.0 (safe_so (Some n) m taken.0 taken.1))
