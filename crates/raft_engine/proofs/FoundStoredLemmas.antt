-- What is stored of found files.
use Rattle.raft_engine.proofs.Common.{◌≡◌, ◌⊎◌, inl, inr, ℕ, List, [], ◌∷◌, ◌++◌, length, refl, sym, ap, ◌∙◌, subst, EntryIndex, FileBlockHandle, FileId, LogQueue, Append, Rewrite, Version, Item, Batch, entry_place, Step, table_of, AreTableEntries, Event, batches}
use Rattle.raft_engine.proofs.Common.{IsReadingOfBoth, steps_of, Apart, AreInFile, HaveStatus, IsSoundIn, RegionStep, Tables, steps_of_items, steps_on, own_none, Accessor, Act, Ask, Found, NumberedBytes, Put, acts_on, ask, begun, deletions, IsLeftOf, written_event, FilesHold}
use Rattle.raft_engine.proofs.Common.{whole_file, HasNoMarker, AreGroupsInRows, HaveRecords, Records, live, Deed, Crash, Write, IsLeft, IsNextIn, IsSafe, LoseNothing, written, IsToldNowOrLater, TakeAway, AreDone, HoldLeft, LastFileIsNext, ArePut, bytes_for, place_at, placed_at}
use Rattle.raft_engine.proofs.Common.{FoundRecordsLast, HaveEverRecords, BatchesJoin, FoundFilesJoin, AreFoundIn, HaveBothBegun, IsBegunOrFound, IsLastingAfter, AreRecovered, asks_that_tell, AreAllDone, Bases, IsWritableBatch, WhatIsDoneLasts, AreWellPut, AreBothTold, KeepsBytes}
use Rattle.raft_engine.proofs.Common.{AreMadeReady, AreReady, AreStoredBeside, FoundFilesAreReady, FoundFilesAreStored, found_asks, told_asks, rows_alone, rows_left, left_of_crash}
use Rattle.std.specs.FinMap as finite
use Rattle.raft_base.specs.declared.compression_type.CompressionType.TheVariants as compressions
use Rattle.raft_files.specs.Asks as asks
use Rattle.raft_engine_laws.specs.Crashes as queue_deeds
use Rattle.raft_engine.specs.FoundFiles.{IsReady}
use Rattle.raft_engine.proofs.FoundDoneLemmas.{AreReadyDone, one_ask}
use Rattle.raft_engine.proofs.JoinedLemmas.{joined_told}
use Rattle.raft_engine.proofs.StoredLemmas.{first_on, goes_on}
use Rattle.raft_engine.proofs.UntoldLemmas.{placed_away, placed_steps}
use Rattle.raft_engine.proofs.WellPutLemmas.{both_well}

no_more : (x : Ask) (rest : List Ask) → [] ≡ x ∷ rest → ⊥
no_more x rest e = absurd cc

abbrev tail_of : List Ask → List Ask
tail_of [] = []
tail_of (a ∷ asked) = asked

-- what is asked of one queue changes nothing of the other
append_acts : (asked later : List Ask) → (later ≡ asked) ⊎ ((act : Act) × (later ≡ ask Rewrite act ∷ asked)) → acts_on Append later ≡ acts_on Append asked
append_acts asked later (inl e) = ap (acts_on Append) e
append_acts asked later (inr m) = ap (acts_on Append) m.1

rewrite_acts : (asked later : List Ask) → (later ≡ asked) ⊎ ((act : Act) × (later ≡ ask Append act ∷ asked)) → acts_on Rewrite later ≡ acts_on Rewrite asked
rewrite_acts asked later (inl e) = ap (acts_on Rewrite) e
rewrite_acts asked later (inr m) = ap (acts_on Rewrite) m.1

-- so it was after each ask, once files were begun or found in both queues
abbrev pub WasEver : (List Ask → Type 0) → List Ask → Type 0
WasEver P asks = (later earlier : List Ask) → asks ≡ later ++ earlier → HaveBothBegun earlier → P earlier

-- one ask more or not
pub one_more : (P : List Ask → Type 0) (a : Ask) (asked : List Ask) → WasEver P asked → P (a ∷ asked) → WasEver P (a ∷ asked)
one_more P a asked ever now [] earlier e begun = subst P e now
one_more P a asked ever now (x ∷ later) earlier e begun = ever later earlier (ap tail_of e) begun

may_more : (P : List Ask → Type 0) (queue : LogQueue) (asked later : List Ask) → (later ≡ asked) ⊎ ((act : Act) × (later ≡ ask queue act ∷ asked)) → WasEver P asked → P later → WasEver P later
may_more P queue asked later (inl e) ever now = subst (λ (l : List Ask). WasEver P l) (sym e) ever
may_more P queue asked later (inr m) ever now = subst (λ (l : List Ask). WasEver P l) (sym m.1) (one_more P (ask queue m.0) asked ever (subst P m.1 now))

-- asks behind others
since_more : (queue : LogQueue) (asked later first : List Ask) → (later ≡ asked) ⊎ ((act : Act) × (later ≡ ask queue act ∷ asked)) → (since : List Ask) × (asked ≡ since ++ first) → (since : List Ask) × (later ≡ since ++ first)
since_more queue asked later first (inl e) s = (s.0, e ∙ s.1)
since_more queue asked later first (inr m) s = (ask queue m.0 ∷ s.0, m.1 ∙ ap (λ (l : List Ask). ask queue m.0 ∷ l) s.1)

abbrev pub ReadyIsDone : Type 0
ReadyIsDone =
    (queue : LogQueue) (version : Version) (asked later : List Ask) (files left : List NumberedBytes) → acts_on queue asked ≡ Found files ∷ [] → IsReady queue version asked later files left
    → (h : List Event) → FilesHold queue version left h → AreReadyDone queue version files left (acts_on queue later) h

-- both queues, once they are ready
module _ (ready : ReadyIsDone) (version : Version) (asked : List Ask) (append rewrite append_left rewrite_left : List NumberedBytes) (h k : List Event)
    (r : AreReady version append rewrite append_left rewrite_left asked) (append_held : FilesHold Append version append_left h) (rewrite_held : FilesHold Rewrite version rewrite_left k) where
  abbrev first : List Ask
  first = found_asks append rewrite

  a : AreReadyDone Append version append append_left (acts_on Append r.between) h
  a = ready Append version first r.between append append_left refl r.append_ready h append_held

  step_append : (r.between ≡ first) ⊎ ((act : Act) × (r.between ≡ ask Append act ∷ first))
  step_append = one_ask Append version first r.between append append_left r.append_ready

  step_rewrite : (asked ≡ r.between) ⊎ ((act : Act) × (asked ≡ ask Rewrite act ∷ r.between))
  step_rewrite = one_ask Rewrite version r.between asked rewrite rewrite_left r.rewrite_ready

  rewrite_same : acts_on Rewrite r.between ≡ Found rewrite ∷ []
  rewrite_same = rewrite_acts first r.between step_append

  append_same : acts_on Append asked ≡ acts_on Append r.between
  append_same = append_acts r.between asked step_rewrite

  b : AreReadyDone Rewrite version rewrite rewrite_left (acts_on Rewrite asked) k
  b = ready Rewrite version r.between asked rewrite rewrite_left rewrite_same r.rewrite_ready k rewrite_held

  append_all : AreAllDone Append version (acts_on Append asked) (Crash h 0 ∷ [])
  append_all = subst (λ (l : List Act). AreAllDone Append version l (Crash h 0 ∷ [])) (sym append_same) a.after

  -- the files were found first
  since_between : (since : List Ask) × (r.between ≡ since ++ first)
  since_between = since_more Append first r.between first step_append ([], refl)

  since_asked : (since : List Ask) × (asked ≡ since ++ first)
  since_asked = since_more Rewrite r.between asked first step_rewrite since_between

  found_first : IsBegunOrFound asked
  found_first = inr (since_asked.0, append, rewrite, since_asked.1)

  pub made_ready : AreMadeReady version append rewrite append_left rewrite_left asked h k
  made_ready = record {
    append_held = a.torn;
    rewrite_held = b.torn;
    append_files = ap begun append_same ∙ a.are;
    rewrite_files = b.are;
    append_none = ap deletions append_same ∙ a.none;
    rewrite_none = b.none;
  }

  module _ (P : List Ask → Type 0)
      (so : (l : List Ask) → (since : List Ask) × (l ≡ since ++ first) → AreDone Append version (acts_on Append l) (Crash h 0 ∷ []) → AreDone Rewrite version (acts_on Rewrite l) (Crash k 0 ∷ []) → ArePut Append version (acts_on Append l) h h
      → ((queue : LogQueue) → AreWellPut queue version (acts_on queue l)) → P l) where
    at_first : WasEver P first
    at_first [] earlier e begun = subst P e (so first ([], refl) a.before.done b.before.done a.before.put (both_well version first a.before.well b.before.well))
    at_first (x ∷ []) earlier e begun = absurd (begun.1 (sym (ap (λ (l : List Ask). acts_on Rewrite (tail_of l)) e)))
    at_first (x ∷ y ∷ []) earlier e begun = absurd (begun.0 (sym (ap (λ (l : List Ask). acts_on Append (tail_of (tail_of l))) e)))
    at_first (x ∷ y ∷ z ∷ later) earlier e begun = absurd (no_more z (later ++ earlier) (ap (λ (l : List Ask). tail_of (tail_of l)) e))

    pub ever_ready : WasEver P asked
    ever_ready =
        may_more P Rewrite r.between asked step_rewrite
        (may_more P Append first r.between step_append at_first
        (so r.between since_between a.after.done.done (subst (λ (l : List Act). AreDone Rewrite version l (Crash k 0 ∷ [])) (sym rewrite_same) b.before.done) a.after.put.put
        (both_well version r.between a.after.well (subst (AreWellPut Rewrite version) (sym rewrite_same) b.before.well))))
        (so asked since_asked append_all.done.done b.after.done.done append_all.put.put (both_well version asked append_all.well b.after.well))

pub found_ready : ReadyIsDone → FoundFilesAreReady
found_ready ready version asked append rewrite append_left rewrite_left h k r append_held rewrite_held = made_ready ready version asked append rewrite append_left rewrite_left h k r append_held rewrite_held

-- ---- what is stored

-- whatever is left of the files has these records
abbrev HaveLeft : (EntryIndex → List ℕ) → Version → (ℕ → Records) → List Ask → Type 0
HaveLeft content version records l =
    (append rewrite : List NumberedBytes) → IsLeftOf Append l append → IsLeftOf Rewrite l rewrite → AreFoundIn content version append rewrite records

abbrev LeftIsHeld : Type 0
LeftIsHeld =
    (queue : LogQueue) (version : Version) (asked : List Ask) (deeds : List Deed) (files : List NumberedBytes)
    → AreDone queue version (acts_on queue asked) deeds → IsLeftOf queue asked files → HoldLeft queue version deeds files

-- where nothing is lost, what is left has the records that were found
records_found : LeftIsHeld → (content : EntryIndex → List ℕ) (version : Version) (base : ℕ → Records) (l : List Ask) (h : List Event) (rewritten : List Deed)
    → AreDone Append version (acts_on Append l) (Crash h 0 ∷ []) → AreDone Rewrite version (acts_on Rewrite l) rewritten → AreGroupsInRows (written rewritten)
    → LoseNothing content base (Crash h 0 ∷ []) rewritten → HaveLeft content version (live content base h) l
records_found left content version base l h rewritten append_done rewrite_done rows none append rewrite left_append left_rewrite =
    let a = left Append version l (Crash h 0 ∷ []) append append_done left_append in
    let b = left Rewrite version l rewritten rewrite rewrite_done left_rewrite in
    let ok = none.readable a.standing a.left b.standing b.left a.is_left b.is_left in
    let same : a.standing ≡ h = a.is_left.stands in
    record {
      appended = a.left;
      rewritten = b.left;
      append_held = a.held;
      rewrite_held = b.held;
      append_consecutive = a.consecutive;
      rewrite_consecutive = b.consecutive;
      append_sound = ok.0;
      rewrite_sound = ok.1;
      apart = ok.2;
      rows = rows_left rewritten b.standing b.left rows b.is_left;
      found = λ tables cleaned reading.
          subst (λ (standing : List Event). HaveRecords content tables (live content base standing)) same
          (none.found a.standing a.left b.standing b.left a.is_left b.is_left tables cleaned reading);
    }

no_item : (item : Item) (items : List Item) → item ∷ items ≡ [] → ⊥
no_item item items e = absurd cc

module _ (ready : ReadyIsDone) (lasts : WhatIsDoneLasts) (left : LeftIsHeld)
    (lose : (content : EntryIndex → List ℕ) (base : ℕ → Records) (appended rewritten : List Deed) (untold : List RegionStep)
    (tables : Tables) → IsSafe content base appended rewritten untold tables → LoseNothing content base appended rewritten)
    (keep : (asks : List Ask) (a : Ask) (content : EntryIndex → List ℕ) → KeepsBytes a.act → AreBothTold (a ∷ asks) content → AreBothTold asks content)
    (put : (queue : LogQueue) (version : Version) (acts : List Act) (deeds : List Deed) (closed : List NumberedBytes) (last : NumberedBytes)
    (handle : FileBlockHandle) (batch : Batch) → IsWritableBatch batch
    → handle.id ≡ record { queue = queue; seq = last.0 } → handle.offset ≡ length last.1
    → begun acts ≡ closed ++ last ∷ [] → AreAllDone queue version acts deeds
    → AreAllDone queue version (Put (bytes_for (record { id = record { queue = queue; seq = last.0 }; version = version }) batch) ∷ acts)
    (Write (written_event (whole_file queue version last) handle batch.items batch.entry_bytes) ∷ deeds))
    (sync : (queue : LogQueue) (version : Version) (acts : List Act) (deeds : List Deed)
    → AreAllDone queue version acts deeds → AreAllDone queue version (asks.Sync ∷ acts) (queue_deeds.Sync ∷ deeds))
    (next : LastFileIsNext)
    (in_file : (file : FileId) (items : List Item) → TakeAway items → AreInFile file items)
    (status : (items : List Item) → TakeAway items → HaveStatus Rewrite items)
    (unmarked : (file : FileId) (items : List Item) → TakeAway items → HasNoMarker (record { items = items; file = file }))
    (open_mixed : (append rewrite : List Event) (found : Tables) (cleaned : List ℕ) (e : Event)
    → IsSoundIn Append append → IsSoundIn Rewrite rewrite → Apart rewrite → (both : IsReadingOfBoth rewrite append found cleaned)
    → ((r : ℕ) → AreTableEntries (table_of r (finite.get found r)).entries)
    → IsNextIn Rewrite (Crash rewrite 0 ∷ []) e → HasNoMarker e → (untold : List RegionStep)
    → ((r : ℕ) → IsToldNowOrLater (steps_of r (batches append)) (steps_on r (steps_of_items e.items)) (steps_on r untold) (table_of r (finite.get both.rewritten r)) (table_of r (finite.get found r)))
    → (base : Bases) × ((content : EntryIndex → List ℕ) → IsSafe content (base content) (Crash append 0 ∷ []) (queue_deeds.Sync ∷ Write e ∷ Crash rewrite 0 ∷ []) untold found)
    × ((content : EntryIndex → List ℕ) → LoseNothing content (base content) (Crash append 0 ∷ []) (Write e ∷ Crash rewrite 0 ∷ []))
    × ((content : EntryIndex → List ℕ) → LoseNothing content (base content) (Crash append 0 ∷ []) (Crash rewrite 0 ∷ [])))
    (open_later : (append rewrite : List Event) (found : Tables) (cleaned : List ℕ)
    → IsSoundIn Append append → IsSoundIn Rewrite rewrite → Apart rewrite → (both : IsReadingOfBoth rewrite append found cleaned)
    → ((r : ℕ) → AreTableEntries (table_of r (finite.get found r)).entries) → (untold : List RegionStep)
    → ((r : ℕ) → IsToldNowOrLater (steps_of r (batches append)) [] (steps_on r untold) (table_of r (finite.get both.rewritten r)) (table_of r (finite.get found r)))
    → (base : Bases) × ((content : EntryIndex → List ℕ) → IsSafe content (base content) (Crash append 0 ∷ []) (Crash rewrite 0 ∷ []) untold found)) where
  module _ (version : Version) (asked : List Ask) (append rewrite append_left rewrite_left : List NumberedBytes) (accessor : Accessor) (told untold : Batch)
      (r : AreReady version append rewrite append_left rewrite_left asked) (g : AreRecovered version append_left rewrite_left accessor told untold) where
    abbrev h : List Event
    h = g.appended

    abbrev k : List Event
    k = g.rewritten

    abbrev left_untold : List RegionStep
    left_untold = steps_of_items untold.items

    append_done : AreAllDone Append version (acts_on Append asked) (Crash h 0 ∷ [])
    append_done = append_all ready version asked append rewrite append_left rewrite_left h k r g.append_held g.rewrite_held

    rewrite_done : AreReadyDone Rewrite version rewrite rewrite_left (acts_on Rewrite asked) k
    rewrite_done = b ready version asked append rewrite append_left rewrite_left h k r g.append_held g.rewrite_held

    begun_or_found : IsBegunOrFound asked
    begun_or_found = found_first ready version asked append rewrite append_left rewrite_left h k r g.append_held g.rewrite_held

    ever : (P : List Ask → Type 0)
        → ((l : List Ask) → (since : List Ask) × (l ≡ since ++ found_asks append rewrite) → AreDone Append version (acts_on Append l) (Crash h 0 ∷ [])
        → AreDone Rewrite version (acts_on Rewrite l) (Crash k 0 ∷ []) → ArePut Append version (acts_on Append l) h h
        → ((queue : LogQueue) → AreWellPut queue version (acts_on queue l)) → P l)
        → WasEver P asked
    ever = ever_ready ready version asked append rewrite append_left rewrite_left h k r g.append_held g.rewrite_held

    made : AreMadeReady version append rewrite append_left rewrite_left asked h k
    made = made_ready ready version asked append rewrite append_left rewrite_left h k r g.append_held g.rewrite_held

    -- where of the found files nothing stays in front, so it is of their batches
    found_join : (l : List Ask) → (since : List Ask) × (l ≡ since ++ found_asks append rewrite) → FoundFilesJoin version l → BatchesJoin h k
    found_join l since found = found since.0 append rewrite since.1 h k made.append_held made.rewrite_held

    left_join : (l : List Ask) → (since : List Ask) × (l ≡ since ++ found_asks append rewrite) → FoundFilesJoin version l
        → (standing a others w : List Event) → IsLeft (Crash h 0 ∷ []) standing a → IsLeft (Crash k 0 ∷ []) others w → BatchesJoin a w
    left_join l since found standing a others w x y =
        subst (λ (e : List Event). BatchesJoin e w) (sym (left_of_crash Append h standing a g.append_sound.files x))
        (subst (λ (e : List Event). BatchesJoin h e) (sym (left_of_crash Rewrite k others w g.rewrite_sound.files y)) (found_join l since found))

    ever_lasting : (base : Bases) → ((content : EntryIndex → List ℕ) → LoseNothing content (base content) (Crash h 0 ∷ []) (Crash k 0 ∷ []))
        → (content : EntryIndex → List ℕ) → WasEver (λ (l : List Ask). IsLastingAfter content version (base content) l) asked
    ever_lasting base none content =
        ever (λ (l : List Ask). IsLastingAfter content version (base content) l)
        (λ l since done done' put well. (lasts content version (base content) l (Crash h 0 ∷ []) (Crash k 0 ∷ []) done done' put well g.rows (none content) (left_join l since)).0)

    ever_found : (base : Bases) → ((content : EntryIndex → List ℕ) → LoseNothing content (base content) (Crash h 0 ∷ []) (Crash k 0 ∷ []))
        → (content : EntryIndex → List ℕ) → WasEver (HaveLeft content version (live content (base content) h)) asked
    ever_found base none content =
        ever (HaveLeft content version (live content (base content) h))
        (λ l since done done' put well. records_found left content version (base content) l h (Crash k 0 ∷ []) done done' g.rows (none content))

    module _ (nothing : told.items ≡ []) where
      open_so : (base : Bases) × ((content : EntryIndex → List ℕ) → IsSafe content (base content) (Crash h 0 ∷ []) (Crash k 0 ∷ []) left_untold accessor.tables)
      open_so =
          open_later h k accessor.tables accessor.cleaned g.append_sound g.rewrite_sound g.apart g.reading g.runs left_untold
          (λ i. subst (λ (l : List Step). IsToldNowOrLater (steps_of i (batches h)) l (steps_on i left_untold) (table_of i (finite.get g.reading.rewritten i)) (table_of i (finite.get accessor.tables i)))
          (ap (λ (l : List Item). steps_on i (steps_of_items l)) nothing ∙ own_none i) (g.says i))

      none_lost : (content : EntryIndex → List ℕ) → LoseNothing content (open_so.0 content) (Crash h 0 ∷ []) (Crash k 0 ∷ [])
      none_lost content = lose content (open_so.0 content) (Crash h 0 ∷ []) (Crash k 0 ∷ []) left_untold accessor.tables (open_so.1 content)

      at_once : AreStoredBeside version asked untold.items accessor.tables
      at_once = (
        open_so.0,
        record {
          first = begun_or_found;
          now = record { appended = Crash h 0 ∷ []; rewritten = Crash k 0 ∷ []; append_done = append_done; rewrite_done = rewrite_done.after; rows = g.rows; safe = λ content told. open_so.1 content };
          ever = λ content told. ever_lasting open_so.0 none_lost content;
        },
      )

      records_at_once : (records : Bases) × HaveEverRecords version asked records
      records_at_once = ((λ content. live content (open_so.0 content) h), ever_found open_so.0 none_lost)

    module _ (closed : List NumberedBytes) (seq : ℕ) (bytes : List ℕ) (split : rewrite_left ≡ closed ++ (seq, bytes) ∷ []) (w : IsWritableBatch told) where
      abbrev id : FileId
      id = record { queue = Rewrite; seq = seq }

      abbrev handle : FileBlockHandle
      handle = place_at id (length bytes) told

      abbrev e : Event
      e = written_event (whole_file Rewrite version (seq, bytes)) handle told.items told.entry_bytes

      abbrev items : List Item
      items = placed_at id (length bytes) told

      taken : TakeAway items
      taken = placed_away (entry_place handle told.entry_bytes) compressions.None told.items g.told_away

      is_last : begun (acts_on Rewrite asked) ≡ closed ++ (seq, bytes) ∷ []
      is_last = rewrite_done.are ∙ split

      is_next : IsNextIn Rewrite (Crash k 0 ∷ []) e
      is_next = next Rewrite version (acts_on Rewrite asked) (Crash k 0 ∷ []) closed (seq, bytes) e rewrite_done.after.done is_last refl (in_file id items taken) (status items taken)

      rows_more : AreGroupsInRows (k ++ e ∷ [])
      rows_more = rows_alone k e (unmarked id items taken) g.rows

      steps : steps_of_items items ≡ steps_of_items told.items
      steps = placed_steps (entry_place handle told.entry_bytes) compressions.None told.items g.told_away

      o : (base : Bases) × ((content : EntryIndex → List ℕ) → IsSafe content (base content) (Crash h 0 ∷ []) (queue_deeds.Sync ∷ Write e ∷ Crash k 0 ∷ []) left_untold accessor.tables)
          × ((content : EntryIndex → List ℕ) → LoseNothing content (base content) (Crash h 0 ∷ []) (Write e ∷ Crash k 0 ∷ []))
          × ((content : EntryIndex → List ℕ) → LoseNothing content (base content) (Crash h 0 ∷ []) (Crash k 0 ∷ []))
      o =
          open_mixed h k accessor.tables accessor.cleaned e g.append_sound g.rewrite_sound g.apart g.reading g.runs is_next (unmarked id items taken) left_untold
          (λ i. subst (λ (l : List RegionStep). IsToldNowOrLater (steps_of i (batches h)) (steps_on i l) (steps_on i left_untold) (table_of i (finite.get g.reading.rewritten i)) (table_of i (finite.get accessor.tables i)))
          (sym steps) (g.says i))

      abbrev put_ask : Ask
      put_ask = ask Rewrite (Put (bytes_for (record { id = id; version = version }) told))

      put_all : AreAllDone Rewrite version (acts_on Rewrite (put_ask ∷ asked)) (Write e ∷ Crash k 0 ∷ [])
      put_all = put Rewrite version (acts_on Rewrite asked) (Crash k 0 ∷ []) closed (seq, bytes) handle told w refl refl is_last rewrite_done.after

      sync_all : AreAllDone Rewrite version (acts_on Rewrite (ask Rewrite asks.Sync ∷ put_ask ∷ asked)) (queue_deeds.Sync ∷ Write e ∷ Crash k 0 ∷ [])
      sync_all = sync Rewrite version (acts_on Rewrite (put_ask ∷ asked)) (Write e ∷ Crash k 0 ∷ []) put_all

      -- where of the found files nothing stays in front, nothing is told
      nothing_put : FoundFilesJoin version (put_ask ∷ asked) → (standing a others q : List Event) → IsLeft (Crash h 0 ∷ []) standing a → IsLeft (Write e ∷ Crash k 0 ∷ []) others q → BatchesJoin a q
      nothing_put found standing a others q x y =
          let since = since_asked ready version asked append rewrite append_left rewrite_left h k r g.append_held g.rewrite_held in
          let join = found_join (put_ask ∷ asked) (put_ask ∷ since.0, ap (λ (l : List Ask). put_ask ∷ l) since.1) found in
          absurd (w.some (joined_told version append_left rewrite_left accessor told untold g join))

      ever_put : (content : EntryIndex → List ℕ) → WasEver (λ (l : List Ask). IsLastingAfter content version (o.0 content) l) (put_ask ∷ asked)
      ever_put content =
          one_more (λ (l : List Ask). IsLastingAfter content version (o.0 content) l) put_ask asked (ever_lasting o.0 o.3 content)
          (lasts content version (o.0 content) (put_ask ∷ asked) (Crash h 0 ∷ []) (Write e ∷ Crash k 0 ∷ []) append_done.done.done put_all.done.done append_done.put.put
          (both_well version (put_ask ∷ asked) append_done.well put_all.well) rows_more (o.2 content) nothing_put).0

      once_told : AreStoredBeside version (told_asks version seq told asked) untold.items accessor.tables
      once_told = (
        o.0,
        goes_on lasts lose keep version (ask Rewrite asks.Sync) (put_ask ∷ asked) o.0 untold.items accessor.tables tt (first_on put_ask asked begun_or_found) (λ content told. ever_put content) (record {
          appended = Crash h 0 ∷ [];
          rewritten = queue_deeds.Sync ∷ Write e ∷ Crash k 0 ∷ [];
          append_done = append_done;
          rewrite_done = sync_all;
          rows = rows_more;
          safe = λ content told. o.1 content;
        }),
      )

      records_once_told : (records : Bases) × HaveEverRecords version (told_asks version seq told asked) records
      records_once_told = (
        (λ content. live content (o.0 content) h),
        λ content.
            one_more (HaveLeft content version (live content (o.0 content) h)) (ask Rewrite asks.Sync) (put_ask ∷ asked)
            (one_more (HaveLeft content version (live content (o.0 content) h)) put_ask asked (ever_found o.0 o.3 content)
            (records_found left content version (o.0 content) (put_ask ∷ asked) h (Write e ∷ Crash k 0 ∷ []) append_done.done.done put_all.done.done rows_more (o.2 content)))
            (records_found left content version (o.0 content) (ask Rewrite asks.Sync ∷ put_ask ∷ asked) h (queue_deeds.Sync ∷ Write e ∷ Crash k 0 ∷ []) append_done.done.done sync_all.done.done rows_more
            (lose content (o.0 content) (Crash h 0 ∷ []) (queue_deeds.Sync ∷ Write e ∷ Crash k 0 ∷ []) left_untold accessor.tables (o.1 content))),
      )

  pub found_stored : FoundFilesAreStored
  found_stored version asked append rewrite append_left rewrite_left accessor told untold r g =
      (at_once version asked append rewrite append_left rewrite_left accessor told untold r g, once_told version asked append rewrite append_left rewrite_left accessor told untold r g)

  pub found_records : FoundRecordsLast
  found_records version asked append rewrite append_left rewrite_left accessor told untold r g closed seq bytes split writable = go told.items refl
    where
      go : (items : List Item) → told.items ≡ items → (records : Bases) × HaveEverRecords version (asks_that_tell version seq told items ++ asked) records
      go [] none = records_at_once version asked append rewrite append_left rewrite_left accessor told untold r g none
      go (item ∷ items) some =
          records_once_told version asked append rewrite append_left rewrite_left accessor told untold r g closed seq bytes split
          (writable (λ none. no_item item items (sym some ∙ none)))
