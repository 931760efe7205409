-- Tables that are read back of the append files, once more is asked of the files.
use Rattle.raft_engine.proofs.Common.{◌≡◌, ◌≢◌, inl, ℕ, zero, suc, ◌≤◌, List, [], ◌∷◌, ◌++◌, length, map, Option, Some, None, refl, sym, ap, ◌∙◌, subst, append_assoc, append-nil, arith, map-append, AllByRecursion, nat_cmp, CompressionType, EntryIndex, FileBlockHandle, FileId}
use Rattle.raft_engine.proofs.Common.{LogQueue, Append, Rewrite, Version, Content, Item, command, entries, pair, placed_content, placed_item, Batch, entry_place, Stored, table_of, Table, Event, effects_behind, IsReadNext, PlacedItemsAreInFile, ReadingGoesOn, SoundHistoryGoesOn}
use Rattle.raft_engine.proofs.Common.{IsOneReading, last_from, Tables, cleaned_by_steps, steps_of_items, tables_after, Accessor, Rewriting, listed_by_items, AppendedItemsFollow, AreMovedEntries, AreMovedTables, IsMovedPair, ReadingLeavesRuns, RewritingMovesPlaces}
use Rattle.raft_engine.proofs.Common.{AppendedItemsAreListed, AppendedItemsAreRead, ItemsAreRead, Act, Ask, Begin, Found, NumberedBytes, Put, Sync, acts_on, ask, begun, FilesHold, TakeAway, TakesAway, AreRisingFrom, numbers, ArePutWhole, files_up_to, last_low, begun_whole}
use Rattle.raft_engine.proofs.Common.{whole_torn, bytes_for, event_at, place_at, placed_at, IsLastFile, asks_of_items, delete_asks, put_asks, IsReadBackAlone, MovedBatchesAreReadBack, NoneFound, NothingMoved, WrittenBatchesAreReadBack, batch_of, IsWritableBatch}
use Rattle.std.specs.FinMap as finite
use Rattle.raft_base.specs.declared.compression_type.CompressionType.TheVariants as compressions
use Rattle.raft_engine_prefixes.proofs.StepLemmas as steps

some_is : {A : Type 0} {x y : A} → Some x ≡ Some y → x ≡ y
some_is e = cc

-- ---- batches that put nothing

all_first : {A : Type 0} (P : A → Type 0) (xs ys : List A) → AllByRecursion P (xs ++ ys) → AllByRecursion P xs
all_first P [] ys h = tt
all_first P (x ∷ xs) ys h = (h.0, all_first P xs ys h.1)

last_of_all : {A : Type 0} (P : A → Type 0) (xs : List A) (x : A) → AllByRecursion P (xs ++ x ∷ []) → P x
last_of_all P [] x h = h.0
last_of_all P (y ∷ xs) x h = last_of_all P xs x h.1

took_away : (place : FileBlockHandle) (compression : CompressionType) (c : Content) → TakesAway (placed_content place compression c) → TakesAway c
took_away place compression (entries es) t = absurd t
took_away place compression (command c) t = tt
took_away place compression (pair p) t = t

-- so they did before they were placed
pub took_all_away : (place : FileBlockHandle) (compression : CompressionType) (items : List Item) → TakeAway (map (placed_item place compression) items) → TakeAway items
took_all_away place compression [] t = tt
took_all_away place compression (item ∷ items) t = (took_away place compression item.content t.0, took_all_away place compression items t.1)

-- a batch that moves records puts them
moving_puts : (id : ℕ) (es : List EntryIndex) (strings : List (List ℕ)) (ps : List (List ℕ × List ℕ)) → (batch_of id es strings ps).items ≢ [] → TakeAway (batch_of id es strings ps).items → ⊥
moving_puts id [] strings [] some away = some refl
moving_puts id [] strings (p ∷ ps) some away = let e = away.0 in cc
moving_puts id (e ∷ es) strings ps some away = absurd away.0

-- ---- files that hold one batch more

module _ (queue : LogQueue) (version : Version) (acts : List Act) (closed : List NumberedBytes) (seq : ℕ) (bytes : List ℕ) (batch : Batch)
    (files : begun acts ≡ closed ++ (seq, bytes) ∷ []) (w : IsWritableBatch batch) where
  abbrev id : FileId
  id = record { queue = queue; seq = seq }

  pub held_more : (h : List Event) → FilesHold queue version (begun acts) h
      → FilesHold queue version (begun (Put (bytes_for (record { id = id; version = version }) batch) ∷ acts)) (h ++ event_at id (length bytes) batch ∷ [])
  held_more h held =
      let before : ArePutWhole queue version (Sync ∷ acts) h h = record { put = (refl, whole_torn queue version (begun acts) h held); whole = held } in
      let p = steps.written queue version (Sync ∷ acts) h h closed (seq, bytes) (place_at id (length bytes) batch) batch.items batch.entry_bytes w.tiled w.in_range w.in_bytes w.some w.short refl refl files before in
      p.whole

-- ---- what was found

pub none_before : (queue : LogQueue) (version : Version) (more asked : List Ask) → NoneFound queue version (more ++ asked) → NoneFound queue version asked
none_before queue version more asked none =
    λ since earlier files e. none (more ++ since) earlier files (ap (λ (l : List Ask). more ++ l) e ∙ sym (append_assoc more since (ask queue (Found files) ∷ earlier)))

-- ---- asks that change no append file

-- where other rewrite files put nothing, these don't either
module _ (version : Version) (asked more : List Ask) (accessor : Accessor) (same : begun (acts_on Append (more ++ asked)) ≡ begun (acts_on Append asked))
    (quiet : NothingMoved version (more ++ asked) → NothingMoved version asked) where
  pub read_back_stays : IsReadBackAlone version asked accessor → IsReadBackAlone version (more ++ asked) accessor
  read_back_stays back none =
      let r = back (none_before Rewrite version more asked none) in record {
        batches = r.batches;
        held = subst (λ (files : List NumberedBytes). FilesHold Append version files r.batches) (sym same) r.held;
        sound = r.sound;
        read = r.read;
        reading = r.reading;
        moved = r.moved;
        unmoved = λ nothing. r.unmoved (quiet nothing);
      }

same_quiet : (version : Version) (asked more : List Ask) → begun (acts_on Rewrite (more ++ asked)) ≡ begun (acts_on Rewrite asked) → NothingMoved version (more ++ asked) → NothingMoved version asked
same_quiet version asked more same nothing = λ h held. nothing h (subst (λ (files : List NumberedBytes). FilesHold Rewrite version files h) (sym same) held)

-- asks that change no file at all
pub same_read_back : (version : Version) (asked more : List Ask) (accessor : Accessor) → begun (acts_on Append (more ++ asked)) ≡ begun (acts_on Append asked)
    → begun (acts_on Rewrite (more ++ asked)) ≡ begun (acts_on Rewrite asked) → IsReadBackAlone version asked accessor → IsReadBackAlone version (more ++ asked) accessor
same_read_back version asked more accessor append rewrite back = read_back_stays version asked more accessor append (same_quiet version asked more rewrite) back

-- deletions change no file that was begun
pub append_deletes_begun : (count : ℕ) (asked : List Ask) → begun (acts_on Append (delete_asks Append count ++ asked)) ≡ begun (acts_on Append asked)
append_deletes_begun zero asked = refl
append_deletes_begun (suc count) asked = append_deletes_begun count asked

pub rewrite_deletes_begun : (count : ℕ) (asked : List Ask) → begun (acts_on Rewrite (delete_asks Rewrite count ++ asked)) ≡ begun (acts_on Rewrite asked)
rewrite_deletes_begun zero asked = refl
rewrite_deletes_begun (suc count) asked = rewrite_deletes_begun count asked

-- a new file of the rewrite queue
pub rewrite_begun_read_back : (version : Version) (asked : List Ask) (seq : ℕ) (accessor : Accessor) → IsReadBackAlone version asked accessor → IsReadBackAlone version (ask Rewrite (Begin seq) ∷ asked) accessor
rewrite_begun_read_back version asked seq accessor back =
    read_back_stays version asked (ask Rewrite (Begin seq) ∷ []) accessor refl (λ nothing h held. nothing h (begun_whole Rewrite version (begun (acts_on Rewrite asked)) seq h held)) back

-- a batch that is told
pub told_read_back : (version : Version) (asked : List Ask) (seq : ℕ) (bytes : List ℕ) (batch : Batch) (accessor : Accessor) → IsLastFile Rewrite asked seq bytes → (batch.items ≢ [] → IsWritableBatch batch)
    → IsReadBackAlone version asked accessor → IsReadBackAlone version (put_asks (record { id = record { queue = Rewrite; seq = seq }; version = version }) batch ++ asked) accessor
told_read_back version asked seq bytes batch accessor last writable back = go batch.items refl
  where
    go : (items : List Item) → batch.items ≡ items → IsReadBackAlone version (asks_of_items (record { id = record { queue = Rewrite; seq = seq }; version = version }) batch items ++ asked) accessor
    go [] e = back
    go (item ∷ items) e =
        let w = writable (λ none. let both = sym e ∙ none in cc) in
        read_back_stays version asked (ask Rewrite (Put (bytes_for (record { id = record { queue = Rewrite; seq = seq }; version = version }) batch)) ∷ []) accessor refl
        (λ nothing h held.
        all_first (λ (x : Event). TakeAway x.items) h _ (nothing _ (held_more Rewrite version (acts_on Rewrite asked) last.closed seq bytes batch last.files w h held)))
        back

-- ---- a new append file

pub begun_read_back : (version : Version) (asked : List Ask) (seq : ℕ) (accessor : Accessor) → IsReadBackAlone version asked accessor → IsReadBackAlone version (ask Append (Begin seq) ∷ asked) accessor
begun_read_back version asked seq accessor back none =
    let r = back (none_before Rewrite version (ask Append (Begin seq) ∷ []) asked none) in record {
      batches = r.batches;
      held = begun_whole Append version (begun (acts_on Append asked)) seq r.batches r.held;
      sound = r.sound;
      read = r.read;
      reading = r.reading;
      moved = r.moved;
      unmoved = r.unmoved;
    }

-- ---- the first files

moved_self : (es : List EntryIndex) → AreMovedEntries es es
moved_self [] = tt
moved_self (e ∷ es) = ((refl, inl refl), moved_self es)

pair_self : (s : Option Stored) → IsMovedPair s s
pair_self None = tt
pair_self (Some s) = (refl, inl refl)

-- tables of which nothing moved
pub unmoved_self : (tables : Tables) → AreMovedTables tables tables
unmoved_self tables = record {
  each = λ r. record {
    entries = moved_self (table_of r (finite.get tables r)).entries;
    pairs = λ key. pair_self (finite.get (table_of r (finite.get tables r)).keys key);
  };
  present = λ r e. e;
}

pub first_read_back : (version : Version) (accessor : Accessor) → accessor.tables ≡ finite.empty → accessor.cleaned ≡ [] → IsReadBackAlone version (ask Rewrite (Begin 1) ∷ ask Append (Begin 1) ∷ []) accessor
unfolding effects_behind
first_read_back version accessor no_tables no_cleaned none = record {
  batches = [];
  held = begun_whole Append version [] 1 [] refl;
  sound = record { files = tt; items = tt; markers = tt; accepted = λ r. (None, refl) };
  read = accessor.tables;
  reading = record {
    tables_read = λ r. ap (λ (o : Option Table). Some o) (sym (ap (λ (m : Tables). finite.get m r) no_tables ∙ finite.get-empty nat_cmp r));
    regions_cleaned = no_cleaned;
  };
  moved = unmoved_self accessor.tables;
  unmoved = λ nothing. refl;
}

-- ---- a batch that is written

-- no batch is of a file above the last one
low_batches : (version : Version) (files closed : List NumberedBytes) (first seq : ℕ) (bytes : List ℕ) (h : List Event) → files ≡ closed ++ (seq, bytes) ∷ []
    → AreRisingFrom first (numbers files) → FilesHold Append version files h → last_from 0 h ≤ seq
low_batches version files closed first seq bytes h split rising held =
    let up : AreRisingFrom first (numbers closed ++ seq ∷ []) =
    subst (AreRisingFrom first) (ap numbers split ∙ map-append (λ (file : NumberedBytes). file.0) closed ((seq, bytes) ∷ [])) rising in
    last_low seq 0 h (omega arith) (files_up_to Append version first closed (seq, bytes) h up (subst (λ (l : List NumberedBytes). FilesHold Append version l h) split held))

pub written_read_back : AppendedItemsAreRead → AppendedItemsAreListed → ItemsAreRead → AppendedItemsFollow → SoundHistoryGoesOn → ReadingGoesOn → PlacedItemsAreInFile → WrittenBatchesAreReadBack
written_read_back appended listed again follow sound_on reading_on placed_in version asked old new first seq bytes batch last rising w applied r =
    let id : FileId = record { queue = Append; seq = seq } in
    let items : List Item = placed_at id (length bytes) batch in
    let event : Event = event_at id (length bytes) batch in
    let on = follow old.tables r.read new.tables items r.moved applied.tables in
    let accepted : tables_after Append r.read (steps_of_items items) ≡ Some on.0 = again Append r.read on.0 items on.1 in
    let low = low_batches version (begun (acts_on Append asked)) last.closed first seq bytes r.batches last.files rising r.held in
    let next : IsReadNext r.batches r.read event on.0 = record {
      queue = refl;
      follows = low;
      in_file = placed_in (entry_place (place_at id (length bytes) batch) batch.entry_bytes) compressions.None 0 batch.items w.tiled.tiled;
      accepted = accepted;
    } in
    let same_cleaned : old.cleaned ++ cleaned_by_steps Append (steps_of_items items) ≡ new.cleaned = ap (λ (l : List ℕ). old.cleaned ++ l) (sym (listed items)) ∙ sym applied.cleaned in
    record {
      batches = r.batches ++ event ∷ [];
      held = held_more Append version (acts_on Append asked) last.closed seq bytes batch last.files w r.batches r.held;
      sound = sound_on r.batches event r.read on.0 old.cleaned r.sound r.reading next;
      read = on.0;
      reading = subst (λ (l : List ℕ). IsOneReading Append (r.batches ++ event ∷ []) on.0 l) same_cleaned (reading_on r.batches event r.read on.0 old.cleaned r.sound r.reading next);
      moved = on.2;
      unmoved = λ nothing. some_is (sym (appended old.tables new.tables items applied.tables) ∙ ap (λ (m : Tables). tables_after Append m (steps_of_items items)) (r.unmoved nothing) ∙ accepted);
    }

-- ---- a batch that moves records

pub none_listed : (gate : Option ℕ) (seq : ℕ) (items : List Item) → listed_by_items (Rewriting gate seq) items ≡ []
none_listed gate seq [] = refl
none_listed gate seq (item ∷ items) = none_listed gate seq items

pub moved_read_back : RewritingMovesPlaces → ReadingLeavesRuns → MovedBatchesAreReadBack
moved_read_back rewriting runs version before asked old new seq bytes gate left t batch rewritten last held w m applied r =
    let id : FileId = record { queue = Rewrite; seq = seq } in
    let items : List Item = placed_at id (length bytes) batch in
    let same_cleaned : new.cleaned ≡ old.cleaned = applied.cleaned ∙ ap (λ (l : List ℕ). old.cleaned ++ l) (none_listed gate seq items) ∙ append-nil old.cleaned in
    record {
      batches = r.batches;
      held = r.held;
      sound = r.sound;
      read = r.read;
      reading = subst (λ (l : List ℕ). IsOneReading Append r.batches r.read l) (sym same_cleaned) r.reading;
      moved = rewriting gate seq old.tables r.read new.tables items r.moved (runs r.batches r.read old.cleaned r.sound r.reading) applied.asked applied.tables;
      unmoved = λ nothing.
          let all = nothing (rewritten ++ event_at id (length bytes) batch ∷ []) (held_more Rewrite version (acts_on Rewrite asked) last.closed seq bytes batch last.files w rewritten held) in
          let away : TakeAway items = last_of_all (λ (x : Event). TakeAway x.items) rewritten (event_at id (length bytes) batch) all in
          absurd (puts (took_all_away (entry_place (place_at id (length bytes) batch) batch.entry_bytes) compressions.None batch.items away));
    }
  where
    puts : TakeAway batch.items → ⊥
    puts away =
        let is = ap (λ (b : Batch). b.items) m.is in
        moving_puts t.region_id _ m.strings _ (λ none. w.some (is ∙ none)) (subst TakeAway is away)
