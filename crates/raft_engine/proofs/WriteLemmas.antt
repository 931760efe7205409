-- What an engine keeps once a batch is written.
use Rattle.raft_engine.proofs.Common.{◌≡◌, ◌≢◌, inl, inr, ℕ, ◌+◌, ◌≤◌, ◌^◌, Bool, true, false, List, [], ◌∷◌, ◌++◌, Some, Result, Ok, Err, IfErr, OnOk, OnErr, length, map, refl, sym, ap, ◌∙◌, subst, append-nil, arith, signature_in, signature_of, Error, FileId, LogFileContext, Append, Rewrite}
use Rattle.raft_engine.proofs.Common.{Version, log_batch_length, Item, placed_item, Batch, Stage, sealed, empty_batch, encoded_length, entry_place, with_batch, Event, Tables, Accessor, AreAcceptedOncePlaced, Appending, AreWritten, after_items, Ask, MayBeAsked, NoSyncFailed}
use Rattle.raft_engine.proofs.Common.{NumberedBytes, Put, Sync, acts_on, ask, begun, deletions, FilesHold, TakeAway, taking_items, told_items, ArePutWhole, WrittenBatchIsPut, whole_torn, asks_of_items, bytes_for, event_at, place_at, placed_at, IsLastFile, KeptEngine, AreFilesOf}
use Rattle.raft_engine.proofs.Common.{IsKeptBy, IsReadBackAlone, WrittenBatchesAreReadBack, AreKeptStored, FailedSyncsAreStored, IsWritableBatch, SyncsAreStored, WrittenBatchesAreStored, AreCutShort, IsHalfWritten, IsOneMore, IsUnsynced, IsUnwritten, file_of, synced_if}
use Rattle.raft_engine.proofs.Common.{QueueFiles, IsBroken, Failures, FailsAmong, put_asks}
use Rattle.raft_base.specs.declared.compression_type.CompressionType.TheVariants as compressions
use Rattle.raft_base.specs.declared.errors.Error.TheVariants as errors
use Rattle.raft_accessor.specs.AppendChecks.{AreAccepted}
use Rattle.raft_engine_laws.specs.Crashes as queue_deeds
use Rattle.raft_engine.proofs.FilesLemmas.{files_last, files_put, files_same}
use Rattle.raft_engine.proofs.ReadBackLemmas.{none_before, same_read_back}
use Rattle.raft_engine.proofs.UntoldLemmas.{away-append, raised_same}
use Rattle.raft_engine.proofs.BrokenLemmas.{AreEver, AreSafe, broken_kept}
use Rattle.raft_engine.proofs.FaultLemmas.{writing_put, writing_sync, writing_whole}
use Rattle.raft_engine.proofs.KeptLemmas.{safe_now}
use Rattle.raft_engine.proofs.TrustLemmas.{synced_unfailed, unfailed_trusted}

-- a batch that can be put, and that the tables accept
pub record IsReady (tables : Tables) (batch : Batch) : Type 0 where
  pub writable : IsWritableBatch batch
  pub accepted : AreAcceptedOncePlaced tables batch.items

-- what is told of a batch, behind what was untold
pub merged : (old taken new : Batch) (told : List Item) → new ≡ with_batch old taken → taken ≡ record empty_batch { items = told } → TakeAway told → new ≡ record old { items = old.items ++ told }
merged old taken new told is are away =
    is ∙ ap (with_batch old) are ∙ ap (λ (l : List Item). record old { items = old.items ++ l; entry_bytes = old.entry_bytes ++ [] }) (raised_same (length old.entry_bytes) told away)
    ∙ ap (λ (b : List ℕ). record old { items = old.items ++ told; entry_bytes = b }) (append-nil old.entry_bytes)

-- a sync changes no file
begun_if : (sync : Bool) (asks : List Ask) → begun (acts_on Append (synced_if sync asks)) ≡ begun (acts_on Append asks)
begun_if true asks = refl
begun_if false asks = refl

gone_if : (sync : Bool) (asks : List Ask) → deletions (acts_on Append (synced_if sync asks)) ≡ deletions (acts_on Append asks)
gone_if true asks = refl
gone_if false asks = refl

others_if : (sync : Bool) (asks : List Ask) → acts_on Rewrite (synced_if sync asks) ≡ acts_on Rewrite asks
others_if true asks = refl
others_if false asks = refl

parts_if : (sync : Bool) (a : Ask) → synced_if sync (a ∷ []) ≡ synced_if sync [] ++ a ∷ []
parts_if true a = refl
parts_if false a = refl

prefix_if : (sync : Bool) (a : Ask) (asks : List Ask) → synced_if sync (a ∷ asks) ≡ synced_if sync (a ∷ []) ++ asks
prefix_if true a asks = refl
prefix_if false a asks = refl

same_after : (a b : Tables) → Some a ≡ Some b → a ≡ b
same_after a b e = cc

module _
    (written : WrittenBatchesAreStored) (synced : SyncsAreStored)
    (version : Version) (asks : List Ask) (append rewrite : QueueFiles) (untold : Batch) (accessor : Accessor) (intact : Bool)
    (k : IsKeptBy version asks append rewrite untold accessor intact) (is_intact : intact ≡ true)
    (batch : Batch) (ready : IsReady accessor.tables batch)
    (file : LogFileContext) (is_file : file ≡ record { id = record { queue = Append; seq = append.seq }; version = version })
    {s : Stage} (made : Batch) (is_made : made ≡ record batch { stage = s }) where
  abbrev engine : KeptEngine
  engine = record { version = version; asks = asks; untold = untold; accessor = accessor; intact = intact }

  abbrev id : FileId
  id = record { queue = Append; seq = append.seq }

  abbrev its_ask : Ask
  its_ask = ask Append (Put (bytes_for (record { id = id; version = version }) batch))

  abbrev told : List Item
  told = told_items (taking_items accessor.tables batch.items)

  abbrev old_bytes : List ℕ
  old_bytes = (k.whole is_intact).append_files.bytes

  its_last : IsLastFile Append asks append.seq old_bytes
  its_last = files_last Append asks append (k.whole is_intact).append_files

  accepted : AreAccepted accessor.tables (placed_at id append.len batch)
  accepted = ready.accepted (entry_place (place_at id append.len batch) batch.entry_bytes) compressions.None refl

  -- a batch whose bytes are put is stored as the tables that take it
  put_stored : AreKeptStored version (its_ask ∷ asks) k.base (k.untold ++ told) accepted.after
  put_stored =
      let w = k.whole is_intact in
      let taken : after_items Appending accessor.tables (placed_at id (length old_bytes) batch) ≡ Some accepted.after =
      subst (λ (n : ℕ). after_items Appending accessor.tables (placed_at id n batch) ≡ Some accepted.after) w.append_files.ends accepted.taken in
      written version asks k.base k.untold accessor.tables accepted.after append.seq old_bytes batch its_last ready.writable taken
      (subst (λ (m : Tables). AreKeptStored version asks k.base k.untold m) (sym w.are_tables) k.stored)

  -- the batch whose bytes are made has the same ones
  same_ask : ask file.id.queue (Put (bytes_for file made)) ≡ its_ask
  same_ask =
      ap (λ (f : LogFileContext). ask f.id.queue (Put (bytes_for f made))) is_file
      ∙ ap (λ (b : Batch). ask Append (Put (bytes_for (record { id = id; version = version }) b))) is_made

  ask_made : ask file.id.queue (Put (bytes_for file made)) ∷ asks ≡ its_ask ∷ asks
  ask_made = ap (λ (a : Ask). a ∷ asks) same_ask

  put_unfailed : NoSyncFailed (its_ask ∷ asks)
  put_unfailed = (tt, (k.whole is_intact).unfailed)

  placed_made : placed_at file.id append.len made ≡ placed_at id append.len batch
  placed_made = ap (λ (f : LogFileContext). placed_at f.id append.len made) is_file ∙ ap (λ (b : Batch). placed_at id append.len b) is_made

  some_asks : (items : List Item) → items ≢ [] → asks_of_items (file_of Append engine append.seq) batch items ≡ its_ask ∷ []
  some_asks [] some = absurd (some refl)
  some_asks (item ∷ items) some = refl

  -- what the tables accepted they accept where it was placed
  pub placed_accepted : (items : List Item) → items ≡ placed_at file.id append.len made → AreAccepted accessor.tables items
  placed_accepted items placed = subst (AreAccepted accessor.tables) (sym (placed ∙ placed_made)) accepted

  -- the items with their places, whose writing was cut short
  pub placed_cut : (items : List Item) (other : KeptEngine) (error : Error) → items ≡ placed_at file.id append.len made → AreCutShort batch items engine other error
      → AreCutShort batch (placed_at id (length old_bytes) batch) engine other error
  placed_cut items other error placed cut =
      let are = placed ∙ placed_made ∙ ap (λ (n : ℕ). placed_at id n batch) (k.whole is_intact).append_files.ends in
      subst (λ (l : List Item). AreCutShort batch l engine other error) are cut

  -- each first part of what is asked is stored
  written_ever : (sync : Bool) → AreEver (AreSafe version) (synced_if sync (put_asks (file_of Append engine append.seq) batch)) asks
  written_ever sync = subst (λ (l : List Ask). AreEver (AreSafe version) (synced_if sync l) asks) (sym (some_asks batch.items ready.writable.some)) (go sync)
    where
      safe_put : AreSafe version (its_ask ∷ asks)
      safe_put = record { base = k.base; untold = k.untold ++ told; tables = accepted.after; stored = put_stored; none = put_unfailed }

      go : (s : Bool) → AreEver (AreSafe version) (synced_if s (its_ask ∷ [])) asks
      go true = (
        record { base = k.base; untold = k.untold ++ told; tables = accepted.after; stored = synced Append version (its_ask ∷ asks) k.base (k.untold ++ told) accepted.after put_stored; none = (tt, put_unfailed) },
        (safe_put, safe_now version asks append rewrite untold accessor intact k is_intact),
      )
      go false = (safe_put, safe_now version asks append rewrite untold accessor intact k is_intact)

  module _ (MayFail : Failures) (sync : Bool) (new : List Ask) (error : Error) where
    -- the files failed
    module _ (failed : FailsAmong MayFail (synced_if sync (put_asks (file_of Append engine append.seq) batch)) asks new error) where
      failed_kept : FailedSyncsAreStored → (append' rewrite' : QueueFiles) (untold' : Batch) (other : Accessor) → IsKeptBy version new append' rewrite' untold' other false
      failed_kept unsynced append' rewrite' untold' other = broken_kept unsynced version new append' rewrite' untold' other MayFail _ asks error (written_ever sync) failed

      failed_written : IsHalfWritten MayFail sync batch engine (record engine { asks = new; intact = false }) error
      failed_written = record { seq = append.seq; bytes = old_bytes; last = its_last; accepted = ready.accepted; why = inl (record { was = is_intact; failed = failed; others = refl }) }

    -- to put the bytes
    module _ (may : MayBeAsked (ask file.id.queue (Put (bytes_for file made))) asks new) (why : MayFail asks (ask file.id.queue (Put (bytes_for file made))) error) where
      unput : FailsAmong MayFail (synced_if sync (put_asks (file_of Append engine append.seq) batch)) asks new error
      unput = writing_put MayFail file (file_of Append engine append.seq) made batch sync asks new error is_file is_made ready.writable.some may why

      pub kept_unput : FailedSyncsAreStored → (append' rewrite' : QueueFiles) (untold' : Batch) (other : Accessor) → IsKeptBy version new append' rewrite' untold' other false
      kept_unput = failed_kept unput

      unput_written : IsHalfWritten MayFail sync batch engine (record engine { asks = new; intact = false }) error
      unput_written = failed_written unput

      -- and the engine stays intact if they were taken back
      pub kept_tried : FailedSyncsAreStored → (kept : Bool) → (kept ≡ true → new ≡ asks) → IsKeptBy version new append rewrite untold accessor kept
      kept_tried unsynced true same =
          subst (λ (l : List Ask). IsKeptBy version l append rewrite untold accessor true) (sym (same refl)) (subst (λ (b : Bool). IsKeptBy version asks append rewrite untold accessor b) is_intact k)
      kept_tried unsynced false same = kept_unput unsynced append rewrite untold accessor

      pub tried_written : (left : Batch) (kept : Bool) → (kept ≡ true → new ≡ asks) → left ≡ record made { stage = sealed (signature_of file) }
          → IsUnwritten MayFail sync batch left engine (record engine { asks = new; intact = kept }) error
      tried_written left true same is_left = inr (inr (record {
        same = ap (λ (l : List Ask). record engine { asks = l; intact = true }) (same refl) ∙ ap (λ (b : Bool). record engine { intact = b }) (sym is_intact);
        was = is_intact;
        some = ready.writable.some;
        accepted = ready.accepted;
        seq = append.seq;
        bytes = old_bytes;
        last = its_last;
        made = is_left ∙ ap (λ (b : Batch). record b { stage = sealed (signature_of file) }) is_made
            ∙ ap (λ (f : LogFileContext). record batch { stage = sealed (signature_of f) }) is_file;
        why = subst (λ (a : Ask). MayFail asks a error) same_ask why;
      }))
      tried_written left false same is_left = inr (inl unput_written)

    module _ (half : List Ask) (is_half : half ≡ ask file.id.queue (Put (bytes_for file made)) ∷ asks) where
      -- to sync them
      module _ (failed : FailsAmong MayFail (synced_if sync []) half new error) where
        unsynced : FailsAmong MayFail (synced_if sync (put_asks (file_of Append engine append.seq) batch)) asks new error
        unsynced = writing_sync MayFail file (file_of Append engine append.seq) made batch sync asks half new error is_file is_made ready.writable.some is_half failed

        pub kept_unsynced : FailedSyncsAreStored → (append' rewrite' : QueueFiles) (untold' : Batch) (other : Accessor) → IsKeptBy version new append' rewrite' untold' other false
        kept_unsynced = failed_kept unsynced

        pub unsynced_written : IsHalfWritten MayFail sync batch engine (record engine { asks = new; intact = false }) error
        unsynced_written = failed_written unsynced

      -- all was asked, and the writing of the items was cut short
      pub cut_written : (untold' : Batch) (other : Accessor) (items : List Item) → new ≡ synced_if sync half → untold' ≡ untold → items ≡ placed_at file.id append.len made
          → AreCutShort batch items engine (record { version = version; asks = new; untold = untold'; accessor = other; intact = false }) error
          → IsHalfWritten MayFail sync batch engine (record { version = version; asks = new; untold = untold'; accessor = other; intact = false }) error
      cut_written untold' other items all same placed cut = record {
        seq = append.seq;
        bytes = old_bytes;
        last = its_last;
        accepted = ready.accepted;
        why = inr (record {
          was = is_intact;
          some = ready.writable.some;
          asked = writing_whole file (file_of Append engine append.seq) made batch sync asks half new is_file is_made ready.writable.some is_half all;
          cut = placed_cut items (record { version = version; asks = new; untold = untold'; accessor = other; intact = false }) error placed cut;
          others = ap (λ (u : Batch). record { version = version; asks = new; untold = u; accessor = other; intact = false }) same;
        });
      }

  module _ (sync : Bool) (half new : List Ask) (is_half : half ≡ ask file.id.queue (Put (bytes_for file made)) ∷ asks) (is_new : new ≡ synced_if sync half) (other : Accessor) where
    are_new : new ≡ synced_if sync (its_ask ∷ asks)
    are_new = is_new ∙ ap (synced_if sync) (is_half ∙ ask_made)

    stored_if : (s : Bool) → AreKeptStored version (synced_if s (its_ask ∷ asks)) k.base (k.untold ++ told) accepted.after
    stored_if true = synced Append version (its_ask ∷ asks) k.base (k.untold ++ told) accepted.after put_stored
    stored_if false = put_stored

    new_stored : AreKeptStored version new k.base (k.untold ++ told) accepted.after
    new_stored = subst (λ (l : List Ask). AreKeptStored version l k.base (k.untold ++ told) accepted.after) (sym are_new) (stored_if sync)

    new_unfailed : NoSyncFailed new
    new_unfailed = subst NoSyncFailed (sym are_new) (synced_unfailed sync (its_ask ∷ asks) put_unfailed)

    -- the bytes were put, and synced where that was wanted, and the engine isn't intact any more
    pub kept_put : (append' rewrite' : QueueFiles) (untold' : Batch) → IsKeptBy version new append' rewrite' untold' other false
    kept_put append' rewrite' untold' = record { base = k.base; untold = k.untold ++ told; tables = accepted.after; stored = new_stored; trusted = unfailed_trusted new new_unfailed; whole = λ no. absurd cc }

    -- the append files hold the batch behind those that they held
    held_more : (put : WrittenBatchIsPut) (h : List Event) → FilesHold Append version (begun (acts_on Append asks)) h
        → FilesHold Append version (begun (acts_on Append new)) (h ++ event_at id (length old_bytes) batch ∷ [])
    held_more put h holds =
        let w = ready.writable in
        let before : ArePutWhole Append version (Sync ∷ acts_on Append asks) h h = record { put = (refl, whole_torn Append version (begun (acts_on Append asks)) h holds); whole = holds } in
        let p = put Append version (Sync ∷ acts_on Append asks) h h its_last.closed (append.seq, old_bytes) (place_at id (length old_bytes) batch) batch.items batch.entry_bytes
        w.tiled w.in_range w.in_bytes w.some w.short refl refl its_last.files before in
        subst (λ (files : List NumberedBytes). FilesHold Append version files (h ++ event_at id (length old_bytes) batch ∷ []))
        (sym (ap (λ (l : List Ask). begun (acts_on Append l)) are_new ∙ begun_if sync (its_ask ∷ asks))) p.whole

    module _ (items : List Item) (are_items : items ≡ placed_at file.id append.len made) (applied : AreWritten Appending items accessor other)
        (taken untold' : Batch) (is_taken : taken ≡ record empty_batch { items = told }) (is_untold : untold' ≡ with_batch untold taken) (away : TakeAway told) where
      written_too : AreWritten Appending (placed_at id append.len batch) accessor other
      written_too = subst (λ (l : List Item). AreWritten Appending l accessor other) (are_items ∙ placed_made) applied

      untold_more : untold' ≡ record untold { items = untold.items ++ told }
      untold_more = merged untold taken untold' told is_untold is_taken away

      -- the batch is written to the tables too
      pub kept_more : WrittenBatchesAreReadBack → (n : ℕ) (append' : QueueFiles) → n ≡ encoded_length batch.items batch.entry_bytes
          → append'.closed.items ≡ append.closed.items → append'.seq ≡ append.seq → append'.len ≡ append.len + n → IsKeptBy version new append' rewrite untold' other true
      kept_more read_back n append' long closed seq len =
          let w = k.whole is_intact in
          let bytes : List ℕ = bytes_for (record { id = id; version = version }) batch in
          let size : n ≡ length bytes = long ∙ sym (log_batch_length (signature_in version append.seq) batch.items batch.entry_bytes) in
          let put = files_put asks bytes append append' closed seq (len ∙ ap (λ (m : ℕ). append.len + m) size) w.append_files in
          let files = files_same Append (its_ask ∷ asks) (synced_if sync (its_ask ∷ asks)) append' append' (begun_if sync (its_ask ∷ asks)) (gone_if sync (its_ask ∷ asks)) refl refl refl put in
          let others = files_same Rewrite asks (synced_if sync (its_ask ∷ asks)) rewrite rewrite (ap begun (others_if sync (its_ask ∷ asks))) (ap deletions (others_if sync (its_ask ∷ asks))) refl refl refl w.rewrite_files in record {
            base = k.base;
            untold = k.untold ++ told;
            tables = accepted.after;
            stored = new_stored;
            trusted = unfailed_trusted new new_unfailed;
            whole = λ i. record {
              are_tables = same_after other.tables accepted.after (sym written_too.tables ∙ accepted.taken);
              are_untold = untold_more ∙ ap (λ (b : Batch). record b { items = b.items ++ told }) w.are_untold;
              take_away = away-append k.untold told w.take_away away;
              append_files = subst (λ (l : List Ask). AreFilesOf Append l append') (sym are_new) files;
              rewrite_files = subst (λ (l : List Ask). AreFilesOf Rewrite l rewrite) (sym are_new) others;
              unfailed = new_unfailed;
              read_back = subst (λ (l : List Ask). IsReadBackAlone version l other) (sym are_new) (synced_back sync (written_back w.read_back));
            };
          }
        where
          written_back : IsReadBackAlone version asks accessor → IsReadBackAlone version (its_ask ∷ asks) other
          written_back back none =
              read_back version asks accessor other k.stored.now.append_done.done.done.first append.seq old_bytes batch its_last k.stored.now.append_done.done.done.rising ready.writable
              (subst (λ (m : ℕ). AreWritten Appending (placed_at id m batch) accessor other) (k.whole is_intact).append_files.ends written_too) (back (none_before Rewrite version (its_ask ∷ []) asks none))

          synced_back : (s : Bool) → IsReadBackAlone version (its_ask ∷ asks) other → IsReadBackAlone version (synced_if s (its_ask ∷ asks)) other
          synced_back true back = same_read_back version (its_ask ∷ asks) (ask Append Sync ∷ []) other refl refl back
          synced_back false back = back

      -- one batch more
      pub one_more : (put : WrittenBatchIsPut) → IsOneMore sync batch engine (record { version = version; asks = new; untold = untold'; accessor = other; intact = true })
      one_more put = record {
        seq = append.seq;
        bytes = old_bytes;
        last = its_last;
        asked = are_new;
        before = queue_deeds.written k.stored.now.appended;
        whole = k.stored.now.append_done.put.whole;
        held = held_more put;
        applied = subst (λ (n : ℕ). AreWritten Appending (placed_at id n batch) accessor other) (k.whole is_intact).append_files.ends written_too;
        untold = untold_more;
        others = ap (λ (b : Bool). record { version = version; asks = new; untold = untold'; accessor = other; intact = b }) (sym is_intact);
      }

few : (old taken : Batch) (a b : List Item) → old ≡ record empty_batch { items = a } → taken ≡ record empty_batch { items = b } → 2 ^ 31 ≤ length old.entry_bytes + length taken.entry_bytes → ⊥
few old taken a b is are many =
    let none : length old.entry_bytes ≡ 0 = ap (λ (x : Batch). length x.entry_bytes) is in
    let no_more : length taken.entry_bytes ≡ 0 = ap (λ (x : Batch). length x.entry_bytes) are in
    omega (arith, none, no_more, many)

-- items that aren't joined are some
pub merge_unnoted : (taken : Batch) (b : List Item) → taken ≡ record empty_batch { items = b } → taken.items ≢ [] → b ≢ []
merge_unnoted taken b are some none = some (ap (λ (x : Batch). x.items) are ∙ none)

-- untold items, which have no bytes, aren't joined for want of memory alone
pub merge_memory : (old taken : Batch) (a b : List Item) (e : Error) → old ≡ record empty_batch { items = a } → taken ≡ record empty_batch { items = b }
    → (e ≢ errors.Memory → (e ≡ errors.Full) × (2 ^ 31 ≤ length old.entry_bytes + length taken.entry_bytes)) → e ≡ errors.Memory
merge_memory old taken a b errors.Memory is are f = refl
merge_memory old taken a b (errors.Corruption text) is are f = absurd (few old taken a b is are (f (λ p. cc)).1)
merge_memory old taken a b errors.Full is are f = absurd (few old taken a b is are (f (λ p. cc)).1)
merge_memory old taken a b (errors.InvalidArgument text) is are f = absurd (few old taken a b is are (f (λ p. cc)).1)
merge_memory old taken a b (errors.Io text) is are f = absurd (few old taken a b is are (f (λ p. cc)).1)
merge_memory old taken a b (errors.Codec text) is are f = absurd (few old taken a b is are (f (λ p. cc)).1)
merge_memory old taken a b (errors.Message text) is are f = absurd (few old taken a b is are (f (λ p. cc)).1)
merge_memory old taken a b (errors.TryAgain text) is are f = absurd (few old taken a b is are (f (λ p. cc)).1)
merge_memory old taken a b errors.EntryCompacted is are f = absurd (few old taken a b is are (f (λ p. cc)).1)
merge_memory old taken a b errors.EntryNotFound is are f = absurd (few old taken a b is are (f (λ p. cc)).1)
merge_memory old taken a b (errors.Other text) is are f = absurd (few old taken a b is are (f (λ p. cc)).1)
merge_memory old taken a b errors.Failed is are f = absurd (few old taken a b is are (f (λ p. cc)).1)

-- ---- a batch without items

-- tables accept no items
none_accepted : (tables : Tables) (items : List Item) → items ≡ [] → AreAcceptedOncePlaced tables items
none_accepted tables items none = λ place compression queue.
    subst (λ (l : List Item). AreAccepted tables (map (placed_item place compression) l)) (sym none) (record { asked = tt; after = tables; taken = refl })

pub none_tested : {X E : Type 0} (r : Result X E) (tables : Tables) (items : List Item) → items ≡ [] → OnOk r (AreAcceptedOncePlaced tables items)
none_tested (Ok x) tables items none = none_accepted tables items none
none_tested (Err e) tables items none = tt

-- nothing is put for it where its sync fails
pub none_written : {X : Type 0} (MayFail : Failures) (r : Result X Error) (sync : Bool) (batch left : Batch) (old new : KeptEngine) (seq : ℕ) (bytes : List ℕ) → IsLastFile Append old.asks seq bytes
    → old.intact ≡ true → batch.items ≡ [] → IfErr r (IsUnsynced MayFail old new) → OnErr r (sync ≡ true) → IfErr r (IsUnwritten MayFail sync batch left old new)
none_written MayFail (Ok x) sync batch left old new seq bytes last intact none u wanted = tt
none_written MayFail (Err x) sync batch left old new seq bytes last intact none (inl u) wanted = let never : true ≡ false = sym intact ∙ u.1 in absurd cc
none_written MayFail (Err x) sync batch left old new seq bytes last intact none (inr b) wanted = inr (inl (record {
  seq = seq;
  bytes = bytes;
  last = last;
  accepted = none_accepted old.accessor.tables batch.items none;
  why = inl (subst (λ (l : List Ask). IsBroken MayFail l old new x)
      (ap (λ (s : Bool). synced_if s []) (sym wanted) ∙ ap (λ (items : List Item). synced_if sync (asks_of_items (file_of Append old seq) batch items)) (sym none)) b);
}))
