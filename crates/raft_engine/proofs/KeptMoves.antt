-- What an engine keeps while it moves records of a region.
use Rattle.raft_engine.proofs.Common.{◌≡◌, ◌≢◌, ◌⊎◌, inl, inr, ℕ, ◌+◌, ◌^◌, ◌≤◌, Bool, true, false, List, [], ◌∷◌, ◌++◌, length, Option, Some, refl, sym, ap, ◌∙◌, subst, append-nil, signature_in, EntryIndex, Error, FileBlockHandle, LogFileContext, LogQueue, Append, Rewrite}
use Rattle.raft_engine.proofs.Common.{Version, log_batch_length, Item, Batch, empty_batch, encoded, encoded_length, Tables, Table, AreTableEntries, Accessor, AreWritten, Rewriting, after_items, Ask, MayBeAsked, NoSyncFailed, Put, Read, acts_on, ask, begun, deletions, bytes_for}
use Rattle.raft_engine.proofs.Common.{placed_at, IsLastFile, KeptEngine, AreFilesOf, IsKeptBy, AreSynced, IsBatchHalfMoved, IsBatchMoved, IsBatchUnmoved, IsMoving, IsOnlyRead, MovedBatchesAreStored, PutBatchesAreStored, ReadsAreStored, asks_of_items, put_asks, IsReadBack}
use Rattle.raft_engine.proofs.Common.{IsReadBackAlone, MovedBatchesAreReadBack, NoneFound, AreOnlyRead, AreReads, IsBatchMoving, AreKeptStored, Bases, IsWritableBatch, IsBatchRefused, IsLastFull, QueueFiles, Failures, FailsAmong, AreUntaken}
use Rattle.std.specs.FinMap as finite
use Rattle.raft_base.specs.declared.errors.Error.TheVariants as errors
use Rattle.raft_engine_laws.specs.Crashes as queue_deeds
use Rattle.raft_engine.proofs.FaultLemmas.{made_fails}
use Rattle.raft_engine.proofs.FilesLemmas.{files_last, files_same, files_told}
use Rattle.raft_engine.proofs.ReadBackLemmas.{none_before, same_read_back}
use Rattle.raft_engine.proofs.ReadKept.{none_read, read_only}
use Rattle.raft_engine.proofs.TrustLemmas.{reads_trusted, reads_unfailed, unfailed_trusted}

-- ---- reads

one_begun : (queue other : LogQueue) (place : FileBlockHandle) (bytes : List ℕ) (asks : List Ask) → begun (acts_on queue (ask other (Read place bytes) ∷ asks)) ≡ begun (acts_on queue asks)
one_begun Append Append place bytes asks = refl
one_begun Append Rewrite place bytes asks = refl
one_begun Rewrite Append place bytes asks = refl
one_begun Rewrite Rewrite place bytes asks = refl

one_deleted : (queue other : LogQueue) (place : FileBlockHandle) (bytes : List ℕ) (asks : List Ask) → deletions (acts_on queue (ask other (Read place bytes) ∷ asks)) ≡ deletions (acts_on queue asks)
one_deleted Append Append place bytes asks = refl
one_deleted Append Rewrite place bytes asks = refl
one_deleted Rewrite Append place bytes asks = refl
one_deleted Rewrite Rewrite place bytes asks = refl

one_synced : (other : LogQueue) (place : FileBlockHandle) (bytes : List ℕ) (asks : List Ask) → AreSynced (acts_on Append asks) → AreSynced (acts_on Append (ask other (Read place bytes) ∷ asks))
one_synced Append place bytes asks s = s
one_synced Rewrite place bytes asks s = s

reads_begun : (queue : LogQueue) (reads : List Ask) (asks : List Ask) → AreReads reads → begun (acts_on queue (reads ++ asks)) ≡ begun (acts_on queue asks)
reads_begun queue [] asks h = refl
reads_begun queue (a ∷ reads) asks h =
    ap (λ (x : Ask). begun (acts_on queue (x ∷ (reads ++ asks)))) h.0.2 ∙ one_begun queue h.0.0.id.queue h.0.0 h.0.1 (reads ++ asks) ∙ reads_begun queue reads asks h.1

reads_deleted : (queue : LogQueue) (reads : List Ask) (asks : List Ask) → AreReads reads → deletions (acts_on queue (reads ++ asks)) ≡ deletions (acts_on queue asks)
reads_deleted queue [] asks h = refl
reads_deleted queue (a ∷ reads) asks h =
    ap (λ (x : Ask). deletions (acts_on queue (x ∷ (reads ++ asks)))) h.0.2 ∙ one_deleted queue h.0.0.id.queue h.0.0 h.0.1 (reads ++ asks) ∙ reads_deleted queue reads asks h.1

reads_synced : (reads : List Ask) (asks : List Ask) → AreReads reads → AreSynced (acts_on Append asks) → AreSynced (acts_on Append (reads ++ asks))
reads_synced [] asks h s = s
reads_synced (a ∷ reads) asks h s =
    subst (λ (x : Ask). AreSynced (acts_on Append (x ∷ (reads ++ asks)))) (sym h.0.2) (one_synced h.0.0.id.queue h.0.0 h.0.1 (reads ++ asks) (reads_synced reads asks h.1 s))

reads_stored : ReadsAreStored → (version : Version) (base : Bases) (untold : List Item) (tables : Tables) (reads : List Ask) (asks : List Ask) → AreReads reads
    → AreKeptStored version asks base untold tables → AreKeptStored version (reads ++ asks) base untold tables
reads_stored read version base untold tables [] asks h s = s
reads_stored read version base untold tables (a ∷ reads) asks h s =
    subst (λ (x : Ask). AreKeptStored version (x ∷ (reads ++ asks)) base untold tables) (sym h.0.2)
    (read h.0.0.id.queue h.0.0 h.0.1 version (reads ++ asks) base untold tables (reads_stored read version base untold tables reads asks h.1 s))

pub read_files : (queue : LogQueue) (asks new : List Ask) (files : QueueFiles) → AreOnlyRead asks new → AreFilesOf queue asks files → AreFilesOf queue new files
read_files queue asks new files r f =
    files_same queue asks new files files (ap (λ (l : List Ask). begun (acts_on queue l)) r.asked ∙ reads_begun queue r.reads asks r.only)
    (ap (λ (l : List Ask). deletions (acts_on queue l)) r.asked ∙ reads_deleted queue r.reads asks r.only) refl refl refl f

pub read_synced : (asks new : List Ask) → AreOnlyRead asks new → AreSynced (acts_on Append asks) → AreSynced (acts_on Append new)
read_synced asks new r s = subst (λ (l : List Ask). AreSynced (acts_on Append l)) (sym r.asked) (reads_synced r.reads asks r.only s)

pub read_last : (asks new : List Ask) (seq : ℕ) (bytes : List ℕ) → AreOnlyRead asks new → IsLastFile Rewrite asks seq bytes → IsLastFile Rewrite new seq bytes
read_last asks new seq bytes r last = record {
  closed = last.closed;
  files = ap (λ (l : List Ask). begun (acts_on Rewrite l)) r.asked ∙ reads_begun Rewrite r.reads asks r.only ∙ last.files;
}

pub reads_read_back : (version : Version) (asks new : List Ask) (accessor : Accessor) → AreOnlyRead asks new → IsReadBackAlone version asks accessor → IsReadBackAlone version new accessor
reads_read_back version asks new accessor r back =
    subst (λ (l : List Ask). IsReadBackAlone version l accessor) (sym r.asked)
    (same_read_back version asks r.reads accessor (reads_begun Append r.reads asks r.only) (reads_begun Rewrite r.reads asks r.only) back)

-- ---- the engine

module _ (read : ReadsAreStored) (version : Version) (asks : List Ask) (append rewrite : QueueFiles) (untold : Batch) (accessor : Accessor) (intact : Bool)
    (k : IsKeptBy version asks append rewrite untold accessor intact) where
  abbrev engine : KeptEngine
  engine = record { version = version; asks = asks; untold = untold; accessor = accessor; intact = intact }

  -- after reads
  pub kept_read : (new : List Ask) → AreOnlyRead asks new → IsKeptBy version new append rewrite untold accessor intact
  kept_read new r = record {
    base = k.base;
    untold = k.untold;
    tables = k.tables;
    stored = subst (λ (l : List Ask). AreKeptStored version l k.base k.untold k.tables) (sym r.asked) (reads_stored read version k.base k.untold k.tables r.reads asks r.only k.stored);
    trusted = reads_trusted asks new r k.trusted;
    whole = λ i. let w = k.whole i in record {
      are_tables = w.are_tables;
      are_untold = w.are_untold;
      take_away = w.take_away;
      append_files = read_files Append asks new append r w.append_files;
      rewrite_files = read_files Rewrite asks new rewrite r w.rewrite_files;
      unfailed = reads_unfailed asks new r w.unfailed;
      read_back = reads_read_back version asks new accessor r w.read_back;
    };
  }

  pub only_read : (new : List Ask) → AreOnlyRead asks new → IsOnlyRead engine (record engine { asks = new })
  only_read new r = record { asked = r; others = refl }

  -- ---- where the region isn't moved

  -- there is no batch of its records
  pub batch_refused : {MayFail : Failures} (gate : Option ℕ) (left : List EntryIndex) (region : ℕ) (t : Table) → finite.get accessor.tables region ≡ Some t → (new : List Ask) (e : Error) → AreOnlyRead asks new
      → (e ≢ errors.Memory → IsBatchRefused MayFail gate left t asks new e) → IsBatchUnmoved MayFail gate left region engine (record engine { asks = new }) e
  batch_refused gate left region t there new e r refused = inl (only_read new r, λ some. inr (inl (t, there, refused some)))

  -- the last rewrite file has too many bytes
  pub file_refused : {MayFail : Failures} (gate : Option ℕ) (left : List EntryIndex) (region : ℕ) → IsLastFull Rewrite asks → IsBatchUnmoved MayFail gate left region engine engine errors.Full
  file_refused gate left region full = inl (only_read asks (none_read asks asks refl), λ some. inl (refl, refl, full))

  module _ (moved : MovedBatchesAreStored) (is_intact : intact ≡ true) (synced : AreSynced (acts_on Append asks)) (none : untold.items ≡ [])
      (gate : Option ℕ) (left : List EntryIndex) (region : ℕ) (t : Table) (there : finite.get accessor.tables region ≡ Some t) (own : t.region_id ≡ region) (sound : AreTableEntries t.entries)
      (between : List Ask) (batch : Batch) (m : IsBatchMoving gate left t asks between batch) where
    pub reads : AreOnlyRead asks between
    reads = read_only _ m.strings asks between m.read

    pub is_moving : IsMoving gate left region engine between batch
    is_moving = record { table = t; there = there; moving = m }

    -- the batch has too many bytes
    pub bytes_refused : {MayFail : Failures} (e : Error) → (e ≢ errors.Memory → (e ≡ errors.Full) × (2 ^ 56 ≤ encoded_length batch.items batch.entry_bytes))
        → IsBatchUnmoved MayFail gate left region engine (record engine { asks = between }) e
    bytes_refused e long = inl (only_read between reads, λ some. inr (inr (batch, is_moving, (long some).0, (long some).1)))

    its_last : IsLastFile Rewrite asks rewrite.seq (k.whole is_intact).rewrite_files.bytes
    its_last = files_last Rewrite asks rewrite (k.whole is_intact).rewrite_files

    nothing : k.untold ≡ []
    nothing = sym (ap (λ (b : Batch). b.items) (k.whole is_intact).are_untold) ∙ none

    between_kept : IsKeptBy version between append rewrite untold accessor intact
    between_kept = kept_read between reads

    between_unfailed : NoSyncFailed between
    between_unfailed = (between_kept.whole is_intact).unfailed

    stored_between : AreKeptStored version between k.base [] accessor.tables
    stored_between =
        subst (λ (u : List Item). AreKeptStored version between k.base u accessor.tables) nothing
        (subst (λ (x : Tables). AreKeptStored version between k.base k.untold x) (sym (k.whole is_intact).are_tables)
        (subst (λ (l : List Ask). AreKeptStored version l k.base k.untold k.tables) (sym reads.asked) (reads_stored read version k.base k.untold k.tables reads.reads asks reads.only k.stored)))

    found : finite.get accessor.tables t.region_id ≡ Some t
    found = ap (λ r. finite.get accessor.tables r) own ∙ there

    -- the region has nothing to move
    pub none_moved : batch.items ≡ [] → IsBatchMoved gate left region engine (record engine { asks = between })
    none_moved e = record {
      between = between;
      batch = batch;
      moving = is_moving;
      seq = rewrite.seq;
      bytes = (k.whole is_intact).rewrite_files.bytes;
      last = its_last;
      applied = written batch.items e;
      moved = same batch.items e;
    }
      where
        written : (items : List Item) → items ≡ [] →
            AreWritten (Rewriting gate rewrite.seq)
            (placed_at (record { queue = Rewrite; seq = rewrite.seq }) (length (k.whole is_intact).rewrite_files.bytes)
            (record batch { items = items })) accessor accessor
        written [] e = record { asked = tt; accepted = tt; tables = refl; cleaned = sym (append-nil accessor.cleaned); counts = refl }
        written (item ∷ items) e = absurd cc

        same : (items : List Item) → items ≡ [] →
            record engine { asks = between } ≡ record engine {
              asks = put_asks (record { id = record { queue = Rewrite; seq = rewrite.seq }; version = version })
                  (record batch { items = items }) ++ between;
            }
        same [] e = refl
        same (item ∷ items) e = absurd cc

    module _ (w : IsWritableBatch batch) where
      abbrev file : LogFileContext
      file = record { id = record { queue = Rewrite; seq = rewrite.seq }; version = version }

      abbrev its_bytes : List ℕ
      its_bytes = (k.whole is_intact).rewrite_files.bytes

      stored_put : (new : Tables) → after_items (Rewriting gate rewrite.seq) accessor.tables (placed_at file.id (length its_bytes) batch) ≡ Some new
          → AreKeptStored version (ask Rewrite (Put (bytes_for file batch)) ∷ between) k.base [] new
      stored_put new e =
          moved version asks between k.base accessor.tables new rewrite.seq its_bytes gate left t batch (read_synced asks between reads synced)
          (read_last asks between rewrite.seq its_bytes reads its_last) w found m e stored_between

      -- the batch is put, and the engine isn't intact any more
      pub put_broken : PutBatchesAreStored → (new : List Ask) (append' rewrite' : QueueFiles) (untold' : Batch) (accessor' : Accessor) → new ≡ ask Rewrite (Put (bytes_for file batch)) ∷ between
          → IsKeptBy version new append' rewrite' untold' accessor' false
      put_broken put new append' rewrite' untold' accessor' e =
          let stored = put version asks between k.base accessor.tables rewrite.seq its_bytes gate left t batch (read_synced asks between reads synced)
          (read_last asks between rewrite.seq its_bytes reads its_last) w found sound m stored_between in record {
            base = k.base;
            untold = [];
            tables = stored.0;
            stored = subst (λ (l : List Ask). AreKeptStored version l k.base [] stored.0) (sym e) stored.1;
            trusted = unfailed_trusted new (subst NoSyncFailed (sym e) (tt, between_unfailed));
            whole = λ no. absurd cc;
          }

      -- or it isn't
      pub may_broken : PutBatchesAreStored → (new : List Ask) (append' rewrite' : QueueFiles) (untold' : Batch) (accessor' : Accessor) →
          MayBeAsked (ask Rewrite (Put (bytes_for file batch))) between new → IsKeptBy version new append' rewrite' untold' accessor' false
      may_broken put new append' rewrite' untold' accessor' (inl e) = record {
        base = k.base;
        untold = [];
        tables = accessor.tables;
        stored = subst (λ (l : List Ask). AreKeptStored version l k.base [] accessor.tables) (sym e) stored_between;
        trusted = unfailed_trusted new (subst NoSyncFailed (sym e) between_unfailed);
        whole = λ no. absurd cc;
      }
      may_broken put new append' rewrite' untold' accessor' (inr e) = put_broken put new append' rewrite' untold' accessor' e

      pub half_moved : {MayFail : Failures} (new : List Ask) (accessor' : Accessor) (e : Error)
          → (FailsAmong MayFail (put_asks file batch) between new e × (accessor' ≡ accessor))
          ⊎ ((new ≡ put_asks file batch ++ between) × AreUntaken gate rewrite.seq (placed_at file.id (length its_bytes) batch) accessor accessor' e)
          → IsBatchHalfMoved MayFail gate left region engine (record engine { asks = new; accessor = accessor'; intact = false }) e
      half_moved new accessor' e why = record {
        between = between;
        batch = batch;
        moving = is_moving;
        seq = rewrite.seq;
        bytes = its_bytes;
        last = its_last;
        why = why;
        others = refl;
      }

      module _ (new : List Ask) (is_new : new ≡ ask Rewrite (Put (bytes_for file batch)) ∷ between) (accessor' : Accessor)
          (applied : AreWritten (Rewriting gate rewrite.seq) (placed_at file.id (length its_bytes) batch) accessor accessor') where
        pub kept_moved : MovedBatchesAreReadBack → (rewrite' : QueueFiles) (len : ℕ) → len ≡ encoded_length batch.items batch.entry_bytes →
            rewrite'.closed.items ≡ rewrite.closed.items → rewrite'.seq ≡ rewrite.seq → rewrite'.len ≡ rewrite.len + len
            → IsKeptBy version new append rewrite' untold accessor' true
        kept_moved moved_back rewrite' len is_len closed seq is = record {
          base = k.base;
          untold = [];
          tables = accessor'.tables;
          stored = subst (λ (l : List Ask). AreKeptStored version l k.base [] accessor'.tables) (sym is_new) (stored_put accessor'.tables applied.tables);
          trusted = unfailed_trusted new (subst NoSyncFailed (sym is_new) (tt, between_unfailed));
          whole = λ i. record {
            are_tables = refl;
            are_untold = (k.whole is_intact).are_untold ∙ ap (λ (items : List Item). record empty_batch { items = items }) nothing;
            take_away = tt;
            append_files = subst (λ (l : List Ask). AreFilesOf Append l append) (sym is_new)
                (files_same Append between (ask Rewrite (Put (bytes_for file batch)) ∷ between) append append refl refl refl refl refl (between_kept.whole is_intact).append_files);
            rewrite_files = subst (λ (l : List Ask). AreFilesOf Rewrite l rewrite') (sym is_new)
                (files_told between (bytes_for file batch) rewrite rewrite' closed seq
                (is ∙ ap (λ (n : ℕ). rewrite.len + n) (is_len ∙ sym (log_batch_length (signature_in version rewrite.seq) batch.items batch.entry_bytes)))
                (between_kept.whole is_intact).rewrite_files);
            unfailed = subst NoSyncFailed (sym is_new) (tt, between_unfailed);
            read_back = λ none.
                let back = (between_kept.whole is_intact).read_back (none_before Rewrite version (ask Rewrite (Put (bytes_for file batch)) ∷ []) between (subst (NoneFound Rewrite version) is_new none)) in
                subst (λ (l : List Ask). IsReadBack version l accessor') (sym is_new)
                (moved_back version asks between accessor accessor' rewrite.seq its_bytes gate left t batch (queue_deeds.written stored_between.now.rewritten) (read_last asks between rewrite.seq its_bytes reads its_last)
                stored_between.now.rewrite_done.put.whole w m applied back);
          };
        }

        pub region_moved : IsBatchMoved gate left region engine (record engine { asks = new; accessor = accessor'; intact = true })
        region_moved = record {
          between = between;
          batch = batch;
          moving = is_moving;
          seq = rewrite.seq;
          bytes = its_bytes;
          last = its_last;
          applied = applied;
          moved = ap (λ (l : List Ask). record engine { asks = l; accessor = accessor'; intact = true }) (is_new ∙ some_put batch.items refl)
              ∙ ap (λ (b : Bool). record engine { asks = put_asks file batch ++ between; accessor = accessor'; intact = b }) (sym is_intact);
        }
          where
            some_put : (items : List Item) → batch.items ≡ items → ask Rewrite (Put (bytes_for file batch)) ∷ between ≡ put_asks file batch ++ between
            some_put [] e = absurd (w.some e)
            some_put (item ∷ items) e = ap (λ (x : List Item). asks_of_items file batch x ++ between) (sym e)

      -- ---- as the batch was made for its file

      module _ (context : LogFileContext) (is_file : context ≡ file) (made : Batch) (is_made : made ≡ record batch { stage = encoded }) where
        same_ask : ask context.id.queue (Put (bytes_for context made)) ≡ ask Rewrite (Put (bytes_for file batch))
        same_ask = ap (λ (f : LogFileContext). ask f.id.queue (Put (bytes_for f made))) is_file ∙ ap (λ (b : Batch). ask Rewrite (Put (bytes_for file b))) is_made

        pub made_broken : PutBatchesAreStored → (new : List Ask) (append' rewrite' : QueueFiles) (untold' : Batch) (accessor' : Accessor) → MayBeAsked (ask context.id.queue (Put (bytes_for context made))) between new
            → IsKeptBy version new append' rewrite' untold' accessor' false
        made_broken put new append' rewrite' untold' accessor' h = may_broken put new append' rewrite' untold' accessor' (subst (λ (a : Ask). MayBeAsked a between new) same_ask h)

        -- the engine stays intact if the files took back what they put
        pub moved_tried : PutBatchesAreStored → (new : List Ask) (kept : Bool) → (kept ≡ true → new ≡ between) → MayBeAsked (ask context.id.queue (Put (bytes_for context made))) between new
            → IsKeptBy version new append rewrite untold accessor kept
        moved_tried put new true same may =
            subst (λ (l : List Ask). IsKeptBy version l append rewrite untold accessor true) (sym (same refl))
            (subst (λ (b : Bool). IsKeptBy version between append rewrite untold accessor b) is_intact between_kept)
        moved_tried put new false same may = made_broken put new append rewrite untold accessor may

        pub unmoved_tried : {MayFail : Failures} (new : List Ask) (kept : Bool) (e : Error) → (kept ≡ true → new ≡ between) → MayBeAsked (ask context.id.queue (Put (bytes_for context made))) between new
            → MayFail between (ask context.id.queue (Put (bytes_for context made))) e → IsBatchUnmoved MayFail gate left region engine (record engine { asks = new; intact = kept }) e
        unmoved_tried {MayFail} new true e same may why =
            let are : new ≡ between = same refl in
            inr (inr (record {
              batch = batch;
              some = w.some;
              moving = subst (λ (l : List Ask). IsMoving gate left region engine l batch) (sym are) is_moving;
              seq = rewrite.seq;
              bytes = its_bytes;
              last = its_last;
              why = subst (λ (l : List Ask). MayFail l (ask Rewrite (Put (bytes_for file batch))) e) (sym are) (subst (λ (a : Ask). MayFail between a e) same_ask why);
              others = ap (λ (b : Bool). record engine { asks = new; intact = b }) (sym is_intact);
            }))
        unmoved_tried {MayFail} new false e same may why = inr (inl (half_moved new accessor e (inl (made_fails MayFail context file made batch between new e is_file is_made w.some may why, refl))))

        pub made_asked : (new : List Ask) → new ≡ ask context.id.queue (Put (bytes_for context made)) ∷ between → new ≡ ask Rewrite (Put (bytes_for file batch)) ∷ between
        made_asked new e = e ∙ ap (λ (a : Ask). a ∷ between) same_ask

        pub made_placed : (items : List Item) → items ≡ placed_at context.id rewrite.len made → items ≡ placed_at file.id (length its_bytes) batch
        made_placed items e =
            e ∙ ap (λ (f : LogFileContext). placed_at f.id rewrite.len made) is_file ∙ ap (λ (b : Batch). placed_at file.id rewrite.len b) is_made
            ∙ ap (λ (n : ℕ). placed_at file.id n batch) (k.whole is_intact).rewrite_files.ends

        pub made_applied : (items : List Item) (accessor' : Accessor) → items ≡ placed_at context.id rewrite.len made → AreWritten (Rewriting gate rewrite.seq) items accessor accessor'
            → AreWritten (Rewriting gate rewrite.seq) (placed_at file.id (length its_bytes) batch) accessor accessor'
        made_applied items accessor' e h = subst (λ (l : List Item). AreWritten (Rewriting gate rewrite.seq) l accessor accessor') (made_placed items e) h
