-- What an engine keeps once it purges files.
use Rattle.raft_engine.proofs.Common.{◌≡◌, ◌≢◌, inl, inr, ℕ, ◌+◌, ◌≤◌, Bool, true, false, List, [], ◌∷◌, ◌++◌, length, take, refl, sym, ap, ◌∙◌, subst, arith, append_assoc, AllByRecursion, signature_in, Error, LogFileContext, LogQueue, Append, Rewrite, Version, log_batch_length}
use Rattle.raft_engine.proofs.Common.{Item, Batch, empty_batch, encoded, encoded_length, Tables, Accessor, Ask, NoSyncFailed, Sync, acts_on, ask, begun, deletions, AreRisingFrom, numbers, TakeAway, bytes_for, IsLastFile, KeptEngine, AreFilesOf, IsKeptBy, AreSynced, IsReady}
use Rattle.raft_engine.proofs.Common.{IsTold, IsUntold, AreExpired, AreFilesPurged, AreFilesUnpurged, IsExpired, IsHalfPurged, IsLeastNeeded, asks_of_items, delete_asks, front_below, purge_asks, put_asks, AreDeleted, IsQueueShorterBy, files_known, IsReadBackAlone, AreKeptStored}
use Rattle.raft_engine.proofs.Common.{Bases, DeletionsAreStored, IsWritableBatch, SyncsAreStored, ToldBatchesAreStored, file_of, QueueFiles, IsBroken, IsBrokenTelling, Failures}
use Rattle.raft_engine.proofs.FilesLemmas.{files_same, files_told}
use Rattle.raft_engine.proofs.ReadBackLemmas.{append_deletes_begun, rewrite_deletes_begun, same_read_back}
use Rattle.raft_engine.proofs.PurgeLemmas.{all_deleted, append_deletes_others, are_expired, closed_expired, closed_few, few_expired, files_deleted, rewrite_deletes_others, take_fewer}
use Rattle.raft_engine.proofs.AskedLemmas.{more_failed, part_failed}
use Rattle.raft_engine.proofs.BrokenLemmas.{AreEver, AreSafe, deletes_ever, more_ever}
use Rattle.raft_engine.proofs.KeptLemmas.{synced_ever}
use Rattle.raft_engine.proofs.TrustLemmas.{delete_unfailed, unfailed_trusted}

-- a file of the rewrite queue
abbrev pub rewrite_file : Version → ℕ → LogFileContext
rewrite_file version seq = record { id = record { queue = Rewrite; seq = seq }; version = version }

-- ---- what is told

-- of the append queue nothing more is asked
pub items_others : (version : Version) (seq : ℕ) (batch : Batch) (items : List Item) (asks : List Ask) → acts_on Append (asks_of_items (rewrite_file version seq) batch items ++ asks) ≡ acts_on Append asks
items_others version seq batch [] asks = refl
items_others version seq batch (item ∷ items) asks = refl

-- a batch whose bytes are made has the same ones
pub items_made : (file : LogFileContext) (batch : Batch) (items : List Item) → asks_of_items file (record batch { stage = encoded }) items ≡ asks_of_items file batch items
items_made file batch [] = refl
items_made file batch (item ∷ items) = refl

pub told_stored : ToldBatchesAreStored → (version : Version) (asks : List Ask) (base : Bases) (tables : Tables) (seq : ℕ) (bytes : List ℕ) (batch : Batch)
    → AreSynced (acts_on Append asks) → IsLastFile Rewrite asks seq bytes → (batch.items ≢ [] → IsWritableBatch batch) → TakeAway batch.items
    → AreKeptStored version asks base batch.items tables → AreKeptStored version (put_asks (rewrite_file version seq) batch ++ asks) base [] tables
told_stored told version asks base tables seq bytes batch synced last writable away s = go batch.items refl
  where
    go : (items : List Item) → batch.items ≡ items → AreKeptStored version (asks_of_items (rewrite_file version seq) batch items ++ asks) base [] tables
    go [] e = subst (λ (l : List Item). AreKeptStored version asks base l tables) e s
    go (item ∷ items) e = told version asks base tables seq bytes batch synced last (writable (λ none. let is = sym e ∙ none in absurd cc)) away s

pub told_files : (version : Version) (asks : List Ask) (batch : Batch) (files other : QueueFiles) (n : ℕ) → n ≡ encoded_length batch.items batch.entry_bytes
    → other.closed.items ≡ files.closed.items → other.seq ≡ files.seq → other.len ≡ files.len + n
    → AreFilesOf Rewrite asks files → AreFilesOf Rewrite (put_asks (rewrite_file version files.seq) batch ++ asks) other
told_files version asks batch files other n long closed seq len f = go batch.items refl
  where
    go : (items : List Item) → batch.items ≡ items → AreFilesOf Rewrite (asks_of_items (rewrite_file version files.seq) batch items ++ asks) other
    go [] e =
        let none : n ≡ 0 = long ∙ ap (λ (l : List Item). encoded_length l batch.entry_bytes) e in
        files_same Rewrite asks asks files other refl refl closed seq (omega (arith, len, none)) f
    go (item ∷ items) e =
        files_told asks (bytes_for (rewrite_file version files.seq) batch) files other closed seq
        (len ∙ ap (λ (m : ℕ). files.len + m) (long ∙ sym (log_batch_length (signature_in version files.seq) batch.items batch.entry_bytes))) f

-- all that is asked, in front of what was asked before
asked_parts : (deletes puts asks : List Ask) → deletes ++ (ask Rewrite Sync ∷ (puts ++ (ask Append Sync ∷ asks))) ≡ (deletes ++ (ask Rewrite Sync ∷ (puts ++ ask Append Sync ∷ []))) ++ asks
asked_parts deletes puts asks = sym (
    append_assoc deletes (ask Rewrite Sync ∷ (puts ++ ask Append Sync ∷ [])) asks
    ∙ ap (λ (l : List Ask). deletes ++ (ask Rewrite Sync ∷ l)) (append_assoc puts (ask Append Sync ∷ []) asks)
    )

-- ---- what is deleted

-- the files that are counted are expired
pub its_expired : (queue : LogQueue) (version : Version) (asks : List Ask) (append rewrite : QueueFiles) (untold : Batch) (accessor : Accessor) (intact : Bool)
    → IsKeptBy version asks append rewrite untold accessor intact → intact ≡ true → (files : QueueFiles) → files ≡ files_known queue append rewrite
    → (least count : ℕ) → IsLeastNeeded queue accessor.tables files.seq least → count ≡ front_below least files.closed.items
    → AreExpired queue (record { version = version; asks = asks; untold = untold; accessor = accessor; intact = intact }) count
its_expired queue version asks append rewrite untold accessor intact k is_intact files are least count l counted =
    are_expired queue (record { version = version; asks = asks; untold = untold; accessor = accessor; intact = intact }) files (subst (AreFilesOf queue asks) (sym are) (its queue))
    (first queue) least count (rising queue) l counted
  where
    its : (q : LogQueue) → AreFilesOf q asks (files_known q append rewrite)
    its Append = (k.whole is_intact).append_files
    its Rewrite = (k.whole is_intact).rewrite_files

    first : LogQueue → ℕ
    first Append = k.stored.now.append_done.done.done.first
    first Rewrite = k.stored.now.rewrite_done.done.done.first

    rising : (q : LogQueue) → AreRisingFrom (first q) (numbers (begun (acts_on q asks)))
    rising Append = k.stored.now.append_done.done.done.rising
    rising Rewrite = k.stored.now.rewrite_done.done.done.rising

-- what is asked of a purge stands in the telling, or goes on from it
module _ (queue : LogQueue) (count : ℕ) (old : KeptEngine) (expired : AreExpired queue old count) (some : count ≢ 0) where
  abbrev rest : List Ask
  rest = delete_asks queue count ++ ask Rewrite Sync ∷ []

  abbrev telling : ℕ → List Ask
  telling seq = put_asks (file_of Rewrite old seq) old.untold ++ ask Append Sync ∷ []

  parts : (seq : ℕ) → purge_asks queue (file_of Rewrite old seq) old.untold count ≡ rest ++ telling seq
  parts seq = sym (append_assoc (delete_asks queue count) (ask Rewrite Sync ∷ []) (telling seq))

  module _ {MayFail : Failures} where
    half_by : (seq : ℕ) (bytes : List ℕ) → IsLastFile Rewrite old.asks seq bytes → (new : KeptEngine) (e : Error) → IsBrokenTelling MayFail (rest ++ telling seq) old new e → IsHalfPurged MayFail queue old new e
    half_by seq bytes last new e broken = record {
      count = count;
      some = omega (arith, some);
      expired = expired;
      seq = seq;
      bytes = bytes;
      last = last;
      broken = subst (λ (l : List Ask). IsBrokenTelling MayFail l old new e) (sym (parts seq)) broken;
    }

    -- where telling fails, the purge does
    pub untold_unpurged : (new : KeptEngine) (e : Error) → IsUntold MayFail old new e → AreFilesUnpurged MayFail queue old new e
    untold_unpurged new e (inl h) = inl (h.0, h.1, λ full. (count, expired, omega (arith, some)))
    untold_unpurged new e (inr (inl h)) = inr (inl (half_by h.seq h.bytes h.last new e
        (record { was = h.broken.was; failed = part_failed MayFail rest (telling h.seq) old.asks new.asks e h.broken.failed; others = h.broken.others })))
    untold_unpurged new e (inr (inr h)) = inr (inr ((count, expired, omega (arith, some)), h))

  -- once all is told
  module _ (told : KeptEngine) (t : IsTold old told) where
    told_asks : told.asks ≡ telling t.seq ++ old.asks
    told_asks = ap (λ (o : KeptEngine). o.asks) t.told ∙ sym (append_assoc (put_asks (file_of Rewrite old t.seq) old.untold) (ask Append Sync ∷ []) old.asks)

    pub told_half : {MayFail : Failures} (new : KeptEngine) (e : Error) → IsBroken MayFail rest told new e → IsHalfPurged MayFail queue old new e
    told_half {MayFail} new e b = half_by t.seq t.bytes t.last new e (record {
      was = ap (λ (o : KeptEngine). o.intact) (sym t.told) ∙ b.was;
      failed = more_failed MayFail rest (telling t.seq) old.asks told.asks new.asks e told_asks b.failed;
      others = ap (λ (o : KeptEngine). record o { untold = old.untold }) b.others ∙ ap (λ (o : KeptEngine). record o { asks = new.asks; untold = old.untold; intact = false }) t.told;
    })

    pub told_purged : (new : KeptEngine) → AreDeleted queue count told new → AreFilesPurged queue count old new
    told_purged new d = (
      expired,
      inr (record {
        some = omega (arith, some);
        seq = t.seq;
        bytes = t.bytes;
        last = t.last;
        purged = d ∙ ap (λ (o : KeptEngine). record o { asks = delete_asks queue count ++ (ask Rewrite Sync ∷ o.asks) }) t.told
            ∙ ap (λ (l : List Ask). record old { asks = l; untold = empty_batch }) (asked_parts (delete_asks queue count) (put_asks (file_of Rewrite old t.seq) old.untold) old.asks);
      }),
    )

-- a sync of the rewrite queue begins and deletes no file
sync_begun : (queue : LogQueue) (asks : List Ask)
    → (begun (acts_on queue (ask Rewrite Sync ∷ asks)) ≡ begun (acts_on queue asks)) × (deletions (acts_on queue (ask Rewrite Sync ∷ asks)) ≡ deletions (acts_on queue asks))
sync_begun Append asks = (refl, refl)
sync_begun Rewrite asks = (refl, refl)

-- nor do deletions begin one
deletes_begun : (queue other : LogQueue) (count : ℕ) (asks : List Ask) → begun (acts_on other (delete_asks queue count ++ asks)) ≡ begun (acts_on other asks)
deletes_begun Append Append count asks = append_deletes_begun count asks
deletes_begun Append Rewrite count asks = ap begun (append_deletes_others count asks)
deletes_begun Rewrite Append count asks = ap begun (rewrite_deletes_others count asks)
deletes_begun Rewrite Rewrite count asks = rewrite_deletes_begun count asks

-- the files of both queues that are left
both_left : (queue : LogQueue) (count : ℕ) (asks : List Ask) (append rewrite append' rewrite' : QueueFiles) → AreFilesOf Append asks append → AreFilesOf Rewrite asks rewrite
    → count ≤ length (files_known queue append rewrite).closed.items → IsQueueShorterBy queue count append rewrite append' rewrite'
    → AreFilesOf Append (delete_asks queue count ++ asks) append' × AreFilesOf Rewrite (delete_asks queue count ++ asks) rewrite'
both_left Append count asks append rewrite append' rewrite' a r few t = let none = append_deletes_others count asks in (
  files_deleted Append count asks append append' a few t.0.0 t.0.1 t.0.2,
  subst (AreFilesOf Rewrite (delete_asks Append count ++ asks)) (sym t.1) (files_same Rewrite asks (delete_asks Append count ++ asks) rewrite rewrite (ap begun none) (ap deletions none) refl refl refl r),
)
both_left Rewrite count asks append rewrite append' rewrite' a r few t = let none = rewrite_deletes_others count asks in (
  subst (AreFilesOf Append (delete_asks Rewrite count ++ asks)) (sym t.0) (files_same Append asks (delete_asks Rewrite count ++ asks) append append (ap begun none) (ap deletions none) refl refl refl a),
  files_deleted Rewrite count asks rewrite rewrite' r few t.1.0 t.1.1 t.1.2,
)

module _
    (queue : LogQueue) (synced : SyncsAreStored) (append_deleted : DeletionsAreStored Append) (rewrite_deleted : DeletionsAreStored Rewrite)
    (version : Version) (asks : List Ask) (append rewrite : QueueFiles) (untold : Batch) (accessor : Accessor) (intact : Bool)
    (k : IsKeptBy version asks append rewrite untold accessor intact)
    (ready : IsReady (record { version = version; asks = asks; untold = untold; accessor = accessor; intact = intact }))
    (count : ℕ) (x : AreExpired queue (record { version = version; asks = asks; untold = untold; accessor = accessor; intact = intact }) count) where
  abbrev engine : KeptEngine
  engine = record { version = version; asks = asks; untold = untold; accessor = accessor; intact = intact }

  abbrev one : List Ask
  one = ask Rewrite Sync ∷ asks

  abbrev files : QueueFiles
  files = files_known queue append rewrite

  deleted : (q : LogQueue) → DeletionsAreStored q
  deleted Append = append_deleted
  deleted Rewrite = rewrite_deleted

  both_files : (q : LogQueue) → AreFilesOf q asks (files_known q append rewrite)
  both_files Append = (k.whole ready.intact).append_files
  both_files Rewrite = (k.whole ready.intact).rewrite_files

  its_files : AreFilesOf queue asks files
  its_files = both_files queue

  pub few : count ≤ length files.closed.items
  few = few_expired queue engine files its_files count x

  one_unfailed : NoSyncFailed one
  one_unfailed = (tt, (k.whole ready.intact).unfailed)

  nothing : k.untold ≡ []
  nothing = sym (ap (λ (b : Batch). b.items) (k.whole ready.intact).are_untold) ∙ ready.told

  stored_one : AreKeptStored version one k.base [] k.tables
  stored_one = synced Rewrite version asks k.base [] k.tables (subst (λ (u : List Item). AreKeptStored version asks k.base u k.tables) nothing k.stored)

  all_expired : AllByRecursion (IsExpired queue k.tables) (take count (numbers its_files.closed))
  all_expired =
      subst (λ (ns : List ℕ). AllByRecursion (IsExpired queue k.tables) (take count ns)) its_files.have
      (subst (λ (m : Tables). AllByRecursion (IsExpired queue m) (take count files.closed.items)) (k.whole ready.intact).are_tables (closed_expired queue engine files its_files count x))

  stored_deleted : (made : ℕ) → made ≤ count → AreKeptStored version (delete_asks queue made ++ one) k.base [] k.tables
  stored_deleted made low =
      let f = its_files in
      let same = sync_begun queue asks in
      let fits = closed_few count files f.closed f.have few in
      all_deleted queue (deleted queue) version k.base k.tables made one f.gone f.closed (files.seq, f.bytes) ready.synced tt (same.0 ∙ f.are) (same.1 ∙ f.deleted)
      (take_fewer (IsExpired queue k.tables) made count (numbers f.closed) low all_expired) (omega (arith, low, fits)) stored_one

  -- each first part of it is stored
  pub deleted_ever : AreEver (AreSafe version) (delete_asks queue count ++ ask Rewrite Sync ∷ []) asks
  deleted_ever =
      more_ever (AreSafe version) (delete_asks queue count) (ask Rewrite Sync ∷ []) asks
      (deletes_ever (AreSafe version) queue count one (λ m low. record { base = k.base; untold = []; tables = k.tables; stored = stored_deleted m low; none = delete_unfailed queue m one one_unfailed }))
      (synced_ever version asks append rewrite untold accessor intact k synced ready.intact Rewrite)

  module _ (first : List Ask) (is_first : first ≡ one) where
    -- ---- where it succeeds

    module _ (new : List Ask) (is_new : new ≡ delete_asks queue count ++ first) where
      are_new : new ≡ delete_asks queue count ++ one
      are_new = is_new ∙ ap (λ (l : List Ask). delete_asks queue count ++ l) is_first

      pub kept_deleted : (append' rewrite' : QueueFiles) → IsQueueShorterBy queue count append rewrite append' rewrite' → IsKeptBy version new append' rewrite' untold accessor true
      kept_deleted append' rewrite' taken =
          let w = k.whole ready.intact in
          let left = both_left queue count one append rewrite append' rewrite'
          (files_same Append asks one append append refl refl refl refl refl w.append_files) (files_same Rewrite asks one rewrite rewrite refl refl refl refl refl w.rewrite_files) few taken in
          record {
            base = k.base;
            untold = [];
            tables = k.tables;
            stored = subst (λ (m : List Ask). AreKeptStored version m k.base [] k.tables) (sym are_new) (stored_deleted count (omega arith));
            trusted = unfailed_trusted new (subst NoSyncFailed (sym are_new) (delete_unfailed queue count one one_unfailed));
            whole = λ i. record {
              are_tables = w.are_tables;
              are_untold = w.are_untold ∙ ap (λ (items : List Item). record empty_batch { items = items }) nothing;
              take_away = tt;
              append_files = subst (λ (m : List Ask). AreFilesOf Append m append') (sym are_new) left.0;
              rewrite_files = subst (λ (m : List Ask). AreFilesOf Rewrite m rewrite') (sym are_new) left.1;
              unfailed = subst NoSyncFailed (sym are_new) (delete_unfailed queue count one one_unfailed);
              read_back = subst (λ (m : List Ask). IsReadBackAlone version m accessor) (sym are_new)
                  (same_read_back version one (delete_asks queue count) accessor (deletes_begun queue Append count one) (deletes_begun queue Rewrite count one)
                  (same_read_back version asks (ask Rewrite Sync ∷ []) accessor refl refl w.read_back));
            };
          }

      pub is_deleted : AreDeleted queue count engine (record engine { asks = new; intact = true })
      is_deleted =
          ap (λ (m : List Ask). record engine { asks = m; intact = true }) are_new
          ∙ ap (λ (b : Bool). record engine { asks = delete_asks queue count ++ one; intact = b }) (sym ready.intact)
