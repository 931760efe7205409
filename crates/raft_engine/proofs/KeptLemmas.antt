-- What an engine keeps once more is asked of its files.
use Rattle.raft_engine.proofs.Common.{◌≡◌, ℕ, ◌+◌, Bool, true, List, [], ◌∷◌, ◌++◌, refl, sym, ap, ◌∙◌, subst, arith, LogQueue, Append, Rewrite, Version, Batch, empty_batch, Accessor, Ask, Begin, NoSyncFailed, Sync, ask, IsLastFile, KeptEngine, AreFilesOf, IsKeptBy}
use Rattle.raft_engine.proofs.Common.{AreKeptStored, FirstFilesAreStored, NewFilesAreStored, SyncsAreStored, IsRotated, QueueFiles, IsReadBackAlone, next_asks}
use Rattle.std.specs.FinMap as finite
use Rattle.raft_engine.proofs.BrokenLemmas.{AreEver, AreSafe}
use Rattle.raft_engine.proofs.FilesLemmas.{files_begun, files_last, files_same, first_append, first_rewrite}
use Rattle.raft_engine.proofs.ReadBackLemmas.{begun_read_back, first_read_back, same_read_back}
use Rattle.raft_engine.proofs.TrustLemmas.{unfailed_trusted}

-- an engine at first
pub kept_new : FirstFilesAreStored → (version : Version) (asks : List Ask) (append rewrite : QueueFiles) (untold : Batch) (accessor : Accessor)
    → asks ≡ ask Rewrite (Begin 1) ∷ ask Append (Begin 1) ∷ []
    → append.closed.items ≡ [] → append.seq ≡ 1 → append.len ≡ 0 → rewrite.closed.items ≡ [] → rewrite.seq ≡ 1 → rewrite.len ≡ 0
    → untold ≡ empty_batch → accessor.tables ≡ finite.empty → accessor.cleaned ≡ [] → IsKeptBy version asks append rewrite untold accessor true
kept_new first version asks append rewrite untold accessor are append_closed append_seq append_len rewrite_closed rewrite_seq rewrite_len none empty cleaned =
    subst (λ (l : List Ask). IsKeptBy version l append rewrite untold accessor true) (sym are) (record {
      base = _;
      untold = [];
      tables = finite.empty;
      stored = first version;
      trusted = unfailed_trusted _ (tt, (tt, tt));
      whole = λ intact. record {
        are_tables = empty;
        are_untold = none;
        take_away = tt;
        append_files = first_append append append_closed append_seq append_len;
        rewrite_files = first_rewrite rewrite rewrite_closed rewrite_seq rewrite_len;
        unfailed = (tt, (tt, tt));
        read_back = first_read_back version accessor empty cleaned;
      };
    })

module _ (version : Version) (asks : List Ask) (append rewrite : QueueFiles) (untold : Batch) (accessor : Accessor) (intact : Bool) (k : IsKeptBy version asks append rewrite untold accessor intact) where
  abbrev engine : KeptEngine
  engine = record { version = version; asks = asks; untold = untold; accessor = accessor; intact = intact }

  -- so much is stored that was asked of an intact one, with a sync of a queue more, too
  pub safe_now : intact ≡ true → AreSafe version asks
  safe_now is_intact = record { base = k.base; untold = k.untold; tables = k.tables; stored = k.stored; none = (k.whole is_intact).unfailed }

  pub synced_ever : SyncsAreStored → intact ≡ true → (queue : LogQueue) → AreEver (AreSafe version) (ask queue Sync ∷ []) asks
  synced_ever synced is_intact queue =
      (record { base = k.base; untold = k.untold; tables = k.tables; stored = synced queue version asks k.base k.untold k.tables k.stored; none = (tt, (k.whole is_intact).unfailed) }, safe_now is_intact)

  -- one that only lists the same files anew
  pub kept_listed : (append' : QueueFiles) → append'.closed.items ≡ append.closed.items → append'.seq ≡ append.seq → append'.len ≡ append.len → IsKeptBy version asks append' rewrite untold accessor intact
  kept_listed append' closed seq len = record {
    base = k.base;
    untold = k.untold;
    tables = k.tables;
    stored = k.stored;
    trusted = k.trusted;
    whole = λ i. let w = k.whole i in record {
      are_tables = w.are_tables;
      are_untold = w.are_untold;
      take_away = w.take_away;
      append_files = files_same Append asks asks append append' refl refl closed seq len w.append_files;
      rewrite_files = w.rewrite_files;
      unfailed = w.unfailed;
      read_back = w.read_back;
    };
  }

  -- a queue is synced, and a new file is begun in it
  pub stored_next : SyncsAreStored → NewFilesAreStored → (queue : LogQueue) (seq : ℕ) (bytes : List ℕ) → IsLastFile queue asks seq bytes
      → AreKeptStored version (ask queue (Begin (seq + 1)) ∷ ask queue Sync ∷ asks) k.base k.untold k.tables
  stored_next synced begun Append seq bytes last = begun Append version (ask Append Sync ∷ asks) k.base k.untold k.tables seq bytes (seq + 1) tt
      (record { closed = last.closed; files = last.files }) (omega arith) (synced Append version asks k.base k.untold k.tables k.stored)
  stored_next synced begun Rewrite seq bytes last = begun Rewrite version (ask Rewrite Sync ∷ asks) k.base k.untold k.tables seq bytes (seq + 1) tt
      (record { closed = last.closed; files = last.files }) (omega arith) (synced Rewrite version asks k.base k.untold k.tables k.stored)

  pub rotated_ever : SyncsAreStored → NewFilesAreStored → intact ≡ true → (queue : LogQueue) (seq : ℕ) (bytes : List ℕ) → IsLastFile queue asks seq bytes → AreEver (AreSafe version) (next_asks queue seq) asks
  rotated_ever synced begun is_intact queue seq bytes last =
      (record { base = k.base; untold = k.untold; tables = k.tables; stored = stored_next synced begun queue seq bytes last; none = (tt, (tt, (k.whole is_intact).unfailed)) }, synced_ever synced is_intact queue)

  module _ (is_intact : intact ≡ true) where
    pub last_append : IsLastFile Append asks append.seq ((k.whole is_intact).append_files.bytes)
    last_append = files_last Append asks append (k.whole is_intact).append_files

    -- an engine that is synced
    pub kept_synced : SyncsAreStored → (new : List Ask) → new ≡ ask Append Sync ∷ asks → IsKeptBy version new append rewrite untold accessor true
    kept_synced synced new e =
        let w = k.whole is_intact in
        subst (λ (l : List Ask). IsKeptBy version l append rewrite untold accessor true) (sym e) (record {
          base = k.base;
          untold = k.untold;
          tables = k.tables;
          stored = synced Append version asks k.base k.untold k.tables k.stored;
          trusted = unfailed_trusted _ (tt, w.unfailed);
          whole = λ i. record {
            are_tables = w.are_tables;
            are_untold = w.are_untold;
            take_away = w.take_away;
            append_files = files_same Append asks (ask Append Sync ∷ asks) append append refl refl refl refl refl w.append_files;
            rewrite_files = files_same Rewrite asks (ask Append Sync ∷ asks) rewrite rewrite refl refl refl refl refl w.rewrite_files;
            unfailed = (tt, w.unfailed);
            read_back = same_read_back version asks (ask Append Sync ∷ []) accessor refl refl w.read_back;
          };
        })

    -- ---- a new file

    module _ (new : List Ask) (are_asked : new ≡ ask Append (Begin (append.seq + 1)) ∷ ask Append Sync ∷ asks) where
      pub kept_rotated : SyncsAreStored → NewFilesAreStored → (append' : QueueFiles)
          → append'.closed.items ≡ append.closed.items ++ append.seq ∷ [] → append'.seq ≡ append.seq + 1 → append'.len ≡ 0 → IsKeptBy version new append' rewrite untold accessor true
      kept_rotated synced begun append' closed seq len =
          let w = k.whole is_intact in
          let between = files_same Append asks (ask Append Sync ∷ asks) append append refl refl refl refl refl w.append_files in
          let next = files_begun Append (ask Append Sync ∷ asks) append append' closed len between in record {
            base = k.base;
            untold = k.untold;
            tables = k.tables;
            stored = subst (λ (l : List Ask). AreKeptStored version l k.base k.untold k.tables) (sym are_asked) (stored_next synced begun Append append.seq _ last_append);
            trusted = unfailed_trusted new (subst NoSyncFailed (sym are_asked) (tt, (tt, w.unfailed)));
            whole = λ i. record {
              are_tables = w.are_tables;
              are_untold = w.are_untold;
              take_away = w.take_away;
              append_files = subst (λ (l : List Ask). AreFilesOf Append l append') (ap (λ (n : ℕ). ask Append (Begin n) ∷ ask Append Sync ∷ asks) seq ∙ sym are_asked) next;
              rewrite_files = subst (λ (l : List Ask). AreFilesOf Rewrite l rewrite) (sym are_asked)
                  (files_same Rewrite asks (ask Append (Begin (append.seq + 1)) ∷ ask Append Sync ∷ asks) rewrite rewrite refl refl refl refl refl w.rewrite_files);
              unfailed = subst NoSyncFailed (sym are_asked) (tt, (tt, w.unfailed));
              read_back = subst (λ (l : List Ask). IsReadBackAlone version l accessor) (sym are_asked)
                  (begun_read_back version (ask Append Sync ∷ asks) (append.seq + 1) accessor (same_read_back version asks (ask Append Sync ∷ []) accessor refl refl w.read_back));
            };
          }

      pub is_rotated : IsRotated engine (record engine { asks = new; intact = true })
      is_rotated = record {
        seq = append.seq;
        bytes = (k.whole is_intact).append_files.bytes;
        last = last_append;
        rotated = ap (λ (l : List Ask). record engine { asks = l; intact = true }) are_asked
            ∙ ap (λ (b : Bool). record engine { asks = ask Append (Begin (append.seq + 1)) ∷ ask Append Sync ∷ asks; intact = b }) (sym is_intact);
      }
