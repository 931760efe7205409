-- What an engine keeps once it tells the rewrite queue what is untold.
use Rattle.raft_engine.proofs.Common.{◌≡◌, ◌≢◌, ℕ, ◌+◌, Bool, true, false, List, [], ◌∷◌, ◌++◌, refl, sym, ap, ◌∙◌, subst, LogFileContext, Append, Rewrite, Version, Item, Batch, empty_batch, encoded, encoded_length, Accessor, Ask, NoSyncFailed, Put, Sync, ask, bytes_for, inl, inr, begun, deletions}
use Rattle.raft_engine.proofs.Common.{TakeAway, IsLastFile, KeptEngine, AreFilesOf, IsKeptBy, IsHalfTold, IsTold, IsUntold, FailedSyncsAreStored, put_asks, AreKeptStored, IsWritableBatch, SyncsAreStored, ToldBatchesAreStored, QueueFiles, IsReadBackAlone, Error, Failures, FailsAmong}
use Rattle.raft_engine.proofs.FilesLemmas.{files_last, files_same}
use Rattle.raft_engine.proofs.ReadBackLemmas.{same_read_back, told_read_back}
use Rattle.raft_engine.proofs.KeptPurges.{items_made, items_others, rewrite_file, told_files, told_stored}
use Rattle.raft_engine.proofs.BrokenLemmas.{AreEver, AreSafe, broken_kept, more_ever, put_ever}
use Rattle.raft_engine.proofs.KeptLemmas.{kept_synced, safe_now}
use Rattle.raft_engine.proofs.TrustLemmas.{put_unfailed, unfailed_trusted}

module _
    (synced : SyncsAreStored) (told : ToldBatchesAreStored)
    (version : Version) (asks : List Ask) (append rewrite : QueueFiles) (untold : Batch) (accessor : Accessor) (intact : Bool)
    (k : IsKeptBy version asks append rewrite untold accessor intact) (is_intact : intact ≡ true)
    (writable : untold.items ≢ [] → IsWritableBatch untold) where
  abbrev engine : KeptEngine
  engine = record { version = version; asks = asks; untold = untold; accessor = accessor; intact = intact }

  abbrev file : LogFileContext
  file = rewrite_file version rewrite.seq

  abbrev one : List Ask
  one = ask Append Sync ∷ asks

  abbrev two : List Ask
  two = put_asks file untold ++ one

  its_last : IsLastFile Rewrite asks rewrite.seq (k.whole is_intact).rewrite_files.bytes
  its_last = files_last Rewrite asks rewrite (k.whole is_intact).rewrite_files

  same_items : untold.items ≡ k.untold
  same_items = ap (λ (b : Batch). b.items) (k.whole is_intact).are_untold

  stored_one : AreKeptStored version one k.base untold.items k.tables
  stored_one = subst (λ (u : List Item). AreKeptStored version one k.base u k.tables) (sym same_items) (synced Append version asks k.base k.untold k.tables k.stored)

  stored_two : AreKeptStored version two k.base [] k.tables
  stored_two =
      told_stored told version one k.base k.tables rewrite.seq _ untold tt (record { closed = its_last.closed; files = its_last.files }) writable
      (subst TakeAway (sym same_items) (k.whole is_intact).take_away) stored_one

  one_unfailed : NoSyncFailed one
  one_unfailed = (tt, (k.whole is_intact).unfailed)

  two_unfailed : NoSyncFailed two
  two_unfailed = put_unfailed file untold one one_unfailed

  -- each first part of it is stored
  pub told_ever : AreEver (AreSafe version) (put_asks file untold ++ ask Append Sync ∷ []) asks
  told_ever =
      let safe_one : AreSafe version one = record { base = k.base; untold = untold.items; tables = k.tables; stored = stored_one; none = one_unfailed } in
      let safe_two : AreSafe version two = record { base = k.base; untold = []; tables = k.tables; stored = stored_two; none = two_unfailed } in
      more_ever (AreSafe version) (put_asks file untold) (ask Append Sync ∷ []) asks
      (put_ever (AreSafe version) file untold untold.items one safe_two safe_one) (safe_one, safe_now version asks append rewrite untold accessor intact k is_intact)

  -- the files failed in the midst of it
  pub half_told : (MayFail : Failures) (new : List Ask) (untold' : Batch) (e : Error) → FailsAmong MayFail (put_asks file untold ++ ask Append Sync ∷ []) asks new e
      → IsHalfTold MayFail engine (record { version = version; asks = new; untold = untold'; accessor = accessor; intact = false }) e
  half_told MayFail new untold' e f = record {
    seq = rewrite.seq;
    bytes = (k.whole is_intact).rewrite_files.bytes;
    last = its_last;
    broken = record { was = is_intact; failed = f; others = refl };
  }

  module _ (context : LogFileContext) (is_file : context ≡ rewrite_file version rewrite.seq) (made : Batch) (is_made : made ≡ record untold { stage = encoded }) (first : List Ask) (is_first : first ≡ one) where
    -- the files failed to put it, and the engine stays intact if they took back what they put
    module _ (MayFail : Failures) (new : List Ask) (e : Error) (failed : FailsAmong MayFail (put_asks file untold ++ ask Append Sync ∷ []) asks new e) where
      pub told_tried : FailedSyncsAreStored → (kept : Bool) → (kept ≡ true → new ≡ first) → IsKeptBy version new append rewrite untold accessor kept
      told_tried unsynced true same = kept_synced version asks append rewrite untold accessor intact k is_intact synced new (same refl ∙ is_first)
      told_tried unsynced false same = broken_kept unsynced version new append rewrite untold accessor MayFail _ asks e told_ever failed

      pub untold_tried : (kept : Bool) → (kept ≡ true → new ≡ first) → made.items ≢ [] → MayFail first (ask context.id.queue (Put (bytes_for context made))) e
          → IsUntold MayFail engine (record engine { asks = new; intact = kept }) e
      untold_tried true same some why = inr (inr (record {
        was = is_intact;
        some = subst (λ (b : Batch). b.items ≢ []) is_made some;
        seq = rewrite.seq;
        bytes = (k.whole is_intact).rewrite_files.bytes;
        last = its_last;
        synced = ap (λ (l : List Ask). record engine { asks = l; intact = true }) (same refl ∙ is_first) ∙ ap (λ (i : Bool). record engine { asks = one; intact = i }) (sym is_intact);
        why = subst (λ (a : Ask). MayFail one a e)
            (ap (λ (f : LogFileContext). ask f.id.queue (Put (bytes_for f made))) is_file ∙ ap (λ (b : Batch). ask Rewrite (Put (bytes_for file b))) is_made)
            (subst (λ (l : List Ask). MayFail l (ask context.id.queue (Put (bytes_for context made))) e) is_first why);
      }))
      untold_tried false same some why = inr (inl (half_told MayFail new untold e failed))

    put_made : put_asks context made ++ first ≡ two
    put_made =
        ap (λ (f : LogFileContext). put_asks f made ++ first) is_file ∙ ap (λ (b : Batch). put_asks file b ++ first) is_made
        ∙ ap (λ (puts : List Ask). puts ++ first) (items_made file untold untold.items) ∙ ap (λ (l : List Ask). put_asks file untold ++ l) is_first

    module _ (second : List Ask) (is_second : second ≡ put_asks context made ++ first) (untold' : Batch) (emptied : untold' ≡ empty_batch) where
      are_two : second ≡ two
      are_two = is_second ∙ put_made

      pub kept_told : (rewrite' : QueueFiles) (len : ℕ) → len ≡ encoded_length untold.items untold.entry_bytes → rewrite'.closed.items ≡ rewrite.closed.items → rewrite'.seq ≡ rewrite.seq → rewrite'.len ≡ rewrite.len + len
          → IsKeptBy version second append rewrite' untold' accessor true
      kept_told rewrite' len is_len closed seq is = record {
        base = k.base;
        untold = [];
        tables = k.tables;
        stored = subst (λ (l : List Ask). AreKeptStored version l k.base [] k.tables) (sym are_two) stored_two;
        trusted = unfailed_trusted second (subst NoSyncFailed (sym are_two) two_unfailed);
        whole = λ i. let w = k.whole is_intact in record {
          are_tables = w.are_tables;
          are_untold = emptied;
          take_away = tt;
          append_files = subst (λ (l : List Ask). AreFilesOf Append l append) (sym are_two)
              (files_same Append asks two append append (ap begun (items_others version rewrite.seq untold untold.items one)) (ap deletions (items_others version rewrite.seq untold untold.items one)) refl refl refl w.append_files);
          rewrite_files = subst (λ (l : List Ask). AreFilesOf Rewrite l rewrite') (sym are_two)
              (told_files version one untold rewrite rewrite' len is_len closed seq is (files_same Rewrite asks one rewrite rewrite refl refl refl refl refl w.rewrite_files));
          unfailed = subst NoSyncFailed (sym are_two) two_unfailed;
          read_back = subst (λ (l : List Ask). IsReadBackAlone version l accessor) (sym are_two)
              (told_read_back version one rewrite.seq _ untold accessor (record { closed = its_last.closed; files = its_last.files }) writable
              (same_read_back version asks (ask Append Sync ∷ []) accessor refl refl w.read_back));
        };
      }

      pub is_told : IsTold engine (record engine { asks = second; untold = untold'; intact = true })
      is_told = record {
        seq = rewrite.seq;
        bytes = (k.whole is_intact).rewrite_files.bytes;
        last = its_last;
        told = ap (λ (l : List Ask). record engine { asks = l; untold = untold'; intact = true }) are_two
            ∙ ap (λ (b : Batch). record engine { asks = two; untold = b; intact = true }) emptied
            ∙ ap (λ (i : Bool). record engine { asks = two; untold = empty_batch; intact = i }) (sym is_intact);
      }
