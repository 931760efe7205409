-- What each ask makes of the batches that were put.
use Rattle.raft_engine_prefixes.proofs.Common.{◌≡◌, ℕ, List, [], ◌∷◌, ◌++◌, refl, sym, subst, ◌∙◌, signature_in, FileBlockHandle, LogQueue, Version, Event, log_batch_bytes, Act, Put, Begin, Sync, Unsynced, Delete, Cut, Found, Read, NumberedBytes, put_behind, cut_last, begun}
use Rattle.raft_engine_prefixes.proofs.Common.{written_event, FilesHold, whole_file, FilesHoldTorn, StopsAt, AreBatchesPut, ArePut, ArePutWhole, WrittenBatchIsPut}
use Rattle.raft_engine_prefixes.proofs.TornLemmas.{cut_found, one_reading, whole_torn}
use Rattle.raft_engine_prefixes.proofs.PrefixLemmas.{all_held, begun_whole}
use Rattle.raft_engine_prefixes.proofs.WrittenLemmas.{written_held, written_put}

pub written : WrittenBatchIsPut
written queue version acts synced h closed last handle items entry_bytes batch in_range in_bytes some short file place is p =
    let bytes = log_batch_bytes (signature_in version last.0) items entry_bytes in
    let event = written_event (whole_file queue version last) handle items entry_bytes in
    let put = written_put queue version last handle items entry_bytes batch in_range in_bytes some short file place closed in
    let held = written_held queue version last handle items entry_bytes batch in_range in_bytes some short file place closed h (subst (λ (fs : List NumberedBytes). FilesHold queue version fs h) is p.whole) in
    record {
      put = record {
        old = h;
        before = p.put;
        whole = p.whole;
        more = event ∷ [];
        put = subst (λ (fs : List NumberedBytes). AreBatchesPut queue version bytes fs (event ∷ [])) (sym is) put;
        split = refl;
      };
      whole = subst (λ (fs : List NumberedBytes). FilesHold queue version (put_behind bytes fs) (h ++ event ∷ [])) (sym is) held;
    }

module _ (queue : LogQueue) (version : Version) (acts : List Act) (synced h : List Event) where
  pub began : (seq : ℕ) → ArePutWhole queue version acts synced h → ArePutWhole queue version (Begin seq ∷ acts) h h
  began seq p = record { put = (refl, p.whole); whole = begun_whole queue version (begun acts) seq h p.whole }

  pub synced_all : ArePut queue version acts synced h → ArePut queue version (Sync ∷ acts) h h
  synced_all p = (refl, all_held queue version acts synced h p)

  pub cut_off : (closed : List NumberedBytes) (last : NumberedBytes) (at : ℕ) → ArePut queue version acts synced h → begun acts ≡ closed ++ last ∷ [] → StopsAt (whole_file queue version last) at
      → ArePutWhole queue version (Cut at ∷ acts) synced h
  cut_off closed last at p is stops =
      let torn = subst (λ (fs : List NumberedBytes). FilesHoldTorn queue version fs h) is (all_held queue version acts synced h p) in
      let whole = subst (λ (fs : List NumberedBytes). FilesHold queue version (cut_last at fs) h) (sym is) (cut_found queue version closed last h at torn stops) in
      record { put = (p, whole_torn queue version (cut_last at (begun acts)) h whole); whole = whole }

  pub deleted_one : ArePutWhole queue version acts synced h → ArePutWhole queue version (Delete ∷ acts) synced h
  deleted_one p = record { put = p.put; whole = p.whole }

pub read_one : (queue : LogQueue) (version : Version) (acts : List Act) (synced h : List Event) (place : FileBlockHandle) (bytes : List ℕ) → ArePut queue version acts synced h → ArePut queue version (Read place bytes ∷ acts) synced h
read_one queue version acts synced h place bytes p = p

pub unsynced_one : (queue : LogQueue) (version : Version) (acts : List Act) (synced h : List Event) → ArePut queue version acts synced h → ArePut queue version (Unsynced ∷ acts) synced h
unsynced_one queue version acts synced h p = p

module _ (queue : LogQueue) (version : Version) where
  one_all : (acts : List Act) (synced synced' h h' : List Event) → ArePut queue version acts synced h → ArePut queue version acts synced' h' → h ≡ h'
  one_all acts synced synced' h h' p q = one_reading queue version (begun acts) h h' (all_held queue version acts synced h p) (all_held queue version acts synced' h' q)

  one_synced : (acts : List Act) (synced synced' h h' : List Event) → ArePut queue version acts synced h → ArePut queue version acts synced' h' → synced ≡ synced'
  one_synced [] synced synced' h h' p q = p.0 ∙ sym q.0
  one_synced (Put bytes ∷ acts) synced synced' h h' p q = one_synced acts synced synced' p.old q.old p.before q.before
  one_synced (Begin seq ∷ acts) synced synced' h h' p q = p.0 ∙ one_all (Begin seq ∷ acts) synced synced' h h' p q ∙ sym q.0
  one_synced (Sync ∷ acts) synced synced' h h' p q = p.0 ∙ one_all (Sync ∷ acts) synced synced' h h' p q ∙ sym q.0
  one_synced (Delete ∷ acts) synced synced' h h' p q = one_synced acts synced synced' h h' p q
  one_synced (Cut len ∷ acts) synced synced' h h' p q = one_synced acts synced synced' h h' p.0 q.0
  one_synced (Found files ∷ acts) synced synced' h h' p q = p.0 ∙ one_all (Found files ∷ acts) synced synced' h h' p q ∙ sym q.0
  one_synced (Read place bytes ∷ acts) synced synced' h h' p q = one_synced acts synced synced' h h' p q
  one_synced (Unsynced ∷ acts) synced synced' h h' p q = one_synced acts synced synced' h h' p q

  pub one_history : (acts : List Act) (synced synced' h h' : List Event) → ArePut queue version acts synced h → ArePut queue version acts synced' h' → (synced ≡ synced') × (h ≡ h')
  one_history acts synced synced' h h' p q = (one_synced acts synced synced' h h' p q, one_all acts synced synced' h h' p q)
