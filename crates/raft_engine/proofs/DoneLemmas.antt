-- What each ask does to a queue, and which batches it puts there.
use Rattle.raft_engine.proofs.Common.{◌≡◌, suc, ℕ, ◌+◌, ◌<◌, ◌≤◌, List, [], ◌∷◌, ◌++◌, length, refl, sym, ap, ◌∙◌, subst, arith, length-append, signature_in, FileBlockHandle, FileId, LogQueue, Append, Rewrite, Version, Batch, log_batch_bytes, Event, HaveStatus, Act, Begin}
use Rattle.raft_engine.proofs.Common.{NumberedBytes, Put, Sync, Unsynced, begun, deletions, written_event, whole_file, Deed, Write, Crash, written, deleted, IsSynced, ArePut, ArePutWhole, WrittenBatchIsPut, AreDoneWhole, AreRisingFrom, Follows, LastFileIsNext, WrittenBatchIsDone}
use Rattle.raft_engine.proofs.Common.{numbers, written_within, AreSynced, AreAllDone, IsWritableBatch}
use Rattle.raft_files.specs.Asks as asks
use Rattle.raft_engine_laws.specs.Crashes as queue_deeds
use Rattle.raft_engine_laws.specs.Crashes.{Delete}
use Rattle.raft_engine.proofs.LastingLemmas.{all_synced, synced_prefix}
use Rattle.raft_engine.proofs.SealedLemmas.{put_is_sound}
use Rattle.raft_engine.proofs.WellPutLemmas.{begin_well, delete_well, none_well, put_well, sync_well, unsynced_well}

-- ---- what is synced

is_synced : (deeds : List Deed) → queue_deeds.synced deeds ≡ written deeds → IsSynced deeds
is_synced [] e = tt
is_synced (Write x ∷ earlier) e =
    let f = synced_prefix earlier in
    let long = ap length e ∙ length-append (written earlier) (x ∷ []) in
    let split = ap length f.1 ∙ length-append (queue_deeds.synced earlier) f.0 in
    absurd (omega (arith, long, split))
is_synced (queue_deeds.Sync ∷ earlier) e = tt
is_synced (Delete n ∷ earlier) e = is_synced earlier e
is_synced (Crash standing n ∷ earlier) e = tt

module _ (queue : LogQueue) (version : Version) (acts : List Act) (deeds : List Deed) (a : AreAllDone queue version acts deeds) (s : AreSynced acts) where
  pub same_synced : queue_deeds.synced deeds ≡ written deeds
  same_synced = all_synced queue version acts (queue_deeds.synced deeds) (written deeds) a.put.put s

  pub deeds_synced : IsSynced deeds
  deeds_synced = is_synced deeds same_synced

-- ---- at first

pub none_done : ((queue : LogQueue) (version : Version) → AreDoneWhole queue version [] [])
    → ((queue : LogQueue) (version : Version) → ArePutWhole queue version [] [] [])
    → (queue : LogQueue) (version : Version) → AreAllDone queue version [] []
none_done done put queue version = record { done = done queue version; put = put queue version; well = none_well queue version }

pub first_done : ((queue : LogQueue) (version : Version) (acts : List Act) (deeds : List Deed) (seq : ℕ)
    → AreDoneWhole queue version acts deeds → IsSynced deeds → Follows seq (begun acts) → deleted deeds ≤ seq
    → AreDoneWhole queue version (Begin seq ∷ acts) deeds)
    → ((queue : LogQueue) (version : Version) (acts : List Act) (synced h : List Event) (seq : ℕ)
    → ArePutWhole queue version acts synced h → ArePutWhole queue version (Begin seq ∷ acts) h h)
    → (queue : LogQueue) (version : Version) → AreAllDone queue version [] [] → AreAllDone queue version (Begin 1 ∷ []) []
first_done begin put queue version a = record {
  done = begin queue version [] [] 1 a.done tt tt (omega arith);
  put = put queue version [] [] [] 1 a.put;
  well = begin_well queue version [] 1 a.well;
}

-- ---- a sync

pub sync_done : ((queue : LogQueue) (version : Version) (acts : List Act) (deeds : List Deed)
    → AreDoneWhole queue version acts deeds → AreDoneWhole queue version (Sync ∷ acts) (queue_deeds.Sync ∷ deeds))
    → ((queue : LogQueue) (version : Version) (acts : List Act) (synced h : List Event)
    → ArePut queue version acts synced h → ArePut queue version (Sync ∷ acts) h h)
    → (queue : LogQueue) (version : Version) (acts : List Act) (deeds : List Deed)
    → AreAllDone queue version acts deeds → AreAllDone queue version (Sync ∷ acts) (queue_deeds.Sync ∷ deeds)
sync_done done put queue version acts deeds a = record {
  done = done queue version acts deeds a.done;
  put = record { put = put queue version acts (queue_deeds.synced deeds) (written deeds) a.put.put; whole = a.put.whole };
  well = sync_well queue version acts a.well;
}

-- one that failed
pub unsynced_done : ((queue : LogQueue) (version : Version) (acts : List Act) (deeds : List Deed) → AreDoneWhole queue version acts deeds → AreDoneWhole queue version (Unsynced ∷ acts) deeds)
    → (queue : LogQueue) (version : Version) (acts : List Act) (deeds : List Deed) → AreAllDone queue version acts deeds → AreAllDone queue version (Unsynced ∷ acts) deeds
unsynced_done done queue version acts deeds a = record {
  done = done queue version acts deeds a.done;
  put = record { put = a.put.put; whole = a.put.whole };
  well = unsynced_well queue version acts a.well;
}

-- ---- a new file

follows_last : (n : ℕ) (closed : List NumberedBytes) (file : NumberedBytes) → n ≡ suc file.0 → Follows n (closed ++ file ∷ [])
follows_last n [] file follows = follows
follows_last n (x ∷ []) file follows = follows
follows_last n (x ∷ y ∷ files) file follows = follows_last n (y ∷ files) file follows

no_items_status : (queue : LogQueue) → HaveStatus queue []
no_items_status Append = tt
no_items_status Rewrite = tt

pub begin_done : ((queue : LogQueue) (version : Version) (acts : List Act) (deeds : List Deed) (seq : ℕ)
    → AreDoneWhole queue version acts deeds → IsSynced deeds → Follows seq (begun acts) → deleted deeds ≤ seq
    → AreDoneWhole queue version (Begin seq ∷ acts) deeds)
    → ((queue : LogQueue) (version : Version) (acts : List Act) (synced h : List Event) (seq : ℕ)
    → ArePutWhole queue version acts synced h → ArePutWhole queue version (Begin seq ∷ acts) h h)
    → LastFileIsNext
    → (queue : LogQueue) (version : Version) (acts : List Act) (deeds : List Deed) (closed : List NumberedBytes) (last : NumberedBytes) (seq : ℕ)
    → AreSynced acts → begun acts ≡ closed ++ last ∷ [] → seq ≡ suc last.0
    → AreAllDone queue version acts deeds → AreAllDone queue version (Begin seq ∷ acts) deeds
begin_done begin put next queue version acts deeds closed last seq synced is follows a =
    let same = same_synced queue version acts deeds a synced in
    let file : FileId = record { queue = queue; seq = last.0 } in
    let e : Event = record { items = []; file = file } in
    let n = next queue version acts deeds closed last e a.done is refl tt (no_items_status queue) in
    let low : deleted deeds ≤ last.0 = n.stays in record {
      done = begin queue version acts deeds seq a.done (deeds_synced queue version acts deeds a synced) (subst (Follows seq) (sym is) (follows_last seq closed last follows)) (omega (arith, low, follows));
      put = subst (λ (l : List Event). ArePutWhole queue version (Begin seq ∷ acts) l (written deeds)) (sym same) (put queue version acts (queue_deeds.synced deeds) (written deeds) seq a.put);
      well = begin_well queue version acts seq a.well;
    }

-- ---- a batch

pub put_done : WrittenBatchIsDone → WrittenBatchIsPut
    → (queue : LogQueue) (version : Version) (acts : List Act) (deeds : List Deed) (closed : List NumberedBytes) (last : NumberedBytes)
    (handle : FileBlockHandle) (batch : Batch) → IsWritableBatch batch
    → handle.id ≡ record { queue = queue; seq = last.0 } → handle.offset ≡ length last.1
    → begun acts ≡ closed ++ last ∷ [] → AreAllDone queue version acts deeds
    → AreAllDone queue version (Put (log_batch_bytes (signature_in version last.0) batch.items batch.entry_bytes) ∷ acts)
    (Write (written_event (whole_file queue version last) handle batch.items batch.entry_bytes) ∷ deeds)
put_done done put queue version acts deeds closed last handle batch w file place is a =
    let p = put queue version acts (queue_deeds.synced deeds) (written deeds) closed last handle batch.items batch.entry_bytes w.tiled w.in_range w.in_bytes w.some w.short file place is a.put in
    let part = whole_file queue version last in record {
      done = done queue version acts deeds closed last handle batch.items batch.entry_bytes w.tiled w.in_range w.in_bytes w.some w.short file place is a.done;
      put = p;
      well = put_well queue version acts (log_batch_bytes (signature_in version last.0) batch.items batch.entry_bytes) (written deeds) (written_event part handle batch.items batch.entry_bytes) a.put.whole p.whole
          (written_within part handle batch.items batch.entry_bytes w.tiled) (λ none. put_is_sound queue version acts none closed last handle batch (written deeds) w file place is a.put.whole) a.well;
    }

-- ---- a deletion

rising_next : (n : ℕ) (gone rest : List NumberedBytes) (oldest next : NumberedBytes) → AreRisingFrom n (numbers (gone ++ oldest ∷ next ∷ rest)) → oldest.0 < next.0
rising_next n [] rest oldest next r = r.1.0
rising_next n (x ∷ gone) rest oldest next r = rising_next _ gone rest oldest next r.1

pub delete_done : ((queue : LogQueue) (version : Version) (acts : List Act) (deeds : List Deed)
    (gone rest : List NumberedBytes) (oldest next : NumberedBytes) (n : ℕ) → AreDoneWhole queue version acts deeds
    → begun acts ≡ gone ++ oldest ∷ next ∷ rest → deletions acts ≡ length gone → oldest.0 < n → n ≤ next.0
    → AreDoneWhole queue version (asks.Delete ∷ acts) (Delete n ∷ deeds))
    → ((queue : LogQueue) (version : Version) (acts : List Act) (synced h : List Event)
    → ArePutWhole queue version acts synced h → ArePutWhole queue version (asks.Delete ∷ acts) synced h)
    → (queue : LogQueue) (version : Version) (acts : List Act) (deeds : List Deed) (gone rest : List NumberedBytes) (oldest next : NumberedBytes)
    → begun acts ≡ gone ++ oldest ∷ next ∷ rest → deletions acts ≡ length gone
    → AreAllDone queue version acts deeds → AreAllDone queue version (asks.Delete ∷ acts) (Delete (oldest.0 + 1) ∷ deeds)
delete_done done put queue version acts deeds gone rest oldest next is count a =
    let less = rising_next a.done.done.first gone rest oldest next (subst (λ (files : List NumberedBytes). AreRisingFrom a.done.done.first (numbers files)) is a.done.done.rising) in record {
      done = done queue version acts deeds gone rest oldest next (oldest.0 + 1) a.done is count (omega arith) (omega (arith, less));
      put = put queue version acts (queue_deeds.synced deeds) (written deeds) a.put;
      well = delete_well queue version acts a.well;
    }
