-- What each ask makes of what is well put.
use Rattle.raft_engine.proofs.Common.{ℕ, List, [], ◌∷◌, ◌++◌, FileBlockHandle, LogQueue, Append, Rewrite, Version, Event, Act, Ask, Begin, Cut, Delete, Found, NumberedBytes, Put, Read, Sync, Unsynced, acts_on, begun, FilesHold, EntriesEndWithin, FilesHoldTorn, begin_within}
use Rattle.raft_engine.proofs.Common.{cut_within, found_within, none_within, put_within, IsLastOfOther, IsLastSound, NoneIsUnsound, AreWellPut}
use Rattle.raft_engine.proofs.OfVersionLemmas.{nothing_other, stays}
use Rattle.raft_engine.proofs.SealedLemmas.{begin_sound, cut_sound, delete_sound, found_sound, none_unsound, read_sound, unsynced_sound, sync_sound}

module _ (queue : LogQueue) (version : Version) where
  pub none_well : AreWellPut queue version []
  none_well = record { of_version = nothing_other queue version; within = none_within queue version; sealed = none_unsound queue version }

  pub found_well : (acts : List Act) (files : List NumberedBytes) → ¬ (IsLastOfOther queue version files) → IsLastSound queue version files → AreWellPut queue version (Found files ∷ acts)
  found_well acts files none sound = record { of_version = (stays queue version acts).found files none; within = found_within queue version acts files; sealed = found_sound queue version acts files sound }

  pub begin_well : (acts : List Act) (seq : ℕ) → AreWellPut queue version acts → AreWellPut queue version (Begin seq ∷ acts)
  begin_well acts seq w = record { of_version = (stays queue version acts).begun seq w.of_version; within = begin_within queue version acts seq w.within; sealed = begin_sound queue version acts w.sealed seq }

  pub sync_well : (acts : List Act) → AreWellPut queue version acts → AreWellPut queue version (Sync ∷ acts)
  sync_well acts w = record { of_version = (stays queue version acts).synced w.of_version; within = w.within; sealed = sync_sound queue version acts w.sealed }

  pub delete_well : (acts : List Act) → AreWellPut queue version acts → AreWellPut queue version (Delete ∷ acts)
  delete_well acts w = record { of_version = (stays queue version acts).deleted w.of_version; within = w.within; sealed = delete_sound queue version acts w.sealed }

  pub read_well : (acts : List Act) (place : FileBlockHandle) (bytes : List ℕ) → AreWellPut queue version acts → AreWellPut queue version (Read place bytes ∷ acts)
  read_well acts place bytes w = record { of_version = (stays queue version acts).read place bytes w.of_version; within = w.within; sealed = read_sound queue version acts w.sealed place bytes }

  pub unsynced_well : (acts : List Act) → AreWellPut queue version acts → AreWellPut queue version (Unsynced ∷ acts)
  unsynced_well acts w = record { of_version = (stays queue version acts).unsynced w.of_version; within = w.within; sealed = unsynced_sound queue version acts w.sealed }

  pub put_well : (acts : List Act) (bytes : List ℕ) (h : List Event) (e : Event) → FilesHold queue version (begun acts) h → FilesHold queue version (begun (Put bytes ∷ acts)) (h ++ e ∷ [])
      → EntriesEndWithin (e ∷ []) → (NoneIsUnsound queue version acts → NoneIsUnsound queue version (Put bytes ∷ acts)) → AreWellPut queue version acts → AreWellPut queue version (Put bytes ∷ acts)
  put_well acts bytes h e before after ends sealed w = record {
    of_version = (stays queue version acts).put bytes (h ++ e ∷ []) after w.of_version;
    within = put_within queue version acts bytes h e before after ends w.within;
    sealed = sealed w.sealed;
  }

  pub cut_well : (acts : List Act) (len : ℕ) (h : List Event) → FilesHoldTorn queue version (begun acts) h → FilesHold queue version (begun (Cut len ∷ acts)) h
      → AreWellPut queue version acts → AreWellPut queue version (Cut len ∷ acts)
  cut_well acts len h before after w = record {
    of_version = (stays queue version acts).cut len h after w.of_version;
    within = cut_within queue version acts len h before after w.within;
    sealed = cut_sound queue version acts w.sealed len;
  }

-- the same of both queues
pub both_well : (version : Version) (asks : List Ask) → AreWellPut Append version (acts_on Append asks) → AreWellPut Rewrite version (acts_on Rewrite asks)
    → (queue : LogQueue) → AreWellPut queue version (acts_on queue asks)
both_well version asks append rewrite Append = append
both_well version asks append rewrite Rewrite = rewrite
