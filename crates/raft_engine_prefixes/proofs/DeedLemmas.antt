-- What each ask does to a queue.
use Rattle.raft_engine_prefixes.proofs.Common.{◌≡◌, ℕ, suc, ◌+◌, ◌<◌, ◌≤◌, max, List, [], ◌∷◌, ◌++◌, length, take, refl, sym, ap, ◌∙◌, subst, arith, length-append, map-append, length-map, signature_in, FileBlockHandle, LogQueue, Version, log_batch_bytes, Event, last_from, Act}
use Rattle.raft_engine_prefixes.proofs.Common.{Put, Begin, Cut, Found, Read, NumberedBytes, put_behind, cut_last, begun, deletions, synced_deletions, length_on_last, written_event, FilesHold, whole_file, Deed, Crash, written, synced, deleted, synced_deleted, IsSynced}
use Rattle.raft_engine_prefixes.proofs.Common.{in_files_from, from_none, from_more, synced_low, ArePut, ArePutWhole, FilesHoldTorn, StopsAt, numbers, AreRisingFrom, AreConsecutive, Follows, AreBelow, AreDone, AreDoneWhole, WrittenBatchIsDone, LastFileIsNext}
use Rattle.raft_files.specs.Asks as asks
use Rattle.raft_engine_laws.specs.Crashes.{Sync, Delete}
use Rattle.raft_engine_prefixes.proofs.TornLemmas.{whole_torn}
use Rattle.raft_engine_prefixes.proofs.StepLemmas as steps
use Rattle.raft_engine_prefixes.proofs.UndamagedLemmas.{begin_undamaged, cut_undamaged, delete_undamaged, found_undamaged, nothing_damaged, put_is_undamaged, read_undamaged, unsynced_undamaged, sync_undamaged}
use Rattle.raft_engine_prefixes.proofs.NumberLemmas.{numbers_on_last, numbers_more, rising_last, rising_more, consecutive_more, follows_next, below_more, below_none, below_oldest, below_next, below_last}
use Rattle.raft_engine_prefixes.proofs.EventLemmas.{all_synced, last_low, low_all, files_up_to}

few_synced : (acts : List Act) → synced_deletions acts ≤ deletions acts
few_synced [] = omega arith
few_synced (Put bytes ∷ acts) = few_synced acts
few_synced (Begin seq ∷ acts) = few_synced acts
few_synced (asks.Sync ∷ acts) = omega arith
few_synced (asks.Delete ∷ acts) = let k = few_synced acts in omega (arith, k)
few_synced (Cut len ∷ acts) = few_synced acts
few_synced (Found files ∷ acts) = omega arith
few_synced (Read place bytes ∷ acts) = few_synced acts
few_synced (asks.Unsynced ∷ acts) = few_synced acts

module _ (queue : LogQueue) (version : Version) where
  pub nothing_done : AreDoneWhole queue version [] []
  nothing_done = record {
    done = record {
      first = 0;
      begins = omega arith;
      put = (from_none 0, from_none 0);
      rising = tt;
      consecutive = tt;
      stays = omega arith;
      gone = tt;
      synced_gone = tt;
      undamaged = nothing_damaged queue version;
    };
    whole = from_none 0;
  }

  module _ (acts : List Act) (deeds : List Deed) where
    -- what the acts put
    pub is_put : (w : AreDoneWhole queue version acts deeds) → ArePutWhole queue version acts (in_files_from w.done.first (synced deeds)) (in_files_from w.done.first (written deeds))
    is_put w = record { put = w.done.put; whole = w.whole }

    pub synced_done : AreDoneWhole queue version acts deeds → AreDoneWhole queue version (asks.Sync ∷ acts) (Sync ∷ deeds)
    synced_done w =
        let d = w.done in
        record {
          done = record {
            first = d.first;
            begins = let k = d.begins in let low = synced_low deeds in omega (arith, k, low);
            put = steps.synced_all queue version acts (in_files_from d.first (synced deeds)) (in_files_from d.first (written deeds)) d.put;
            rising = d.rising;
            consecutive = d.consecutive;
            stays = d.stays;
            gone = d.gone;
            synced_gone = d.gone;
            undamaged = sync_undamaged queue version acts d.undamaged;
          };
          whole = w.whole;
        }

    pub begun_done : (seq : ℕ) → AreDoneWhole queue version acts deeds → IsSynced deeds → Follows seq (begun acts) → deleted deeds ≤ seq → AreDoneWhole queue version (Begin seq ∷ acts) deeds
    begun_done seq w i follows up =
        let d = w.done in
        let begins = d.begins in
        let low = synced_low deeds in
        let stays = d.stays in
        let few = few_synced acts in
        let same : numbers (begun acts) ++ seq ∷ [] ≡ numbers (begun acts ++ (seq, []) ∷ []) = sym (numbers_more (begun acts) seq) in
        let long : length (numbers (begun acts)) ≡ length (begun acts) = length-map (begun acts) (λ (f : NumberedBytes). f.0) in
        let longer : length (begun acts ++ (seq, []) ∷ []) ≡ length (begun acts) + 1 = length-append (begun acts) ((seq, []) ∷ []) in
        let put = steps.began queue version acts (in_files_from d.first (synced deeds)) (in_files_from d.first (written deeds)) seq (is_put w) in
        record {
          done = record {
            first = d.first;
            begins = d.begins;
            put = subst (λ (g : List Event). ArePut queue version (Begin seq ∷ acts) (in_files_from d.first g) (in_files_from d.first (written deeds))) (sym (all_synced deeds i)) put.put;
            rising = subst (AreRisingFrom d.first) same (rising_more d.first seq (begun acts) d.rising (follows_next seq (begun acts) follows) (omega (arith, begins, low, up)));
            consecutive = subst AreConsecutive same (consecutive_more seq (begun acts) d.consecutive follows);
            stays = omega (arith, stays, longer);
            gone = subst (AreBelow (deleted deeds) (deletions acts)) same (below_more (deleted deeds) (deletions acts) seq (numbers (begun acts)) d.gone (omega (arith, stays, long)) up);
            synced_gone = subst (AreBelow (synced_deleted deeds) (synced_deletions acts)) same
                (below_more (synced_deleted deeds) (synced_deletions acts) seq (numbers (begun acts)) d.synced_gone (omega (arith, stays, long, few)) (omega (arith, low, up)));
            undamaged = begin_undamaged queue version acts d.undamaged seq;
          };
          whole = put.whole;
        }

    pub deleted_done : (gone rest : List NumberedBytes) (oldest next : NumberedBytes) (n : ℕ) → AreDoneWhole queue version acts deeds → begun acts ≡ gone ++ oldest ∷ next ∷ rest
        → deletions acts ≡ length gone → oldest.0 < n → n ≤ next.0 → AreDoneWhole queue version (asks.Delete ∷ acts) (Delete n ∷ deeds)
    deleted_done gone rest oldest next n w is at low high =
        let d = w.done in
        let split : numbers (begun acts) ≡ numbers gone ++ oldest.0 ∷ next.0 ∷ numbers rest = ap numbers is ∙ map-append (λ (f : NumberedBytes). f.0) gone (oldest ∷ next ∷ rest) in
        let count : deletions acts ≡ length (numbers gone) = at ∙ sym (length-map gone (λ (f : NumberedBytes). f.0)) in
        let long : length (begun acts) ≡ length gone + suc (suc (length rest)) = ap length is ∙ length-append gone (oldest ∷ next ∷ rest) in
        let was : AreBelow (deleted deeds) (length (numbers gone)) (numbers gone ++ oldest.0 ∷ next.0 ∷ numbers rest) =
        subst (λ (c : ℕ). AreBelow (deleted deeds) c (numbers gone ++ oldest.0 ∷ next.0 ∷ numbers rest)) count (subst (AreBelow (deleted deeds) (deletions acts)) split d.gone) in
        let up = below_oldest (deleted deeds) (numbers gone) oldest.0 (next.0 ∷ numbers rest) was in
        let most : n ≡ max n (deleted deeds) = omega (arith, up, low) in
        let more = below_next n d.first (numbers gone) oldest.0 next.0 (numbers rest) (subst (AreRisingFrom d.first) split d.rising) low high in
        record {
          done = record {
            first = d.first;
            begins = d.begins;
            put = d.put;
            rising = d.rising;
            consecutive = d.consecutive;
            stays = omega (arith, long, at);
            gone = subst (λ (m : ℕ). AreBelow m (suc (deletions acts)) (numbers (begun acts))) most
                (subst (λ (c : ℕ). AreBelow n (suc c) (numbers (begun acts))) (sym count) (subst (AreBelow n (suc (length (numbers gone)))) (sym split) more));
            synced_gone = d.synced_gone;
            undamaged = delete_undamaged queue version acts d.undamaged;
          };
          whole = w.whole;
        }

    module _ (files : List NumberedBytes) (standing : List Event) (n : ℕ) where
      pub found_done : FilesHoldTorn queue version files (in_files_from n standing) → AreRisingFrom n (numbers files) → AreConsecutive (numbers files) → AreDone queue version (Found files ∷ acts) (Crash standing n ∷ deeds)
      found_done held rising consecutive = record {
        first = n;
        begins = omega arith;
        put = (refl, held);
        rising = rising;
        consecutive = consecutive;
        stays = omega arith;
        gone = below_none n (numbers files) rising;
        synced_gone = below_none n (numbers files) rising;
        undamaged = found_undamaged queue version acts files;
      }

      pub found_whole : FilesHold queue version files (in_files_from n standing) → AreRisingFrom n (numbers files) → AreConsecutive (numbers files) → AreDoneWhole queue version (Found files ∷ acts) (Crash standing n ∷ deeds)
      unfolding found_done
      found_whole held rising consecutive = record { done = found_done (whole_torn queue version files (in_files_from n standing) held) rising consecutive; whole = held }

    module _ (place : FileBlockHandle) (bytes : List ℕ) where
      pub read_done : AreDone queue version acts deeds → AreDone queue version (Read place bytes ∷ acts) deeds
      read_done d = record {
        first = d.first;
        begins = d.begins;
        put = d.put;
        rising = d.rising;
        consecutive = d.consecutive;
        stays = d.stays;
        gone = d.gone;
        synced_gone = d.synced_gone;
        undamaged = read_undamaged queue version acts d.undamaged place bytes;
      }

      pub read_whole : AreDoneWhole queue version acts deeds → AreDoneWhole queue version (Read place bytes ∷ acts) deeds
      unfolding read_done
      read_whole w = record { done = read_done w.done; whole = w.whole }

    pub unsynced_done : AreDone queue version acts deeds → AreDone queue version (asks.Unsynced ∷ acts) deeds
    unsynced_done d = record {
      first = d.first;
      begins = d.begins;
      put = d.put;
      rising = d.rising;
      consecutive = d.consecutive;
      stays = d.stays;
      gone = d.gone;
      synced_gone = d.synced_gone;
      undamaged = unsynced_undamaged queue version acts d.undamaged;
    }

    pub unsynced_whole : AreDoneWhole queue version acts deeds → AreDoneWhole queue version (asks.Unsynced ∷ acts) deeds
    unfolding unsynced_done
    unsynced_whole w = record { done = unsynced_done w.done; whole = w.whole }

    pub cut_done : (closed : List NumberedBytes) (last : NumberedBytes) (at : ℕ) → AreDone queue version acts deeds → begun acts ≡ closed ++ last ∷ [] → StopsAt (whole_file queue version last) at
        → AreDoneWhole queue version (Cut at ∷ acts) deeds
    cut_done closed last at d is stops =
        let put = steps.cut_off queue version acts (in_files_from d.first (synced deeds)) (in_files_from d.first (written deeds)) closed last at d.put is stops in
        let same : numbers (begun acts) ≡ numbers (cut_last at (begun acts)) = sym (numbers_on_last (λ (b : List ℕ). take at b) (begun acts)) in
        let stays = d.stays in
        let long = length_on_last (λ (b : List ℕ). take at b) (begun acts) in
        record {
          done = record {
            first = d.first;
            begins = d.begins;
            put = put.put;
            rising = subst (AreRisingFrom d.first) same d.rising;
            consecutive = subst AreConsecutive same d.consecutive;
            stays = omega (arith, stays, long);
            gone = subst (AreBelow (deleted deeds) (deletions acts)) same d.gone;
            synced_gone = subst (AreBelow (synced_deleted deeds) (synced_deletions acts)) same d.synced_gone;
            undamaged = cut_undamaged queue version acts d.undamaged at (in_files_from d.first (written deeds)) put.whole;
          };
          whole = put.whole;
        }

    -- the last file's number is no lower than those of all others
    module _ (closed : List NumberedBytes) (last : NumberedBytes) (w : AreDoneWhole queue version acts deeds) (is : begun acts ≡ closed ++ last ∷ []) where
      abbrev d : AreDone queue version acts deeds
      d = w.done

      split : numbers (begun acts) ≡ numbers closed ++ last.0 ∷ []
      split = ap numbers is ∙ map-append (λ (f : NumberedBytes). f.0) closed (last ∷ [])

      risen : AreRisingFrom d.first (numbers closed ++ last.0 ∷ [])
      risen = subst (AreRisingFrom d.first) split d.rising

      pub first_up : d.first ≤ last.0
      first_up = rising_last d.first (numbers closed) last.0 risen

      pub gone_up : deleted deeds ≤ last.0
      gone_up =
          let stays = d.stays in
          let long = ap length is ∙ length-append closed (last ∷ []) in
          let same = length-map closed (λ (f : NumberedBytes). f.0) in
          below_last (deleted deeds) d.first (deletions acts) (numbers closed) last.0 (subst (AreBelow (deleted deeds) (deletions acts)) split d.gone) risen (omega (arith, stays, long, same))

      pub written_up : last_from 0 (written deeds) ≤ last.0
      written_up =
          let held = subst (λ (fs : List NumberedBytes). FilesHold queue version fs (in_files_from d.first (written deeds))) is w.whole in
          last_low last.0 0 (written deeds) (omega arith)
          (low_all d.first last.0 (written deeds) first_up (files_up_to queue version d.first closed last (in_files_from d.first (written deeds)) risen held))

pub last_next : LastFileIsNext
last_next queue version acts deeds closed last e w is file in_file status =
    let same : e.file.seq ≡ last.0 = ap (λ (id : _). id.seq) file in
    let follows = written_up queue version acts deeds closed last w is in
    let stays = gone_up queue version acts deeds closed last w is in
    record {
      queue_is = ap (λ (id : _). id.queue) file;
      follows = omega (arith, same, follows);
      stays = omega (arith, same, stays);
      in_file = in_file;
      status = status;
    }

pub written_done : WrittenBatchIsDone
written_done queue version acts deeds closed last handle items entry_bytes batch in_range in_bytes some short file place is w =
    let d = w.done in
    let bytes = log_batch_bytes (signature_in version last.0) items entry_bytes in
    let event = written_event (whole_file queue version last) handle items entry_bytes in
    let same : numbers (begun acts) ≡ numbers (put_behind bytes (begun acts)) = sym (numbers_on_last (λ (b : List ℕ). b ++ bytes) (begun acts)) in
    let stays = d.stays in
    let long = length_on_last (λ (b : List ℕ). b ++ bytes) (begun acts) in
    let all = sym (from_more d.first (written deeds) event (first_up queue version acts deeds closed last w is)) in
    let put = steps.written queue version acts (in_files_from d.first (synced deeds)) (in_files_from d.first (written deeds)) closed last handle items entry_bytes
    batch in_range in_bytes some short file place is (is_put queue version acts deeds w) in
    record {
      done = record {
        first = d.first;
        begins = d.begins;
        put = subst (λ (h : List Event). ArePut queue version (Put bytes ∷ acts) (in_files_from d.first (synced deeds)) h) all put.put;
        rising = subst (AreRisingFrom d.first) same d.rising;
        consecutive = subst AreConsecutive same d.consecutive;
        stays = omega (arith, stays, long);
        gone = subst (AreBelow (deleted deeds) (deletions acts)) same d.gone;
        synced_gone = subst (AreBelow (synced_deleted deeds) (synced_deletions acts)) same d.synced_gone;
        undamaged = put_is_undamaged queue version acts d.undamaged bytes _ _ put.put;
      };
      whole = subst (λ (h : List Event). FilesHold queue version (put_behind bytes (begun acts)) h) all put.whole;
    }
