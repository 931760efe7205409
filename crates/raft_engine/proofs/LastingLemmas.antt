-- What is done to both queues lasts.
use Rattle.raft_engine.proofs.Common.{◌≡◌, inl, inr, List, [], ◌∷◌, ◌++◌, refl, sym, ap, ◌∙◌, subst, append_assoc, append-nil, LogQueue, Append, Rewrite, Version, Event, Act, Ask, Begin, Cut, Found, NumberedBytes, Put, Read, Sync, Unsynced, acts_on, begun, IsLeftOf, Deed, Write}
use Rattle.raft_engine.proofs.Common.{Crash, in_files_from, written, FilesEndWithin, FoundEndWithin, ArePut, IsPrefixWith, left_within, AreUndamaged, FilesHoldTorn, FoundUndamaged, one_reading, whole_torn, left_undamaged, IsUnforgedLeftOf, AreTold, AreToldByFiles, AreDone}
use Rattle.raft_engine.proofs.Common.{HoldLeft, AreCut, BatchesJoin, AreSynced, before_sync, WhatIsDoneLasts, rows_left}
use Rattle.raft_files.specs.Asks as asks
use Rattle.raft_engine_laws.specs.Crashes as queue_deeds
use Rattle.raft_engine_laws.specs.Crashes.{Delete, MayStand}
use Rattle.raft_engine.proofs.LeftBytes.{left_tells}
use Rattle.raft_engine.proofs.OfVersionLemmas.{left_not_other}
use Rattle.raft_engine.proofs.SealedLemmas.{left_sound}
use Rattle.raft_engine.proofs.WholeLemmas.{whole_of}

-- the synced batches come first
pub synced_prefix : (deeds : List Deed) → (more : List Event) × (written deeds ≡ queue_deeds.synced deeds ++ more)
synced_prefix [] = ([], refl)
synced_prefix (Write e ∷ earlier) =
    let p = synced_prefix earlier in (p.0 ++ e ∷ [], ap (λ (h : List Event). h ++ e ∷ []) p.1 ∙ append_assoc (queue_deeds.synced earlier) p.0 (e ∷ []))
synced_prefix (queue_deeds.Sync ∷ earlier) = ([], sym (append-nil (written earlier)))
synced_prefix (Delete n ∷ earlier) = synced_prefix earlier
synced_prefix (Crash standing n ∷ earlier) = ([], sym (append-nil standing))

-- what may stand of a queue is a prefix of what was written, with the synced batches at least
stands_with_synced : (deeds : List Deed) (h : List Event) → MayStand deeds h → IsPrefixWith (queue_deeds.synced deeds) (written deeds) h
stands_with_synced [] h s = record { more = []; lost = []; least = s; split = sym (ap (λ (l : List Event). l ++ []) s) }
stands_with_synced (Write e ∷ earlier) h (inl s) =
    let f = stands_with_synced earlier h s in record {
      more = f.more;
      lost = f.lost ++ e ∷ [];
      least = f.least;
      split = ap (λ (l : List Event). l ++ e ∷ []) f.split ∙ append_assoc h f.lost (e ∷ []);
    }
stands_with_synced (Write e ∷ earlier) h (inr s) =
    let p = synced_prefix (Write e ∷ earlier) in record {
      more = p.0;
      lost = [];
      least = s ∙ p.1;
      split = sym s ∙ sym (append-nil h);
    }
stands_with_synced (queue_deeds.Sync ∷ earlier) h s = record { more = []; lost = []; least = s ∙ sym (append-nil (written earlier)); split = sym s ∙ sym (append-nil h) }
stands_with_synced (Delete n ∷ earlier) h s = stands_with_synced earlier h s
stands_with_synced (Crash standing n ∷ earlier) h s = record { more = []; lost = []; least = s ∙ sym (append-nil standing); split = sym s ∙ sym (append-nil h) }

-- the synced batches are those that the files held at the last sync
pub held_at_sync : (queue : LogQueue) (version : Version) (acts : List Act) (synced h : List Event) → ArePut queue version acts synced h → FilesHoldTorn queue version (begun (before_sync acts)) synced
held_at_sync queue version [] synced h p = p.0
held_at_sync queue version (Put bytes ∷ earlier) synced h p = held_at_sync queue version earlier synced p.old p.before
held_at_sync queue version (Begin seq ∷ earlier) synced h p =
    subst (λ (l : List Event). FilesHoldTorn queue version (begun earlier) l) (sym p.0) (whole_torn queue version (begun earlier) h p.1)
held_at_sync queue version (Sync ∷ earlier) synced h p = subst (λ (l : List Event). FilesHoldTorn queue version (begun earlier) l) (sym p.0) p.1
held_at_sync queue version (asks.Delete ∷ earlier) synced h p = held_at_sync queue version earlier synced h p
held_at_sync queue version (Cut len ∷ earlier) synced h p = held_at_sync queue version earlier synced h p.0
held_at_sync queue version (Found files ∷ earlier) synced h p = subst (λ (l : List Event). FilesHoldTorn queue version files l) (sym p.0) p.1
held_at_sync queue version (Read place bytes ∷ earlier) synced h p = held_at_sync queue version earlier synced h p
held_at_sync queue version (Unsynced ∷ earlier) synced h p = held_at_sync queue version earlier synced h p

-- where nothing was put since, all is synced
pub all_synced : (queue : LogQueue) (version : Version) (acts : List Act) (synced h : List Event) → ArePut queue version acts synced h → AreSynced acts → synced ≡ h
all_synced queue version [] synced h p s = p.0 ∙ sym p.1
all_synced queue version (Put bytes ∷ earlier) synced h p s = absurd s
all_synced queue version (Begin seq ∷ earlier) synced h p s = p.0
all_synced queue version (Sync ∷ earlier) synced h p s = p.0
all_synced queue version (asks.Delete ∷ earlier) synced h p s = all_synced queue version earlier synced h p s
all_synced queue version (Cut len ∷ earlier) synced h p s = all_synced queue version earlier synced h p.0 s
all_synced queue version (Found files ∷ earlier) synced h p s = p.0
all_synced queue version (Read place bytes ∷ earlier) synced h p s = all_synced queue version earlier synced h p s
all_synced queue version (Unsynced ∷ earlier) synced h p s = all_synced queue version earlier synced h p s

pub done_lasts : ((queue : LogQueue) (version : Version) (asked : List Ask) (deeds : List Deed) (files : List NumberedBytes)
    → AreDone queue version (acts_on queue asked) deeds → IsLeftOf queue asked files → HoldLeft queue version deeds files)
    → ((queue : LogQueue) (version : Version) (acts : List Act) (synced h : List Event)
    → ArePut queue version acts synced h → FilesHoldTorn queue version (begun acts) h)
    → ((queue : LogQueue) (version : Version) (asked : List Ask) (deeds : List Deed) (files : List NumberedBytes) (read : List Event)
    → AreDone queue version (acts_on queue asked) deeds → IsUnforgedLeftOf queue version asked files → FilesHoldTorn queue version files read → HoldLeft queue version deeds files)
    → WhatIsDoneLasts
done_lasts left all any content version base asked appended rewritten append_done rewrite_done put well rows lose join = (
  record {
    batches = written appended;
    synced = queue_deeds.synced appended;
    batches_held = all Append version (acts_on Append asked) (queue_deeds.synced appended) (written appended) put;
    synced_held = held_at_sync Append version (acts_on Append asked) (queue_deeds.synced appended) (written appended) put;
    put = put;
    stays = append_done.stays;
    left = λ append rewrite left_append left_rewrite.
        let a = left Append version asked appended append append_done left_append in
        let r = left Rewrite version asked rewritten rewrite rewrite_done left_rewrite in
        let ok = lose.readable a.standing a.left r.standing r.left a.is_left r.is_left in (
          a.standing,
          stands_with_synced appended a.standing a.is_left.stands,
          record {
            appended = a.left;
            rewritten = r.left;
            append_held = a.held;
            rewrite_held = r.held;
            append_consecutive = a.consecutive;
            rewrite_consecutive = r.consecutive;
            append_sound = ok.0;
            rewrite_sound = ok.1;
            apart = ok.2;
            rows = rows_left rewritten r.standing r.left rows r.is_left;
            found = λ tables cleaned reading. lose.found a.standing a.left r.standing r.left a.is_left r.is_left tables cleaned reading;
          },
        );
    left_any = λ append rewrite left_append left_rewrite append_read rewrite_read append_is rewrite_is.
        let a = any Append version asked appended append append_read append_done left_append append_is in
        let r = any Rewrite version asked rewritten rewrite rewrite_read rewrite_done left_rewrite rewrite_is in
        let ok = lose.readable a.standing a.left r.standing r.left a.is_left r.is_left in (
          a.standing,
          stands_with_synced appended a.standing a.is_left.stands,
          record {
            appended = a.left;
            rewritten = r.left;
            append_held = a.held;
            rewrite_held = r.held;
            append_consecutive = a.consecutive;
            rewrite_consecutive = r.consecutive;
            append_sound = ok.0;
            rewrite_sound = ok.1;
            apart = ok.2;
            rows = rows_left rewritten r.standing r.left rows r.is_left;
            found = λ tables cleaned reading. lose.found a.standing a.left r.standing r.left a.is_left r.is_left tables cleaned reading;
          },
        );
    told = told_of;
    of_version = λ queue files l. left_not_other queue version asked files (well queue).of_version l;
    sealed = λ queue files l. left_sound queue version asked files (well queue).sealed l;
    undamaged = undamaged_of;
    ends = ends_of;
    joined = λ found append rewrite left_append left_rewrite append_read rewrite_read append_held rewrite_held.
        let a = left Append version asked appended append append_done left_append in
        let r = left Rewrite version asked rewritten rewrite rewrite_done left_rewrite in
        subst (λ (h : List Event). BatchesJoin h rewrite_read) (one_reading Append version append a.left append_read a.held append_held)
        (subst (λ (h : List Event). BatchesJoin a.left h) (one_reading Rewrite version rewrite r.left rewrite_read r.held rewrite_held)
        (join found a.standing a.left r.standing r.left a.is_left r.is_left));
    whole =
        let a = whole_of Append version asked appended append_done in
        let r = whole_of Rewrite version asked rewritten rewrite_done in
        let ok = lose.readable (written appended) a.left (written rewritten) r.left a.is_left r.is_left in
        record {
          appended = a.left;
          rewritten = r.left;
          append_held = a.held;
          rewrite_held = r.held;
          append_consecutive = a.consecutive;
          rewrite_consecutive = r.consecutive;
          append_sound = ok.0;
          rewrite_sound = ok.1;
          apart = ok.2;
          rows = rows_left rewritten (written rewritten) r.left rows r.is_left;
          found = λ tables cleaned reading. lose.found (written appended) a.left (written rewritten) r.left a.is_left r.is_left tables cleaned reading;
        };
    all = λ s. all_synced Append version (acts_on Append asked) (queue_deeds.synced appended) (written appended) put s;
  },
  refl,
)
  where
    done_ends : (queue : LogQueue) (deeds : List Deed) → AreDone queue version (acts_on queue asked) deeds → FoundEndWithin queue version (acts_on queue asked)
        → (files : List NumberedBytes) → IsLeftOf queue asked files → FilesEndWithin queue version files
    done_ends queue deeds d found files l =
        left_within queue version asked (in_files_from d.first (queue_deeds.synced deeds)) (in_files_from d.first (written deeds)) files d.put d.stays ((well queue).within found) l

    undamaged_of : (queue : LogQueue) → FoundUndamaged queue version (acts_on queue asked) → (files : List NumberedBytes) → IsLeftOf queue asked files → AreUndamaged queue version files
    undamaged_of Append found files l = left_undamaged Append version asked files append_done.undamaged found l
    undamaged_of Rewrite found files l = left_undamaged Rewrite version asked files rewrite_done.undamaged found l

    ends_of : (queue : LogQueue) → FoundEndWithin queue version (acts_on queue asked) → (files : List NumberedBytes) → IsLeftOf queue asked files → FilesEndWithin queue version files
    ends_of Append found files l = done_ends Append appended append_done found files l
    ends_of Rewrite found files l = done_ends Rewrite rewritten rewrite_done found files l

    told_of : (queue : LogQueue) → AreTold queue (acts_on queue asked) content → (files cut : List NumberedBytes) → IsLeftOf queue asked files → AreCut queue version files cut → AreToldByFiles queue cut content
    told_of Append told files cut l c =
        let d = append_done in
        left_tells Append version asked (in_files_from d.first (queue_deeds.synced appended)) (in_files_from d.first (written appended)) d.first d.put d.rising content told.0 files cut l c
    told_of Rewrite told files cut l c =
        let d = rewrite_done in
        left_tells Rewrite version asked (in_files_from d.first (queue_deeds.synced rewritten)) (in_files_from d.first (written rewritten)) d.first d.put d.rising content told.0 files cut l c
