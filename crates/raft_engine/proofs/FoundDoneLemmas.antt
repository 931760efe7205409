-- What found files do to a queue, once they are ready.
use Rattle.raft_engine.proofs.Common.{◌≡◌, ◌⊎◌, inl, inr, ℕ, ◌<◌, ◌≤◌, Some, List, [], ◌∷◌, ◌++◌, length, take, refl, sym, ap, ◌∙◌, subst, arith, LogQueue, Append, Rewrite, Version, Event, Act, Ask, Begin, Cut, Found, NumberedBytes, acts_on, ask, begun, cut_last, deletions}
use Rattle.raft_engine.proofs.Common.{last_of, HoldsFrom, IsUnreadableAt, FilesHold, whole_file, Deed, Crash, deleted, in_files_from, IsSynced, AreConsecutive, AreDone, AreDoneWhole, AreRisingFrom, Follows, numbers, ArePut, ArePutWhole, FilesHoldTorn, StopsAt, files_high}
use Rattle.raft_engine.proofs.Common.{consecutive_rise, one_file, whole_torn, IsCut, IsFirstBegun, IsLastOfOther, IsTornFrom, IsUntorn, IsLastSound, AreAllDone, AreWellPut}
use Rattle.raft_engine.specs.FoundFiles.{IsReady}
use Rattle.raft_engine.proofs.FoundLemmas.{stands_inside}
use Rattle.raft_engine.proofs.ReadyLemmas.{no_last}
use Rattle.raft_engine.proofs.WellPutLemmas.{begin_well, cut_well, found_well}

-- ---- what a queue holds before and after

-- a file without bytes holds no batch
none_held : (queue : LogQueue) (version : Version) (h : List Event) → FilesHold queue version ((1, []) ∷ []) h → h ≡ []
none_held queue version h held = go h (one_file queue version (1, []) h held)
  where
    go : (h : List Event) → HoldsFrom (whole_file queue version (1, [])) 0 h → h ≡ []
    go [] held = refl
    go (e ∷ h) held = absurd (omega (arith, stands_inside (whole_file queue version (1, [])) 0 held.1.0 e.items held.1.1))

-- where the last file is cut, it held the same batches and a torn tail
cut_torn : (queue : LogQueue) (version : Version) (closed : List NumberedBytes) (last : NumberedBytes) (at : ℕ) (h : List Event) →
    at < length last.1 → IsUnreadableAt (whole_file queue version last) at
    → FilesHold queue version (closed ++ (last.0, take at last.1) ∷ []) h → FilesHoldTorn queue version (closed ++ last ∷ []) h
cut_torn queue version [] last at h less none held = record {
  at = at;
  inside = omega (arith, less);
  held = one_file queue version (last.0, take at last.1) h held;
  torn = none;
}
cut_torn queue version (c ∷ []) last at h less none held = record {
  first = held.first;
  rest = held.rest;
  first_held = held.first_held;
  rest_held = cut_torn queue version [] last at held.rest less none held.rest_held;
  split = held.split;
}
cut_torn queue version (c ∷ d ∷ closed) last at h less none held = record {
  first = held.first;
  rest = held.rest;
  first_held = held.first_held;
  rest_held = cut_torn queue version (d ∷ closed) last at held.rest less none held.rest_held;
  split = held.split;
}

unreadable : (queue : LogQueue) (version : Version) (last : NumberedBytes) (at : ℕ) → IsTornFrom (whole_file queue version last) (Some at) → IsUnreadableAt (whole_file queue version last) at
unreadable queue version last at t = go t.0.stops
  where
    go : (at ≡ length last.1) ⊎ IsUnreadableAt (whole_file queue version last) at → IsUnreadableAt (whole_file queue version last) at
    go (inl e) = absurd (let less = t.1 in omega (arith, e, less))
    go (inr none) = none

-- ---- the acts of a queue

acts_more : (queue : LogQueue) (act : Act) (asks : List Ask) → acts_on queue (ask queue act ∷ asks) ≡ act ∷ acts_on queue asks
acts_more Append act asks = refl
acts_more Rewrite act asks = refl

-- nothing more is asked, or one act more
pub one_ask : (queue : LogQueue) (version : Version) (asks later : List Ask) (files left : List NumberedBytes) → IsReady queue version asks later files left
    → (later ≡ asks) ⊎ ((act : Act) × (later ≡ ask queue act ∷ asks))
one_ask queue version asks later files left r = go r.ready
  where
    go : IsFirstBegun queue asks later files left ⊎ (IsUntorn queue version asks later files left ⊎ IsCut queue version asks later files left) → (later ≡ asks) ⊎ ((act : Act) × (later ≡ ask queue act ∷ asks))
    go (inl b) = inr (Begin 1, b.asked)
    go (inr (inl u)) = inl u.asked
    go (inr (inr c)) = inr (Cut c.at, c.asked)

-- what was found, and what is left, holds the same batches, which are those of a crash
pub record IsFoundDone (queue : LogQueue) (version : Version) (acts : List Act) (h : List Event) : Type 0 where
  pub done : AreDone queue version acts (Crash h 0 ∷ [])
  pub put : ArePut queue version acts h h
  pub well : AreWellPut queue version acts

pub record AreReadyDone (queue : LogQueue) (version : Version) (files left : List NumberedBytes) (later : List Act) (h : List Event) : Type 0 where
  pub torn : FilesHoldTorn queue version files h
  pub before : IsFoundDone queue version (Found files ∷ []) h
  pub after : AreAllDone queue version later (Crash h 0 ∷ [])
  pub are : begun later ≡ left
  pub none : deletions later ≡ 0

module _
    (found : (queue : LogQueue) (version : Version) (acts : List Act) (deeds : List Deed) (files : List NumberedBytes) (standing : List Event) (n : ℕ)
    → FilesHoldTorn queue version files (in_files_from n standing) → AreRisingFrom n (numbers files) → AreConsecutive (numbers files) → AreDone queue version (Found files ∷ acts) (Crash standing n ∷ deeds))
    (found_whole : (queue : LogQueue) (version : Version) (acts : List Act) (deeds : List Deed) (files : List NumberedBytes) (standing : List Event) (n : ℕ)
    → FilesHold queue version files (in_files_from n standing) → AreRisingFrom n (numbers files) → AreConsecutive (numbers files) → AreDoneWhole queue version (Found files ∷ acts) (Crash standing n ∷ deeds))
    (cut : (queue : LogQueue) (version : Version) (acts : List Act) (deeds : List Deed) (closed : List NumberedBytes) (last : NumberedBytes) (at : ℕ)
    → AreDone queue version acts deeds → begun acts ≡ closed ++ last ∷ [] → StopsAt (whole_file queue version last) at → AreDoneWhole queue version (Cut at ∷ acts) deeds)
    (begin : (queue : LogQueue) (version : Version) (acts : List Act) (deeds : List Deed) (seq : ℕ)
    → AreDoneWhole queue version acts deeds → IsSynced deeds → Follows seq (begun acts) → deleted deeds ≤ seq → AreDoneWhole queue version (Begin seq ∷ acts) deeds)
    (put_found : (queue : LogQueue) (version : Version) (acts : List Act) (files : List NumberedBytes) (h : List Event)
    → FilesHoldTorn queue version files h → ArePut queue version (Found files ∷ acts) h h)
    (put_cut : (queue : LogQueue) (version : Version) (acts : List Act) (synced h : List Event) (closed : List NumberedBytes) (last : NumberedBytes) (at : ℕ)
    → ArePut queue version acts synced h → begun acts ≡ closed ++ last ∷ [] → StopsAt (whole_file queue version last) at → ArePutWhole queue version (Cut at ∷ acts) synced h)
    (put_begin : (queue : LogQueue) (version : Version) (acts : List Act) (synced h : List Event) (seq : ℕ)
    → ArePutWhole queue version acts synced h → ArePutWhole queue version (Begin seq ∷ acts) h h) where
  torn_done : (queue : LogQueue) (version : Version) (files : List NumberedBytes) (h : List Event) → AreConsecutive (numbers files) → ¬ (IsLastOfOther queue version files) → IsLastSound queue version files → FilesHoldTorn queue version files h
      → IsFoundDone queue version (Found files ∷ []) h
  torn_done queue version files h consecutive none sound held = record {
    done = found queue version [] [] files h 0 (subst (FilesHoldTorn queue version files) (sym (files_high queue version 0 files h (consecutive_rise (numbers files) consecutive) held)) held) (consecutive_rise (numbers files) consecutive) consecutive;
    put = put_found queue version [] files h held;
    well = found_well queue version [] files none sound;
  }

  whole_done : (queue : LogQueue) (version : Version) (files : List NumberedBytes) (h : List Event) → AreConsecutive (numbers files) → ¬ (IsLastOfOther queue version files) → IsLastSound queue version files → FilesHold queue version files h
      → AreAllDone queue version (Found files ∷ []) (Crash h 0 ∷ [])
  whole_done queue version files h consecutive none sound held =
      let torn = whole_torn queue version files h held in record {
        done = found_whole queue version [] [] files h 0 (subst (FilesHold queue version files) (sym (files_high queue version 0 files h (consecutive_rise (numbers files) consecutive) torn)) held) (consecutive_rise (numbers files) consecutive) consecutive;
        put = record { put = put_found queue version [] files h torn; whole = held };
        well = found_well queue version [] files none sound;
      }

  -- a first file is begun
  first_ready : (queue : LogQueue) (version : Version) (h : List Event) → FilesHold queue version ((1, []) ∷ []) h → AreReadyDone queue version [] ((1, []) ∷ []) (Begin 1 ∷ Found [] ∷ []) h
  first_ready queue version h held =
      let none : h ≡ [] = none_held queue version h held in
      let no_other : ¬ (IsLastOfOther queue version []) = λ o. no_last o.closed o.last o.split in
      let sound : IsLastSound queue version [] = λ closed last e. absurd (no_last closed last e) in
      let all = whole_done queue version [] h tt no_other sound none in record {
        torn = none;
        before = torn_done queue version [] h tt no_other sound none;
        after = record {
          done = begin queue version (Found [] ∷ []) (Crash h 0 ∷ []) 1 all.done tt tt (omega arith);
          put = put_begin queue version (Found [] ∷ []) h h 1 all.put;
          well = begin_well queue version (Found [] ∷ []) 1 all.well;
        };
        are = refl;
        none = refl;
      }

  -- there is no torn tail
  whole_ready : (queue : LogQueue) (version : Version) (files : List NumberedBytes) (h : List Event) → AreConsecutive (numbers files) → ¬ (IsLastOfOther queue version files) → IsLastSound queue version files → FilesHold queue version files h
      → AreReadyDone queue version files files (Found files ∷ []) h
  whole_ready queue version files h consecutive no_other sound held =
      let torn = whole_torn queue version files h held in record {
        torn = torn;
        before = torn_done queue version files h consecutive no_other sound torn;
        after = whole_done queue version files h consecutive no_other sound held;
        are = refl;
        none = refl;
      }

  -- a torn tail is cut off
  cut_ready : (queue : LogQueue) (version : Version) (closed : List NumberedBytes) (last : NumberedBytes) (at : ℕ) (h : List Event) → AreConsecutive (numbers (closed ++ last ∷ []))
      → ¬ (IsLastOfOther queue version (closed ++ last ∷ [])) → IsLastSound queue version (closed ++ last ∷ []) → IsTornFrom (whole_file queue version last) (Some at)
      → FilesHold queue version (cut_last at (closed ++ last ∷ [])) h → AreReadyDone queue version (closed ++ last ∷ []) (cut_last at (closed ++ last ∷ [])) (Cut at ∷ Found (closed ++ last ∷ []) ∷ []) h
  cut_ready queue version closed last at h consecutive no_other sound t held =
      let files = closed ++ last ∷ [] in
      let torn : FilesHoldTorn queue version files h = cut_torn queue version closed last at h t.1 (unreadable queue version last at t)
      (subst (λ (l : List NumberedBytes). FilesHold queue version l h) (last_of (λ old. take at old) closed last) held) in
      let before = torn_done queue version files h consecutive no_other sound torn in record {
        torn = torn;
        before = before;
        after = record {
          done = cut queue version (Found files ∷ []) (Crash h 0 ∷ []) closed last at before.done refl t.0;
          put = put_cut queue version (Found files ∷ []) h h closed last at before.put refl t.0;
          well = cut_well queue version (Found files ∷ []) at h torn held before.well;
        };
        are = refl;
        none = refl;
      }

  pub ready_done : (queue : LogQueue) (version : Version) (asks later : List Ask) (files left : List NumberedBytes) → acts_on queue asks ≡ Found files ∷ [] → IsReady queue version asks later files left
      → (h : List Event) → FilesHold queue version left h → AreReadyDone queue version files left (acts_on queue later) h
  ready_done queue version asks later files left acts r h held = go r.ready
    where
      more : (act : Act) → later ≡ ask queue act ∷ asks → act ∷ Found files ∷ [] ≡ acts_on queue later
      more act e = sym (ap (acts_on queue) e ∙ acts_more queue act asks ∙ ap (λ (l : List Act). act ∷ l) acts)

      go : IsFirstBegun queue asks later files left ⊎ (IsUntorn queue version asks later files left ⊎ IsCut queue version asks later files left) → AreReadyDone queue version files left (acts_on queue later) h
      go (inl b) =
          subst (λ (l : List Act). AreReadyDone queue version files left l h) (more (Begin 1) b.asked)
          (subst (λ (f : List NumberedBytes). AreReadyDone queue version f left (Begin 1 ∷ Found f ∷ []) h) (sym b.none)
          (subst (λ (f : List NumberedBytes). AreReadyDone queue version [] f (Begin 1 ∷ Found [] ∷ []) h) (sym b.first)
          (first_ready queue version h (subst (λ (f : List NumberedBytes). FilesHold queue version f h) b.first held))))
      go (inr (inl u)) =
          subst (λ (l : List Act). AreReadyDone queue version files left l h) (sym (ap (acts_on queue) u.asked ∙ acts))
          (subst (λ (f : List NumberedBytes). AreReadyDone queue version files f (Found files ∷ []) h) (sym u.same)
          (whole_ready queue version files h r.consecutive r.of_version r.sound (subst (λ (f : List NumberedBytes). FilesHold queue version f h) u.same held)))
      go (inr (inr c)) =
          subst (λ (l : List Act). AreReadyDone queue version files left l h) (more (Cut c.at) c.asked)
          (subst (λ (f : List NumberedBytes). AreReadyDone queue version files f (Cut c.at ∷ Found files ∷ []) h) (sym c.cut)
          (subst (λ (f : List NumberedBytes). AreReadyDone queue version f (cut_last c.at f) (Cut c.at ∷ Found f ∷ []) h) (sym c.split)
          (cut_ready queue version c.closed c.last c.at h (subst (λ (f : List NumberedBytes). AreConsecutive (numbers f)) c.split r.consecutive)
          (subst (λ (f : List NumberedBytes). ¬ (IsLastOfOther queue version f)) c.split r.of_version) (subst (IsLastSound queue version) c.split r.sound) c.torn
          (subst (λ (f : List NumberedBytes). FilesHold queue version (cut_last c.at f) h) c.split (subst (λ (f : List NumberedBytes). FilesHold queue version f h) c.cut held)))))
