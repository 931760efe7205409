-- An opening of files in which nothing is refused fails for few reasons.
use Rattle.raft_engine.proofs.Common.{◌≡◌, ◌≢◌, ◌⊎◌, inl, inr, ◌<◌, ◌^◌, List, [], ◌∷◌, ◌++◌, length, take, refl, sym, ap, ◌∙◌, subst, arith, length-append, Error, LogQueue, Append, Rewrite, Version, Event, IsSmall, IsSoundIn, Ask, NumberedBytes, cut_last, last_of}
use Rattle.raft_engine.proofs.Common.{FilesCannotBeRead, FilesHold, bytes_of_files, numbers, FilesHoldTorn, AreGroupsInRows, AreAccepted, IsCut, IsFirstBegun, IsFoundFault, IsUntorn, OpeningsOverSucceed, OpeningsSucceed, IsLastSound, IsLastUnsoundAs, RecoveryMode, AreUngroupedAs}
use Rattle.raft_engine.proofs.Common.{AreUnrecoveredAs, IsOpeningRefusal, IsReadingFault, IsRecoveryFault, IsTooLongAs, Refusal}
use Rattle.raft_base.specs.declared.errors.Error.TheVariants as errors
use Rattle.raft_engine.specs.FoundFiles.{IsReady}
use Rattle.raft_engine.proofs.FileNumbers.{not_together}
use Rattle.raft_engine.proofs.UnreadLemmas.{stops_unread}

-- ---- refusals

pub memory_or : (e : Error) → (e ≡ errors.Memory) ⊎ (e ≢ errors.Memory)
memory_or (errors.InvalidArgument text) = inr (λ h. absurd cc)
memory_or (errors.Corruption text) = inr (λ h. absurd cc)
memory_or (errors.Io fault) = inr (λ h. absurd cc)
memory_or (errors.Codec fault) = inr (λ h. absurd cc)
memory_or (errors.Message fault) = inr (λ h. absurd cc)
memory_or (errors.TryAgain text) = inr (λ h. absurd cc)
memory_or errors.EntryCompacted = inr (λ h. absurd cc)
memory_or errors.EntryNotFound = inr (λ h. absurd cc)
memory_or errors.Full = inr (λ h. absurd cc)
memory_or (errors.Other text) = inr (λ h. absurd cc)
memory_or errors.Failed = inr (λ h. absurd cc)
memory_or errors.Memory = inl refl

append_differs : Append ≡ Rewrite → ⊥
append_differs e = absurd cc

-- where the blocks of the last rewrite file are sound none is unsound
not_unsound : (queue : LogQueue) (version : Version) (files : List NumberedBytes) (e : Error) → IsLastSound queue version files → ¬ (IsLastUnsoundAs queue version files e)
not_unsound Append version files e sound u = append_differs u.of_rewrite
not_unsound Rewrite version files e sound u =
    let b = u.unsound.block in
    b.unsound (sound u.closed u.last u.split b.at b.next b.items b.batches b.batch)

-- files that can be made ready aren't refused
no_fault : (mode : RecoveryMode) (queue : LogQueue) (version : Version) (files : List NumberedBytes) (e : Error) → AreAccepted mode queue version files → ¬ (IsFoundFault mode queue version files e)
no_fault mode queue version files e a (inl n) = not_together (numbers files) n.last n.next n.together a.consecutive (elim n.why [ inl back ↦ inl back.0 | inr gap ↦ inr gap.0 ])
no_fault mode queue version files e a (inr (inl d)) = a.tolerated (record { closed = d.closed; last = d.last; split = d.split; tail = d.tail.tail })
no_fault mode queue version files e a (inr (inr (inl o))) = a.of_version (record { closed = o.closed; last = o.last; split = o.split; other = o.other.other })
no_fault mode queue version files e a (inr (inr (inr u))) = not_unsound queue version files e a.sound u

-- they are one at least, or as many, once they are ready
ready_count : (queue : LogQueue) (version : Version) (asks later : List Ask) (files left : List NumberedBytes) → IsReady queue version asks later files left → length files < 2 ^ 62 → length left < 2 ^ 62
ready_count queue version asks later files left r few = go r.ready
  where
    go : IsFirstBegun queue asks later files left ⊎ (IsUntorn queue version asks later files left ⊎ IsCut queue version asks later files left) → length left < 2 ^ 62
    go (inl b) = let one = ap length b.first in omega (arith, one)
    go (inr (inl u)) = subst (λ (l : List NumberedBytes). length l < 2 ^ 62) (sym u.same) few
    go (inr (inr c)) =
        let cut = ap length (c.cut ∙ ap (λ (l : List NumberedBytes). cut_last c.at l) c.split ∙ last_of (λ old. take c.at old) c.closed c.last) in
        let old = ap length c.split in
        let n = length-append c.closed ((c.last.0, take c.at c.last.1) ∷ []) in
        let m = length-append c.closed (c.last ∷ []) in
        omega (arith, cut, old, n, m, few)

-- what is known of the files: they can be made ready in a mode, and hold these batches then, which can be read, each group of the rewrite files in a row
pub record AreSoundFiles (mode : RecoveryMode) (version : Version) (append rewrite : List NumberedBytes) : Type 0 where
  pub append_accepted : AreAccepted mode Append version append
  pub rewrite_accepted : AreAccepted mode Rewrite version rewrite
  pub appended : List Event
  pub rewritten : List Event
  pub append_sound : IsSoundIn Append appended
  pub rewrite_sound : IsSoundIn Rewrite rewritten
  pub rows : AreGroupsInRows rewritten
  pub append_found : FilesHoldTorn Append version append appended
  pub rewrite_found : FilesHoldTorn Rewrite version rewrite rewritten
  pub append_held : (asks later : List Ask) (ready : List NumberedBytes) → IsReady Append version asks later append ready → FilesHold Append version ready appended
  pub rewrite_held : (asks later : List Ask) (ready : List NumberedBytes) → IsReady Rewrite version asks later rewrite ready → FilesHold Rewrite version ready rewritten

-- ---- the files

module _
    (one : (queue : LogQueue) (version : Version) (files : List NumberedBytes) (g h : List Event) → FilesHold queue version files g → FilesHold queue version files h → g ≡ h)
    (few_records : (queue : LogQueue) (version : Version) (files : List NumberedBytes) (h : List Event) → FilesHold queue version files h → bytes_of_files files < 2 ^ 63 → IsSmall h)
    (mode : RecoveryMode) (version : Version) (append rewrite : List NumberedBytes) (s : AreSoundFiles mode version append rewrite) where
  -- ---- what a reading of them refuses

  module _ (IsRefused : Refusal) (e : Error) (f : IsReadingFault IsRefused mode version append rewrite e) where
    append_left : FilesHold Append version f.append_left s.appended
    append_left = s.append_held [] (f.append_missing ++ []) f.append_left (f.append_ready [])

    rewrite_left : FilesHold Rewrite version f.rewrite_left s.rewritten
    rewrite_left = s.rewrite_held [] (f.rewrite_missing ++ []) f.rewrite_left (f.rewrite_ready [])

    is_full : (IsRefused f.append_left f.rewrite_left e → e ≡ errors.Full) → e ≡ errors.Full
    is_full refused = go f.fault
      where
        go : IsRecoveryFault IsRefused f.append_left f.rewrite_left e ⊎ IsTooLongAs version f.append_left f.rewrite_left e → e ≡ errors.Full
        go (inl (inl many)) = many.1
        go (inl (inr (inl many))) = many.1
        go (inl (inr (inr refusal))) = refused refusal
        go (inr long) = long.full

  -- an opening that is refused only so in reading is refused for want of memory or room
  memory_or_full : (IsRefused : Refusal) (e : Error) → (e ≢ errors.Memory → IsReadingFault IsRefused mode version append rewrite e → e ≡ errors.Full)
      → IsOpeningRefusal IsRefused mode version append rewrite e → (e ≡ errors.Memory) ⊎ (e ≡ errors.Full)
  memory_or_full IsRefused e full refused = elim (memory_or e) [
    | inl memory ↦ inl memory
    | inr other ↦ inr (go other (refused other))
  ]
    where
      go : e ≢ errors.Memory → IsFoundFault mode Append version append e ⊎ (IsFoundFault mode Rewrite version rewrite e ⊎ IsReadingFault IsRefused mode version append rewrite e) → e ≡ errors.Full
      go other (inl fault) = absurd (no_fault mode Append version append e s.append_accepted fault)
      go other (inr (inl fault)) = absurd (no_fault mode Rewrite version rewrite e s.rewrite_accepted fault)
      go other (inr (inr fault)) = full other fault

  -- ---- by workers

  sound_unread : (queue : LogQueue) (files : List NumberedBytes) (h : List Event) → FilesHold queue version files h → bytes_of_files files < 2 ^ 63 → IsSoundIn queue h
      → ¬ (FilesCannotBeRead queue version files)
  sound_unread queue files h held few sound bad = bad.unsound h held (few_records queue version files h held few) (record { queue = queue; sound = sound })

  pub openings_succeed : OpeningsSucceed mode version append rewrite
  openings_succeed workers e may refused =
      memory_or_full (AreUnrecoveredAs version workers) e (λ other f. is_full (AreUnrecoveredAs version workers) e f (λ u. absurd (unrecovered other f u))) refused
    where
      unrecovered : e ≢ errors.Memory → (f : IsReadingFault (AreUnrecoveredAs version workers) mode version append rewrite e) → ¬ (AreUnrecoveredAs version workers f.append_left f.rewrite_left e)
      unrecovered other f (inl u) =
          elim (u.stops (
            may.0,
            may.1,
            ready_count Append version [] (f.append_missing ++ []) append f.append_left (f.append_ready []) may.2,
            ready_count Rewrite version [] (f.rewrite_missing ++ []) rewrite f.rewrite_left (f.rewrite_ready []) may.3,
          )) [
            | inl stops ↦ sound_unread Append f.append_left s.appended (append_left (AreUnrecoveredAs version workers) e f) u.few.0 s.append_sound (stops_unread Append version f.append_left e other stops)
            | inr stops ↦ sound_unread Rewrite f.rewrite_left s.rewritten (rewrite_left (AreUnrecoveredAs version workers) e f) u.few.1 s.rewrite_sound (stops_unread Rewrite version f.rewrite_left e other stops)
          ]
      unrecovered other f (inr o) =
          o.out (subst AreGroupsInRows (one Rewrite version f.rewrite_left s.rewritten o.batches (rewrite_left (AreUnrecoveredAs version workers) e f) o.held) s.rows)

  -- ---- over contexts

  pub openings_over_succeed : OpeningsOverSucceed mode version append rewrite
  openings_over_succeed e refused =
      memory_or_full (AreUngroupedAs version) e (λ other f. is_full (AreUngroupedAs version) e f (λ o.
      absurd (o.out (subst AreGroupsInRows (one Rewrite version f.rewrite_left s.rewritten o.batches (rewrite_left (AreUngroupedAs version) e f) o.held) s.rows)))) refused
