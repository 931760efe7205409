-- What each ask makes of the entry blocks of the last rewrite file.
use Rattle.raft_engine.proofs.Common.{◌≡◌, inl, inr, ℕ, List, [], ◌∷◌, ◌++◌, length, take, refl, sym, ap, ◌∙◌, subst, arith, append_assoc, length-append, cases_lt, drop_at, take-append-drop, take_all, take_at, signature_in, FileBlockHandle, LogQueue, Append, Rewrite, Version}
use Rattle.raft_engine.proofs.Common.{Batch, log_batch_bytes, Part, Event, Act, Ask, Begin, Cut, Delete, Found, NumberedBytes, Put, Read, Sync, Unsynced, acts_on, IsLeftOf, begun, cut_last, put_behind, last_of, HoldsFrom, FilesHold, whole_file, items_of, stand_up_to}
use Rattle.raft_engine.proofs.Common.{AreBlocksSound, IsFileSound, IsLastSound, NoneIsUnsound, IsWritableBatch}
use Rattle.raft_engine.proofs.BlockLemmas.{part_of_sound, put_sound}
use Rattle.raft_engine.proofs.FoundLemmas.{one_last, stands_inside}
use Rattle.raft_engine.proofs.OfVersionLemmas.{last_held, last_or_none, whole_stands}
use Rattle.raft_engine.proofs.ReadyLemmas.{no_last}

-- ---- one file

-- one without bytes
empty_sound : (queue : LogQueue) (version : Version) (seq : ℕ) → IsFileSound queue version (seq, [])
empty_sound Append version seq = tt
empty_sound Rewrite version seq = λ at next items up b. absurd (omega (arith, stands_inside (whole_file Rewrite version (seq, [])) at next items b))

-- a prefix of one
prefix_of_sound : (queue : LogQueue) (version : Version) (seq : ℕ) (bytes : List ℕ) (n : ℕ) → IsFileSound queue version (seq, bytes) → IsFileSound queue version (seq, take n bytes)
prefix_of_sound Append version seq bytes n all = tt
prefix_of_sound Rewrite version seq bytes n all = elim (cases_lt n (length bytes)) [
  | inl less ↦ part_of_sound (whole_file Rewrite version (seq, bytes)) n (omega (arith, less)) all
  | inr long ↦ subst (λ (bs : List ℕ). AreBlocksSound (whole_file Rewrite version (seq, bs))) (sym (take_all n bytes (omega (arith, long)))) all
]

sound_in_front : (queue : LogQueue) (version : Version) (seq : ℕ) (front rest : List ℕ) → IsFileSound queue version (seq, front ++ rest) → IsFileSound queue version (seq, front)
sound_in_front queue version seq front rest all =
    subst (λ (bs : List ℕ). IsFileSound queue version (seq, bs)) (take_at front rest (length front) refl) (prefix_of_sound queue version seq (front ++ rest) (length front) all)

-- a written batch behind one
written_behind : (queue : LogQueue) (version : Version) (file : NumberedBytes) (handle : FileBlockHandle) (batch : Batch) (h : List Event) → IsWritableBatch batch
    → handle.id ≡ record { queue = queue; seq = file.0 } → handle.offset ≡ length file.1 → HoldsFrom (whole_file queue version file) 0 h
    → IsFileSound queue version file → IsFileSound queue version (file.0, file.1 ++ log_batch_bytes (signature_in version file.0) batch.items batch.entry_bytes)
written_behind Append version file handle batch h w id place held before = tt
written_behind Rewrite version file handle batch h w id place held before =
    let bytes = log_batch_bytes (signature_in version file.0) batch.items batch.entry_bytes in
    let new : Part = whole_file Rewrite version (file.0, file.1 ++ bytes) in
    let m = length file.1 in
    let n = length-append file.1 bytes in
    let old : file.1 ≡ take m (file.1 ++ bytes) = sym (take_at file.1 bytes m refl) in
    put_sound new m handle batch.items batch.entry_bytes (omega (arith, n)) w.tiled w.in_range w.in_bytes w.some w.short id (omega (arith, place)) (drop_at file.1 bytes m refl)
    (items_of h, stand_up_to new m 0 h (omega (arith, n)) (subst (λ (bs : List ℕ). HoldsFrom (whole_file Rewrite version (file.0, bs)) 0 h) old held))
    (subst (λ (bs : List ℕ). AreBlocksSound (whole_file Rewrite version (file.0, bs))) old before)

-- ---- each ask

module _ (queue : LogQueue) (version : Version) where
  same_last : (closed closed' : List NumberedBytes) (last last' : NumberedBytes) → closed ++ last ∷ [] ≡ closed' ++ last' ∷ [] → IsFileSound queue version last → IsFileSound queue version last'
  same_last closed closed' last last' e sound = subst (IsFileSound queue version) (one_last closed closed' last last' e) sound

  -- the last of these files is sound
  last_is_sound : (files closed : List NumberedBytes) (last : NumberedBytes) → files ≡ closed ++ last ∷ [] → IsFileSound queue version last → IsLastSound queue version files
  last_is_sound files closed last split sound closed' last' e = same_last closed closed' last last' (sym split ∙ e) sound

  no_files_sound : (files : List NumberedBytes) → files ≡ [] → IsLastSound queue version files
  no_files_sound files none closed last e = absurd (no_last closed last (sym none ∙ e))

  pub none_unsound : NoneIsUnsound queue version []
  none_unsound files stands = no_files_sound files stands

  module _ (acts : List Act) where
    pub found_sound : (files : List NumberedBytes) → IsLastSound queue version files → NoneIsUnsound queue version (Found files ∷ acts)
    found_sound files sound standing stands = subst (IsLastSound queue version) (sym stands) sound

    module _ (none : NoneIsUnsound queue version acts) where
      pub sync_sound : NoneIsUnsound queue version (Sync ∷ acts)
      sync_sound standing stands = subst (IsLastSound queue version) (sym stands) (none (begun acts) (whole_stands acts))

      pub begin_sound : (seq : ℕ) → NoneIsUnsound queue version (Begin seq ∷ acts)
      begin_sound seq standing (inl is) = subst (IsLastSound queue version) (sym is) (none (begun acts) (whole_stands acts))
      begin_sound seq standing (inr is) = last_is_sound standing (begun acts) (seq, []) is (empty_sound queue version seq)

      pub delete_sound : NoneIsUnsound queue version (Delete ∷ acts)
      delete_sound standing stands = none standing stands

      pub read_sound : (place : FileBlockHandle) (bytes : List ℕ) → NoneIsUnsound queue version (Read place bytes ∷ acts)
      read_sound place bytes standing stands = none standing stands

      pub unsynced_sound : NoneIsUnsound queue version (Unsynced ∷ acts)
      unsynced_sound standing stands = none standing stands

      pub cut_sound : (len : ℕ) → NoneIsUnsound queue version (Cut len ∷ acts)
      cut_sound len standing (inl stands) = none standing stands
      cut_sound len standing (inr cut) = elim (last_or_none queue version (begun acts)) [
        | inl empty ↦ no_files_sound standing (cut ∙ ap (cut_last len) empty)
        | inr l ↦
            last_is_sound standing l.0 (l.1.0, take len l.1.1) (cut ∙ ap (cut_last len) l.2 ∙ last_of (λ old. take len old) l.0 l.1)
            (prefix_of_sound queue version l.1.0 l.1.1 len (none (begun acts) (whole_stands acts) l.0 l.1 l.2))
      ]

      -- a batch that is written behind the last file, which holds its batches to the end
      pub put_is_sound : (closed : List NumberedBytes) (last : NumberedBytes) (handle : FileBlockHandle) (batch : Batch) (h : List Event) → IsWritableBatch batch
          → handle.id ≡ record { queue = queue; seq = last.0 } → handle.offset ≡ length last.1 → begun acts ≡ closed ++ last ∷ [] → FilesHold queue version (begun acts) h
          → NoneIsUnsound queue version (Put (log_batch_bytes (signature_in version last.0) batch.items batch.entry_bytes) ∷ acts)
      put_is_sound closed last handle batch h w id place is held standing (inl stands) = none standing stands
      put_is_sound closed last handle batch h w id place is held standing (inr f) =
          let bytes = log_batch_bytes (signature_in version last.0) batch.items batch.entry_bytes in
          let g = last_held queue version closed last h (subst (λ (files : List NumberedBytes). FilesHold queue version files h) is held) in
          let all = written_behind queue version last handle batch g.0 w id place g.1 (none (begun acts) (whole_stands acts) closed last is) in
          last_is_sound standing closed (last.0, last.1 ++ f.front) (f.put ∙ ap (put_behind f.front) is ∙ last_of (λ old. old ++ f.front) closed last)
          (sound_in_front queue version last.0 (last.1 ++ f.front) f.rest
          (subst (λ (bs : List ℕ). IsFileSound queue version (last.0, bs)) (ap (λ (bs : List ℕ). last.1 ++ bs) f.split ∙ sym (append_assoc last.1 f.front f.rest)) all))

-- ---- a crash

pub left_sound : (queue : LogQueue) (version : Version) (asked : List Ask) (files : List NumberedBytes) → NoneIsUnsound queue version (acts_on queue asked) → IsLeftOf queue asked files → IsLastSound queue version files
left_sound queue version asked files none l closed last e =
    none l.standing l.stands (take l.gone l.standing ++ closed) last
    (sym (take-append-drop l.gone l.standing) ∙ ap (λ (rest : List NumberedBytes). take l.gone l.standing ++ rest) (sym l.left ∙ e) ∙ sym (append_assoc (take l.gone l.standing) closed (last ∷ [])))
