-- All files that weren't deleted, where nothing is lost.
use Rattle.raft_engine.proofs.Common.{◌≡◌, ℕ, zero, suc, ◌<◌, ◌≤◌, List, [], ◌∷◌, ◌++◌, length, take, drop, inl, inr, refl, sym, ap, ◌∙◌, subst, arith, append_assoc, AllByRecursion, cases_lt, drop-map, drop_all, nil_from_length, take-map, LogQueue, Version, Event, Act, Ask}
use Rattle.raft_engine.proofs.Common.{NumberedBytes, acts_on, begun, deletions, files_of, AreHeldInTurn, FilesHold, Deed, IsLeft, deleted, in_files_from, synced, written, all_gone, from_none, synced_low, whole_stands, AreConsecutive, AreDone, AreRisingFrom, numbers}
use Rattle.raft_engine.proofs.Common.{FilesHoldTorn, files_high, files_low, from_both, from_twice, all_held, below_drop, below_take, consecutive_drop, more_torn}

-- the oldest files, and those behind them
oldest_held : (queue : LogQueue) (version : Version) (n : ℕ) (files : List NumberedBytes) (h : List Event) → n < length files → FilesHoldTorn queue version files h
    → AreHeldInTurn (FilesHold queue version (take n files)) (FilesHoldTorn queue version (drop n files)) h
oldest_held queue version n [] h lt t = absurd (omega (arith, lt))
oldest_held queue version zero (f ∷ files) h lt t = record { first = []; rest = h; first_held = refl; rest_held = t; split = refl }
oldest_held queue version (suc n) (f ∷ files) h lt t =
    let a = more_torn queue version f files h (omega (arith, lt)) t in
    let r = oldest_held queue version n files a.rest (omega (arith, lt)) a.rest_held in
    record {
      first = a.first ++ r.first;
      rest = r.rest;
      first_held = record { first = a.first; rest = r.first; first_held = a.first_held; rest_held = r.first_held; split = refl };
      rest_held = r.rest_held;
      split = a.split ∙ ap (λ (g : List Event). a.first ++ g) r.split ∙ sym (append_assoc a.first r.first r.rest);
    }

-- the files that are there hold all batches that were written, without those of deleted files
pub record HoldWhole (queue : LogQueue) (version : Version) (asked : List Ask) (deeds : List Deed) : Type 0 where
  pub left : List Event
  pub is_left : IsLeft deeds (written deeds) left
  pub held : FilesHoldTorn queue version (files_of queue asked) left
  pub consecutive : AreConsecutive (numbers (files_of queue asked))

module _ (queue : LogQueue) (version : Version) (asked : List Ask) (deeds : List Deed) (d : AreDone queue version (acts_on queue asked) deeds) where
  abbrev acts : List Act
  acts = acts_on queue asked

  abbrev all : List Event
  all = in_files_from d.first (written deeds)

  all_torn : FilesHoldTorn queue version (begun acts) all
  all_torn = all_held queue version acts (in_files_from d.first (synced deeds)) all d.put

  up : d.first ≤ deleted deeds
  up = let i = d.begins in let j = synced_low deeds in omega (arith, i, j)

  rising : AreRisingFrom (deleted deeds) (numbers (files_of queue asked))
  rising = subst (AreRisingFrom (deleted deeds)) (drop-map (λ (f : NumberedBytes). f.0) (deletions acts) (begun acts)) (below_drop (deleted deeds) d.first (deletions acts) (numbers (begun acts)) d.gone d.rising)

  -- files were begun
  held_some : deletions acts < length (begun acts) → FilesHoldTorn queue version (files_of queue asked) (in_files_from (deleted deeds) (written deeds))
  held_some some =
      let a = oldest_held queue version (deletions acts) (begun acts) all some all_torn in
      let low = subst (AllByRecursion (λ (m : ℕ). m < deleted deeds)) (take-map (λ (f : NumberedBytes). f.0) (deletions acts) (begun acts)) (below_take (deleted deeds) (deletions acts) (numbers (begun acts)) d.gone) in
      let same : in_files_from (deleted deeds) (written deeds) ≡ a.rest =
      sym (from_twice d.first (deleted deeds) (written deeds) up) ∙ ap (in_files_from (deleted deeds)) a.split ∙ from_both (deleted deeds) a.first a.rest
      ∙ ap (λ (h : List Event). h ++ in_files_from (deleted deeds) a.rest) (files_low queue version (deleted deeds) (take (deletions acts) (begun acts)) a.first low a.first_held)
      ∙ files_high queue version (deleted deeds) (files_of queue asked) a.rest rising a.rest_held in
      subst (FilesHoldTorn queue version (files_of queue asked)) (sym same) a.rest_held

  -- no file was begun
  held_none : length (begun acts) ≡ 0 → FilesHoldTorn queue version (files_of queue asked) (in_files_from (deleted deeds) (written deeds))
  held_none none =
      let no_batches : all ≡ [] = subst (λ (fs : List NumberedBytes). FilesHoldTorn queue version fs all) (nil_from_length (begun acts) none) all_torn in
      subst (λ (fs : List NumberedBytes). FilesHoldTorn queue version fs (in_files_from (deleted deeds) (written deeds))) (sym (drop_all (deletions acts) (begun acts) (omega (arith, none))))
      (sym (from_twice d.first (deleted deeds) (written deeds) up) ∙ ap (in_files_from (deleted deeds)) no_batches ∙ from_none (deleted deeds))

  pub whole_of : HoldWhole queue version asked deeds
  whole_of = record {
    left = in_files_from (deleted deeds) (written deeds);
    is_left = record { stands = whole_stands deeds; gone = deleted deeds; may_go = all_gone deeds; left = refl };
    held =
        let stays = d.stays in
        elim (cases_lt 0 (length (begun acts))) [
          | inl some ↦ held_some (omega (arith, stays, some))
          | inr none ↦ held_none (omega (arith, none))
        ];
    consecutive = subst AreConsecutive (drop-map (λ (f : NumberedBytes). f.0) (deletions acts) (begun acts)) (consecutive_drop (deletions acts) (numbers (begun acts)) d.consecutive);
  }
