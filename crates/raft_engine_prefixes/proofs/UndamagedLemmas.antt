-- What no crash damages.
use Rattle.raft_engine_prefixes.proofs.Common.{◌≡◌, ℕ, zero, suc, ◌<◌, List, [], ◌∷◌, ◌++◌, length, drop, inl, inr, refl, sym, ap, subst, arith, append-nil, length-append, take_all, FileBlockHandle, LogQueue, Version, Part, StandBetween, Event, Act, Ask, Begin, Cut, Delete}
use Rattle.raft_engine_prefixes.proofs.Common.{Found, Put, Read, Sync, Unsynced, acts_on, IsLeftOf, MayStand, NumberedBytes, begun, put_behind, length_on_last, bytes_before, HoldsFrom, IsUnreadableAt, FilesHold, whole_file, IsBrokenOff, AreBatchesPut, ArePut, ArePutFrom}
use Rattle.raft_engine_prefixes.proofs.Common.{AreUndamaged, FoundUndamaged, IsDamagedAt, NoneIsDamaged, StopsAt}
use Rattle.raft_engine_prefixes.proofs.BatchPartLemmas.{end_unreadable}
use Rattle.raft_engine_prefixes.proofs.DamageLemmas.{end_undamaged}
use Rattle.raft_engine_prefixes.proofs.PrefixLemmas.{put_behind_one, put_prefix}
use Rattle.raft_engine_prefixes.proofs.TornLemmas.{items_of, one_file, one_stop, stand_up_to, stop_unreadable, with_all}

-- ---- a part

-- a part that holds batches, and no tail, isn't damaged
whole_part : (part : Part) (h : List Event) → HoldsFrom part 0 h → (at : ℕ) → StopsAt part at → ¬ (IsDamagedAt part at)
whole_part part h held at s =
    let n = length part.bytes in
    let all : HoldsFrom (bytes_before part n) 0 h = subst (λ (xs : List ℕ). HoldsFrom (with_all part xs) 0 h) (sym (take_all n part.bytes (omega arith))) held in
    let same : n ≡ at = one_stop part 0 n at (items_of h) s.batches.0 (stand_up_to part n 0 h (omega arith) all) s.batches.1 (end_unreadable part n refl) (stop_unreadable part at s.stops) in
    end_undamaged part at (sym same)

module _ (queue : LogQueue) (version : Version) where
  -- behind whole batches, what was put is broken off where no batch can be read
  module _ (file : NumberedBytes) (bytes : List ℕ) (old more : List Event) (a : FilesHold queue version (file ∷ []) old)
      (p : ArePutFrom (whole_file queue version (file.0, file.1 ++ bytes)) (length file.1) more) where
    abbrev part : Part
    part = whole_file queue version (file.0, file.1 ++ bytes)

    whole : bytes_before part (length part.bytes) ≡ part
    whole = ap (with_all part) (take_all (length part.bytes) part.bytes (omega arith))

    there : IsBrokenOff part p.held.at
    there =
        subst (λ (x : Part). IsBrokenOff x p.held.at) whole
        (p.broken (length part.bytes) p.held.at (items_of more) (omega arith)
        (subst (λ (x : Part). StandBetween x (length file.1) p.held.at (items_of more)) (sym whole) (stand_up_to part p.held.at (length file.1) more p.held.inside p.held.held))
        (subst (λ (x : Part). IsUnreadableAt x p.held.at) (sym whole) p.held.torn))

    put_part : (at : ℕ) → StopsAt part at → ¬ (IsDamagedAt part at)
    put_part at s d =
        let same : p.held.at ≡ at = one_stop part 0 p.held.at at (items_of (old ++ more)) s.batches.0
        (stand_up_to part p.held.at 0 (old ++ more) p.held.inside (put_behind_one queue version file bytes old more a p)) s.batches.1 p.held.torn (stop_unreadable part at s.stops) in
        d.whole (subst (IsBrokenOff part) same there)

  -- ---- files

  none_undamaged : AreUndamaged queue version []
  none_undamaged [] last at e s = absurd cc
  none_undamaged (c ∷ closed) last at e s = absurd cc

  one_undamaged : (file : NumberedBytes) → ((at : ℕ) → StopsAt (whole_file queue version file) at → ¬ (IsDamagedAt (whole_file queue version file) at)) → AreUndamaged queue version (file ∷ [])
  one_undamaged file u [] last at e s =
      let same : file ≡ last = cc in
      subst (λ (f : NumberedBytes). StopsAt (whole_file queue version f) at → ¬ (IsDamagedAt (whole_file queue version f) at)) same (u at) s
  one_undamaged file u (c ∷ closed) last at e s = absurd (omega (arith, ap length e, length-append (c ∷ closed) (last ∷ [])))

  -- behind another file
  more_undamaged : (file : NumberedBytes) (files : List NumberedBytes) → 0 < length files → AreUndamaged queue version files → AreUndamaged queue version (file ∷ files)
  more_undamaged file files some u [] last at e s = absurd (omega (arith, some, ap length e))
  more_undamaged file files some u (c ∷ closed) last at e s = let rest : files ≡ closed ++ last ∷ [] = cc in u closed last at rest s

  pub whole_undamaged : (files : List NumberedBytes) (h : List Event) → FilesHold queue version files h → AreUndamaged queue version files
  whole_undamaged [] h a = none_undamaged
  whole_undamaged (file ∷ []) h a = one_undamaged file (whole_part (whole_file queue version file) h (one_file queue version file h a))
  whole_undamaged (file ∷ next ∷ files) h a = more_undamaged file (next ∷ files) (omega arith) (whole_undamaged (next ∷ files) a.rest a.rest_held)

  put_undamaged : (files : List NumberedBytes) (bytes : List ℕ) (old more : List Event) → FilesHold queue version files old → AreBatchesPut queue version bytes files more
      → AreUndamaged queue version (put_behind bytes files)
  put_undamaged [] bytes old more a p = none_undamaged
  put_undamaged (file ∷ []) bytes old more a p = one_undamaged (file.0, file.1 ++ bytes) (put_part file bytes old more a p)
  put_undamaged (file ∷ next ∷ files) bytes old more a p =
      let n = length_on_last (λ (b : List ℕ). b ++ bytes) (next ∷ files) in
      more_undamaged file (put_behind bytes (next ∷ files)) (omega (arith, n)) (put_undamaged (next ∷ files) bytes a.rest more a.rest_held p)

  -- a new file has no bytes
  begun_undamaged : (files : List NumberedBytes) (seq : ℕ) → AreUndamaged queue version (files ++ (seq, []) ∷ [])
  begun_undamaged [] seq = one_undamaged (seq, []) (whole_part (whole_file queue version (seq, [])) [] refl)
  begun_undamaged (file ∷ files) seq = more_undamaged file (files ++ (seq, []) ∷ []) (let n = length-append files ((seq, []) ∷ []) in omega (arith, n)) (begun_undamaged files seq)

  -- ---- asks

  -- all that was asked may stand
  whole_stands : (acts : List Act) → MayStand acts (begun acts)
  whole_stands [] = refl
  whole_stands (Put bytes ∷ acts) = inr record { front = bytes; rest = []; split = sym (append-nil bytes); put = refl }
  whole_stands (Begin seq ∷ acts) = inr refl
  whole_stands (Sync ∷ acts) = refl
  whole_stands (Delete ∷ acts) = whole_stands acts
  whole_stands (Cut len ∷ acts) = inr refl
  whole_stands (Found files ∷ acts) = refl
  whole_stands (Read place bytes ∷ acts) = whole_stands acts
  whole_stands (Unsynced ∷ acts) = whole_stands acts

  pub nothing_damaged : NoneIsDamaged queue version []
  nothing_damaged found files stands = subst (AreUndamaged queue version) (sym stands) none_undamaged

  module _ (acts : List Act) where
    pub found_undamaged : (files : List NumberedBytes) → NoneIsDamaged queue version (Found files ∷ acts)
    found_undamaged files found standing stands = subst (AreUndamaged queue version) (sym stands) found

    module _ (none : NoneIsDamaged queue version acts) where
      pub sync_undamaged : NoneIsDamaged queue version (Sync ∷ acts)
      sync_undamaged found standing stands = subst (AreUndamaged queue version) (sym stands) (none found (begun acts) (whole_stands acts))

      pub begin_undamaged : (seq : ℕ) → NoneIsDamaged queue version (Begin seq ∷ acts)
      begin_undamaged seq found standing (inl is) = subst (AreUndamaged queue version) (sym is) (none found (begun acts) (whole_stands acts))
      begin_undamaged seq found standing (inr is) = subst (AreUndamaged queue version) (sym is) (begun_undamaged (begun acts) seq)

      pub delete_undamaged : NoneIsDamaged queue version (Delete ∷ acts)
      delete_undamaged found standing stands = none found standing stands

      pub read_undamaged : (place : FileBlockHandle) (bytes : List ℕ) → NoneIsDamaged queue version (Read place bytes ∷ acts)
      read_undamaged place bytes found standing stands = none found standing stands

      pub unsynced_undamaged : NoneIsDamaged queue version (Unsynced ∷ acts)
      unsynced_undamaged found standing stands = none found standing stands

      pub cut_undamaged : (len : ℕ) (h : List Event) → FilesHold queue version (begun (Cut len ∷ acts)) h → NoneIsDamaged queue version (Cut len ∷ acts)
      cut_undamaged len h held found standing (inl before) = none found standing before
      cut_undamaged len h held found standing (inr is) = subst (AreUndamaged queue version) (sym is) (whole_undamaged (begun (Cut len ∷ acts)) h held)

      pub put_is_undamaged : (bytes : List ℕ) (synced h : List Event) → ArePut queue version (Put bytes ∷ acts) synced h → NoneIsDamaged queue version (Put bytes ∷ acts)
      put_is_undamaged bytes synced h p found standing (inl before) = none found standing before
      put_is_undamaged bytes synced h p found standing (inr f) =
          let r = put_prefix queue version (begun acts) bytes f.front f.rest p.more f.split p.put in
          subst (AreUndamaged queue version) (sym f.put) (put_undamaged (begun acts) f.front p.old r.front p.whole r.held)

  -- without the oldest files
  rest_undamaged : (gone : ℕ) (files : List NumberedBytes) → AreUndamaged queue version files → AreUndamaged queue version (drop gone files)
  rest_undamaged zero files u = u
  rest_undamaged (suc gone) [] u = u
  rest_undamaged (suc gone) (f ∷ files) u = rest_undamaged gone files (λ closed last at e. u (f ∷ closed) last at (ap (λ (l : List NumberedBytes). f ∷ l) e))

-- whatever is left isn't damaged, where the found files aren't
pub left_undamaged : (queue : LogQueue) (version : Version) (asked : List Ask) (files : List NumberedBytes) → NoneIsDamaged queue version (acts_on queue asked) → FoundUndamaged queue version (acts_on queue asked)
    → IsLeftOf queue asked files → AreUndamaged queue version files
left_undamaged queue version asked files none found l =
    subst (AreUndamaged queue version) (sym l.left) (rest_undamaged queue version l.gone l.standing (none found l.standing l.stands))
