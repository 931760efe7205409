-- What recovery modes accept.
use Rattle.raft_engine.proofs.Common.{◌≡◌, ◌⊎◌, Result, Ok, Err, OnOk, inl, inr, ℕ, ◌<◌, List, [], ◌∷◌, ◌++◌, length, sym, ap, ◌∙◌, subst, arith, cases_lt, length-drop, LogQueue, Append, Rewrite, Version, Part, Item, Batch, Act, Ask, Begin, Cut, Delete, Found, NumberedBytes, Put}
use Rattle.raft_engine.proofs.Common.{Read, Sync, Unsynced, acts_on, ask, whole_file, GoesOn, AreUndamaged, FoundUndamaged, IsDamagedAt, StopsAt, bytes_for, AreAccepted, IsCut, IsFirstBegun, IsLastRefused, IsUntorn, asks_that_tell, ModesAcceptMore, OpenedFoundUndamaged}
use Rattle.raft_engine.proofs.Common.{found_asks, RecoveryMode, AbsoluteConsistency, TolerateTailCorruption, TolerateTornTail}
use Rattle.raft_engine.specs.FoundFiles.{IsReady}
use Rattle.raft_engine.proofs.FoundLemmas.{one_stopped}
use Rattle.raft_engine.proofs.ReadyLemmas.{opening_split}

module _ (queue : LogQueue) (version : Version) (files : List NumberedBytes) where
  -- damage is refused where each tail is
  each_refused : IsLastRefused TolerateTornTail queue version files → IsLastRefused AbsoluteConsistency queue version files
  each_refused d = record {
    closed = d.closed;
    last = d.last;
    split = d.split;
    tail = record { at = d.tail.at; stops = d.tail.stops; before_end = d.tail.before_end; refused = tt };
  }

  none_refused : ¬ (IsLastRefused TolerateTailCorruption queue version files)
  none_refused d = d.tail.refused

  -- a file that ends with its batches has no tail
  whole_tolerated : ((closed : List NumberedBytes) (last : NumberedBytes) → files ≡ closed ++ last ∷ [] → StopsAt (whole_file queue version last) (length last.1))
      → (mode : RecoveryMode) → ¬ (IsLastRefused mode queue version files)
  whole_tolerated ends mode d =
      let same = one_stopped (whole_file queue version d.last) d.tail.at (length d.last.1) d.tail.stops (ends d.closed d.last d.split) in
      let less = d.tail.before_end in
      omega (arith, same, less)

  pub accept_more : ModesAcceptMore queue version files
  accept_more = record {
    torn = λ a. record { consecutive = a.consecutive; tolerated = λ d. a.tolerated (each_refused d); of_version = a.of_version; sound = a.sound };
    corrupted = λ a. record { consecutive = a.consecutive; tolerated = none_refused; of_version = a.of_version; sound = a.sound };
    none = none_refused;
    whole = whole_tolerated;
  }

-- what is so is so after an `Ok`
pub on_ok : {R E : Type 0} (r : Result R E) (P : Type 0) → P → OnOk r P
on_ok (Ok x) P p = p
on_ok (Err e) P p = tt

-- ---- what an engine found that was opened in the mode that refuses damage

-- damage begins before the end
before_end : (part : Part) (at : ℕ) → IsDamagedAt part at → at < length part.bytes
before_end part at d = elim (cases_lt at (length part.bytes)) [
  | inl less ↦ less
  | inr past ↦ absurd (d.whole (inl (let n = length-drop at part.bytes in omega (arith, n, past))))
]

accepted_undamaged : (queue : LogQueue) (version : Version) (files : List NumberedBytes) → AreAccepted TolerateTornTail queue version files → AreUndamaged queue version files
accepted_undamaged queue version files a closed last at split stops damaged =
    a.tolerated (record { closed = closed; last = last; split = split; tail = record { at = at; stops = stops; before_end = before_end (whole_file queue version last) at damaged; refused = damaged } })

module _ (version : Version) where
  -- an act that finds nothing changes nothing of what was found
  act_found : (q : LogQueue) (act : Act) (acts : List Act) → GoesOn act → FoundUndamaged q version acts → FoundUndamaged q version (act ∷ acts)
  act_found q (Put bytes) acts goes u = u
  act_found q (Begin seq) acts goes u = u
  act_found q Sync acts goes u = u
  act_found q Unsynced acts goes u = u
  act_found q Delete acts goes u = u
  act_found q (Cut len) acts goes u = u
  act_found q (Found files) acts goes u = absurd goes
  act_found q (Read place bytes) acts goes u = u

  more_found : (q queue : LogQueue) (act : Act) (asks : List Ask) → GoesOn act → FoundUndamaged q version (acts_on q asks) → FoundUndamaged q version (acts_on q (ask queue act ∷ asks))
  more_found Append Append act asks goes u = act_found Append act (acts_on Append asks) goes u
  more_found Append Rewrite act asks goes u = u
  more_found Rewrite Append act asks goes u = u
  more_found Rewrite Rewrite act asks goes u = act_found Rewrite act (acts_on Rewrite asks) goes u

  ready_found : (q queue : LogQueue) (asks later : List Ask) (files left : List NumberedBytes) → IsReady queue version asks later files left → FoundUndamaged q version (acts_on q asks)
      → FoundUndamaged q version (acts_on q later)
  ready_found q queue asks later files left r u = go r.ready
    where
      go : IsFirstBegun queue asks later files left ⊎ (IsUntorn queue version asks later files left ⊎ IsCut queue version asks later files left) → FoundUndamaged q version (acts_on q later)
      go (inl b) = subst (λ (l : List Ask). FoundUndamaged q version (acts_on q l)) (sym b.asked) (more_found q queue (Begin 1) asks tt u)
      go (inr (inl n)) = subst (λ (l : List Ask). FoundUndamaged q version (acts_on q l)) (sym n.asked) u
      go (inr (inr c)) = subst (λ (l : List Ask). FoundUndamaged q version (acts_on q l)) (sym c.asked) (more_found q queue (Cut c.at) asks tt u)

  abbrev told_bytes : ℕ → Batch → List ℕ
  told_bytes seq told = bytes_for (record { id = record { queue = Rewrite; seq = seq }; version = version }) told

  told_found : (q : LogQueue) (seq : ℕ) (told : Batch) (items : List Item) (asks : List Ask) → FoundUndamaged q version (acts_on q asks)
      → FoundUndamaged q version (acts_on q (asks_that_tell version seq told items ++ asks))
  told_found q seq told [] asks u = u
  told_found q seq told (item ∷ items) asks u =
      more_found q Rewrite Sync (ask Rewrite (Put (told_bytes seq told)) ∷ asks) tt (more_found q Rewrite (Put (told_bytes seq told)) asks tt u)

pub opened_found : OpenedFoundUndamaged
opened_found version append rewrite engine o accepted = (
  all Append (accepted_undamaged Append version append accepted.0),
  all Rewrite (accepted_undamaged Rewrite version rewrite accepted.1),
)
  where
    all : (q : LogQueue) → FoundUndamaged q version (acts_on q (found_asks append rewrite)) → FoundUndamaged q version (acts_on q engine.asks)
    all q u =
        subst (λ (l : List Ask). FoundUndamaged q version (acts_on q l))
        (sym (o.read.asked ∙ ap (λ (l : List Ask). l ++ found_asks append rewrite) o.read.are_wanted.are
        ∙ opening_split version o.read.are_wanted.append_missing o.read.are_wanted.rewrite_missing o.read.are_wanted.seq o.read.are_wanted.told (found_asks append rewrite)))
        (told_found version q o.read.are_wanted.seq o.read.are_wanted.told o.read.are_wanted.told.items _
        (ready_found version q Rewrite _ _ rewrite o.read.are_wanted.rewrite_left (o.read.are_wanted.rewrite_ready (o.read.are_wanted.append_missing ++ found_asks append rewrite))
        (ready_found version q Append _ _ append o.read.are_wanted.append_left (o.read.are_wanted.append_ready (found_asks append rewrite)) u)))
