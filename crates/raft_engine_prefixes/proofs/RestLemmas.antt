-- What a disk leaves of files of which the oldest are deleted.
use Rattle.raft_engine_prefixes.proofs.Common.{◌≡◌, ℕ, zero, suc, ◌<◌, ◌≤◌, List, [], ◌∷◌, ◌++◌, length, take, drop, inl, inr, refl, sym, ap, ◌∙◌, subst, arith, append_assoc, append-nil, length-append, cases_lt, take_all, drop_all, take-append-drop, take-append-le, LogQueue}
use Rattle.raft_engine_prefixes.proofs.Common.{Version, Event, Act, Put, Begin, Sync, Unsynced, Delete, Cut, Found, Read, Ask, acts_on, NumberedBytes, on_last, begun, deletions, files_of, IsLeftOf, MayStand, length_on_last, AreHeldInTurn, HoldsFrom, each_cut, FilesHold}
use Rattle.raft_engine_prefixes.proofs.Common.{whole_file, FilesHoldTorn, ArePut, ArePutWhole, IsPrefixWith, HoldPrefixWith, HoldRestOfPrefix}
use Rattle.raft_engine_prefixes.proofs.TornLemmas.{whole_torn, one_reading, more_torn}
use Rattle.raft_engine_prefixes.proofs.PrefixLemmas.{all_held, prefix_left}

-- ---- the oldest files are the same

pub take_on_last : (change : List ℕ → List ℕ) (n : ℕ) (files : List NumberedBytes) → n < length files → take n (on_last change files) ≡ take n files
take_on_last change n [] lt = absurd (omega (arith, lt))
take_on_last change zero (f ∷ []) lt = refl
take_on_last change zero (f ∷ g ∷ files) lt = refl
take_on_last change (suc n) (f ∷ []) lt = absurd (omega (arith, lt))
take_on_last change (suc n) (f ∷ g ∷ files) lt = ap (λ (fs : List NumberedBytes). f ∷ fs) (take_on_last change n (g ∷ files) (omega (arith, lt)))

-- files before the last one stand as they were begun
oldest_stand : (acts : List Act) (files : List NumberedBytes) (n : ℕ) → MayStand acts files → n < length (begun acts) → take n files ≡ take n (begun acts)
oldest_stand [] files n s lt = ap (take n) s
oldest_stand (Put bytes ∷ acts) files n s lt =
    let few : n < length (begun acts) = let e = length_on_last (λ (b : List ℕ). b ++ bytes) (begun acts) in omega (arith, e, lt) in
    elim s [
      | inl before ↦ oldest_stand acts files n before few ∙ sym (take_on_last (λ (b : List ℕ). b ++ bytes) n (begun acts) few)
      | inr f ↦ ap (take n) f.put ∙ take_on_last (λ (b : List ℕ). b ++ f.front) n (begun acts) few ∙ sym (take_on_last (λ (b : List ℕ). b ++ bytes) n (begun acts) few)
    ]
oldest_stand (Begin seq ∷ acts) files n s lt =
    let few : n ≤ length (begun acts) = let e = length-append (begun acts) ((seq, []) ∷ []) in omega (arith, e, lt) in
    elim s [ inl is ↦ ap (take n) is ∙ sym (take-append-le n (begun acts) ((seq, []) ∷ []) few) | inr is ↦ ap (take n) is ]
oldest_stand (Sync ∷ acts) files n s lt = ap (take n) s
oldest_stand (Delete ∷ acts) files n s lt = oldest_stand acts files n s lt
oldest_stand (Cut len ∷ acts) files n s lt =
    let few : n < length (begun acts) = let e = length_on_last (λ (b : List ℕ). take len b) (begun acts) in omega (arith, e, lt) in
    elim s [ inl before ↦ oldest_stand acts files n before few ∙ sym (take_on_last (λ (b : List ℕ). take len b) n (begun acts) few) | inr is ↦ ap (take n) is ]
oldest_stand (Found found ∷ acts) files n s lt = ap (take n) s
oldest_stand (Read place bytes ∷ acts) files n s lt = oldest_stand acts files n s lt
oldest_stand (Unsynced ∷ acts) files n s lt = oldest_stand acts files n s lt

-- the files hold a prefix of the batches without those of so many oldest files
pub record RestBehind (queue : LogQueue) (version : Version) (acts : List Act) (synced h : List Event) (files : List NumberedBytes) (gone : ℕ) : Type 0 where
  pub deleted : List Event
  pub of_deleted : FilesHold queue version (take gone (begun acts)) deleted
  pub rest : List Event
  pub is_front : IsPrefixWith synced h (deleted ++ rest)
  pub held : FilesHoldTorn queue version files rest

module _ (queue : LogQueue) (version : Version) where
  -- where nothing is lost, the deleted files and those that are there
  pub whole_rest : (asked : List Ask) (synced h : List Event) → ArePutWhole queue version (acts_on queue asked) synced h
      → AreHeldInTurn (FilesHold queue version (take (deletions (acts_on queue asked)) (begun (acts_on queue asked)))) (FilesHold queue version (files_of queue asked)) h
  whole_rest asked synced h p =
      let acts = acts_on queue asked in
      let n = deletions acts in
      let all = subst (λ (fs : List NumberedBytes). FilesHold queue version fs h) (sym (take-append-drop n (begun acts))) p.whole in
      each_cut (λ (file : NumberedBytes) (g : List Event). HoldsFrom (whole_file queue version file) 0 g) (take n (begun acts)) (drop n (begun acts)) h all

  -- the oldest files, and those behind them
  pub oldest_held : (n : ℕ) (files : List NumberedBytes) (h : List Event) → n < length files → FilesHoldTorn queue version files h
      → AreHeldInTurn (FilesHold queue version (take n files)) (FilesHoldTorn queue version (drop n files)) h
  oldest_held n [] h lt t = absurd (omega (arith, lt))
  oldest_held zero (f ∷ files) h lt t = record { first = []; rest = h; first_held = refl; rest_held = t; split = refl }
  oldest_held (suc n) (f ∷ files) h lt t =
      let a = more_torn queue version f files h (omega (arith, lt)) t in
      let r = oldest_held n files a.rest (omega (arith, lt)) a.rest_held in
      record {
        first = a.first ++ r.first;
        rest = r.rest;
        first_held = record { first = a.first; rest = r.first; first_held = a.first_held; rest_held = r.first_held; split = refl };
        rest_held = r.rest_held;
        split = a.split ∙ ap (λ (g : List Event). a.first ++ g) r.split ∙ sym (append_assoc a.first r.first r.rest);
      }

  module _ (asked : List Ask) (synced h : List Event) (files : List NumberedBytes) (put : ArePut queue version (acts_on queue asked) synced h)
      (few : deletions (acts_on queue asked) < length (begun (acts_on queue asked))) (l : IsLeftOf queue asked files) (f : HoldPrefixWith queue version synced h l.standing) where
    within : l.gone < length (begun (acts_on queue asked))
    within = let m = l.at_most in omega (arith, m, few)

    same : take l.gone l.standing ≡ take l.gone (begun (acts_on queue asked))
    same = oldest_stand (acts_on queue asked) l.standing l.gone l.stands within

    -- files are left
    some_rest : l.gone < length l.standing → RestBehind queue version (acts_on queue asked) synced h files l.gone
    some_rest some =
        let r = oldest_held l.gone l.standing f.front some f.held in
        record {
          deleted = r.first;
          of_deleted = subst (λ (fs : List NumberedBytes). FilesHold queue version fs r.first) same r.first_held;
          rest = r.rest;
          is_front = subst (IsPrefixWith synced h) r.split f.is_front;
          held = subst (λ (fs : List NumberedBytes). FilesHoldTorn queue version fs r.rest) (sym l.left) r.rest_held;
        }

    -- none is left
    no_rest : length l.standing ≤ l.gone → RestBehind queue version (acts_on queue asked) synced h files l.gone
    no_rest none =
        let r = oldest_held l.gone (begun (acts_on queue asked)) h within (all_held queue version (acts_on queue asked) synced h put) in
        let all : l.standing ≡ take l.gone (begun (acts_on queue asked)) = sym (take_all l.gone l.standing none) ∙ same in
        let front : f.front ≡ r.first = one_reading queue version (take l.gone (begun (acts_on queue asked))) f.front r.first
        (subst (λ (fs : List NumberedBytes). FilesHoldTorn queue version fs f.front) all f.held) (whole_torn queue version (take l.gone (begun (acts_on queue asked))) r.first r.first_held) in
        record {
          deleted = r.first;
          of_deleted = r.first_held;
          rest = [];
          is_front = subst (IsPrefixWith synced h) (front ∙ sym (append-nil r.first)) f.is_front;
          held = subst (λ (fs : List NumberedBytes). FilesHoldTorn queue version fs []) (sym (l.left ∙ drop_all l.gone l.standing none)) refl;
        }

  pub rest_behind : (asked : List Ask) (synced h : List Event) (files : List NumberedBytes) → ArePut queue version (acts_on queue asked) synced h
      → deletions (acts_on queue asked) < length (begun (acts_on queue asked)) → (l : IsLeftOf queue asked files)
      → RestBehind queue version (acts_on queue asked) synced h files l.gone
  rest_behind asked synced h files put few l =
      let f = prefix_left queue version (acts_on queue asked) synced h l.standing put l.stands in
      elim (cases_lt l.gone (length l.standing)) [
        | inl some ↦ some_rest asked synced h files put few l f some
        | inr none ↦ no_rest asked synced h files put few l f none
      ]

  pub rest_left : (asked : List Ask) (synced h : List Event) (files : List NumberedBytes) → ArePut queue version (acts_on queue asked) synced h
      → deletions (acts_on queue asked) < length (begun (acts_on queue asked)) → IsLeftOf queue asked files → HoldRestOfPrefix queue version asked synced h files
  rest_left asked synced h files put few l =
      let r = rest_behind asked synced h files put few l in
      record {
        gone = l.gone;
        at_least = l.at_least;
        at_most = l.at_most;
        deleted = r.deleted;
        of_deleted = r.of_deleted;
        rest = r.rest;
        is_front = r.is_front;
        held = r.held;
      }
