-- What is left of files of which the oldest are deleted, where any bytes stand behind the synced ones.
use Rattle.raft_engine_prefixes.proofs.Common.{◌≡◌, ℕ, zero, suc, ◌<◌, ◌≤◌, List, [], ◌∷◌, ◌++◌, length, take, drop, inl, inr, refl, sym, ap, ◌∙◌, subst, arith, append_assoc, append-nil, length-append, cases_lt, take_all, drop_all, take-append-le, LogQueue, Version, Event, Act}
use Rattle.raft_engine_prefixes.proofs.Common.{Put, Begin, Sync, Unsynced, Delete, Cut, Found, Read, Ask, acts_on, IsAnyPut, IsLeftUnordered, MayStandUnordered, NumberedBytes, put_behind, cut_last, begun, deletions, synced_files, length_on_last, FilesHold, FilesHoldTorn, ArePut}
use Rattle.raft_engine_prefixes.proofs.Common.{FilesHoldPrefix, FilesBeginWith, BeginWithSynced, IsUnforgedLeftOf, numbers}
use Rattle.raft_engine_prefixes.proofs.PrefixLemmas.{all_held}
use Rattle.raft_engine_prefixes.proofs.TornLemmas.{whole_torn}
use Rattle.raft_engine_prefixes.proofs.RestLemmas.{RestBehind, take_on_last, oldest_held}
use Rattle.raft_engine_prefixes.proofs.NumberLemmas.{numbers_more, numbers_on_last}
use Rattle.raft_engine_prefixes.proofs.AnyTailLemmas.{any_begins, synced_more, more_prefix, reads_prefix}

none_lost : (xs ys : List ℕ) → xs ≡ ys → (rest : List ℕ) × (xs ≡ ys ++ rest)
none_lost xs ys e = ([], e ∙ sym (append-nil ys))

numbers_synced : (acts : List Act) → numbers (begun acts) ≡ numbers (synced_files acts)
numbers_synced acts = let k = synced_more acts in ap numbers k.put ∙ numbers_on_last (λ (b : List ℕ). b ++ k.rest) (synced_files acts)

-- the numbers of what stands are the first of the numbers of all files
pub any_stand : (acts : List Act) (files : List NumberedBytes) → MayStandUnordered acts files → (rest : List ℕ) × (numbers (begun acts) ≡ numbers files ++ rest)
any_stand [] files s = none_lost [] (numbers files) (ap numbers (sym s))
any_stand (Put bytes ∷ acts) files s =
    let same = numbers_on_last (λ (b : List ℕ). b ++ bytes) (begun acts) in
    elim s [
      | inl before ↦ let r = any_stand acts files before in (r.0, same ∙ r.1)
      | inr f ↦ none_lost (numbers (put_behind bytes (begun acts))) (numbers files) (same ∙ numbers_synced acts ∙ sym (ap numbers f.put ∙ numbers_on_last (λ (b : List ℕ). b ++ f.rest) (synced_files acts)))
    ]
any_stand (Begin seq ∷ acts) files s =
    elim s [
      | inl is ↦ (seq ∷ [], numbers_more (begun acts) seq ∙ ap (λ (fs : List NumberedBytes). numbers fs ++ seq ∷ []) (sym is))
      | inr is ↦ none_lost (numbers (begun acts ++ (seq, []) ∷ [])) (numbers files) (ap numbers (sym is))
    ]
any_stand (Sync ∷ acts) files s = none_lost (numbers (begun acts)) (numbers files) (ap numbers (sym s))
any_stand (Delete ∷ acts) files s = any_stand acts files s
any_stand (Cut len ∷ acts) files s =
    let same = numbers_on_last (λ (b : List ℕ). take len b) (begun acts) in
    elim s [
      | inl before ↦ let r = any_stand acts files before in (r.0, same ∙ r.1)
      | inr f ↦ none_lost (numbers (cut_last len (begun acts))) (numbers files)
          (numbers_synced (Cut len ∷ acts) ∙ sym (ap numbers f.put ∙ numbers_on_last (λ (b : List ℕ). b ++ f.rest) (cut_last len (synced_files acts))))
    ]
any_stand (Found found ∷ acts) files s = none_lost (numbers found) (numbers files) (ap numbers (sym s))
any_stand (Read place bytes ∷ acts) files s = any_stand acts files s
any_stand (Unsynced ∷ acts) files s = any_stand acts files s

-- files before the last one stand as they were begun
oldest_behind : (acts : List Act) (files : List NumberedBytes) (n : ℕ) → IsAnyPut (synced_files acts) files → n < length (begun acts) → take n files ≡ take n (begun acts)
oldest_behind acts files n f lt =
    let k = synced_more acts in
    let few : n < length (synced_files acts) = let e = ap length k.put ∙ length_on_last (λ (b : List ℕ). b ++ k.rest) (synced_files acts) in omega (arith, e, lt) in
    ap (take n) f.put ∙ take_on_last (λ (b : List ℕ). b ++ f.rest) n (synced_files acts) few ∙ sym (ap (take n) k.put ∙ take_on_last (λ (b : List ℕ). b ++ k.rest) n (synced_files acts) few)

pub any_oldest : (acts : List Act) (files : List NumberedBytes) (n : ℕ) → MayStandUnordered acts files → n < length (begun acts) → take n files ≡ take n (begun acts)
any_oldest [] files n s lt = ap (take n) s
any_oldest (Put bytes ∷ acts) files n s lt =
    let few : n < length (begun acts) = let e = length_on_last (λ (b : List ℕ). b ++ bytes) (begun acts) in omega (arith, e, lt) in
    let same = take_on_last (λ (b : List ℕ). b ++ bytes) n (begun acts) few in
    elim s [
      | inl before ↦ any_oldest acts files n before few ∙ sym same
      | inr f ↦ oldest_behind acts files n f few ∙ sym same
    ]
any_oldest (Begin seq ∷ acts) files n s lt =
    let few : n ≤ length (begun acts) = let e = length-append (begun acts) ((seq, []) ∷ []) in omega (arith, e, lt) in
    elim s [ inl is ↦ ap (take n) is ∙ sym (take-append-le n (begun acts) ((seq, []) ∷ []) few) | inr is ↦ ap (take n) is ]
any_oldest (Sync ∷ acts) files n s lt = ap (take n) s
any_oldest (Delete ∷ acts) files n s lt = any_oldest acts files n s lt
any_oldest (Cut len ∷ acts) files n s lt =
    let few : n < length (begun acts) = let e = length_on_last (λ (b : List ℕ). take len b) (begun acts) in omega (arith, e, lt) in
    elim s [
      | inl before ↦ any_oldest acts files n before few ∙ sym (take_on_last (λ (b : List ℕ). take len b) n (begun acts) few)
      | inr f ↦ oldest_behind (Cut len ∷ acts) files n f lt
    ]
any_oldest (Found found ∷ acts) files n s lt = ap (take n) s
any_oldest (Read place bytes ∷ acts) files n s lt = any_oldest acts files n s lt
any_oldest (Unsynced ∷ acts) files n s lt = any_oldest acts files n s lt

module _ (queue : LogQueue) (version : Version) where
  record OldestPrefix (n : ℕ) (files : List NumberedBytes) (h : List Event) : Type 0 where
    pub first : List Event
    pub rest : List Event
    pub first_held : FilesHold queue version (take n files) first
    pub rest_held : FilesHoldPrefix queue version (drop n files) rest
    pub split : h ≡ first ++ rest

  oldest_prefix : (n : ℕ) (files : List NumberedBytes) (h : List Event) → n < length files → FilesHoldPrefix queue version files h → OldestPrefix n files h
  oldest_prefix n [] h lt t = absurd (omega (arith, lt))
  oldest_prefix zero (f ∷ files) h lt t = record { first = []; rest = h; first_held = refl; rest_held = t; split = refl }
  oldest_prefix (suc n) (f ∷ files) h lt t =
      let a = more_prefix queue version f files h (omega (arith, lt)) t in
      let r = oldest_prefix n files a.rest (omega (arith, lt)) a.rest_held in
      record {
        first = a.first ++ r.first;
        rest = r.rest;
        first_held = record { first = a.first; rest = r.first; first_held = a.first_held; rest_held = r.first_held; split = refl };
        rest_held = r.rest_held;
        split = a.split ∙ ap (λ (g : List Event). a.first ++ g) r.split ∙ sym (append_assoc a.first r.first r.rest);
      }

  -- where all files are gone that stand, they are the oldest of those that were begun, which hold their batches whole
  module _ (asked : List Ask) (synced h : List Event) (files : List NumberedBytes) (put : ArePut queue version (acts_on queue asked) synced h)
      (few : deletions (acts_on queue asked) < length (begun (acts_on queue asked))) (l : IsLeftUnordered queue asked files) where
    within : l.gone < length (begun (acts_on queue asked))
    within = let m = l.at_most in omega (arith, m, few)

    same : take l.gone l.standing ≡ take l.gone (begun (acts_on queue asked))
    same = any_oldest (acts_on queue asked) l.standing l.gone l.stands within

    b : FilesBeginWith queue version l.standing synced
    b = any_begins queue version (acts_on queue asked) synced h l.standing put l.stands

    some_rest : l.gone < length l.standing → BeginWithSynced queue version asked synced files
    some_rest some =
        let r = oldest_prefix l.gone l.standing b.all some b.held in
        record {
          gone = l.gone;
          at_least = l.at_least;
          at_most = l.at_most;
          deleted = r.first;
          of_deleted = subst (λ (fs : List NumberedBytes). FilesHold queue version fs r.first) same r.first_held;
          rest = r.rest;
          held = subst (λ (fs : List NumberedBytes). FilesHoldPrefix queue version fs r.rest) (sym l.left) r.rest_held;
          first = (b.more, sym r.split ∙ b.split);
        }

    no_rest : length l.standing ≤ l.gone → BeginWithSynced queue version asked synced files
    no_rest none =
        let r = oldest_held queue version l.gone (begun (acts_on queue asked)) h within (all_held queue version (acts_on queue asked) synced h put) in
        let all : l.standing ≡ take l.gone (begun (acts_on queue asked)) = sym (take_all l.gone l.standing none) ∙ same in
        let front = reads_prefix queue version (take l.gone (begun (acts_on queue asked))) b.all r.first
        (subst (λ (fs : List NumberedBytes). FilesHoldPrefix queue version fs b.all) all b.held) (whole_torn queue version (take l.gone (begun (acts_on queue asked))) r.first r.first_held) in
        record {
          gone = l.gone;
          at_least = l.at_least;
          at_most = l.at_most;
          deleted = r.first;
          of_deleted = r.first_held;
          rest = [];
          held = subst (λ (fs : List NumberedBytes). FilesHoldPrefix queue version fs []) (sym (l.left ∙ drop_all l.gone l.standing none)) refl;
          first = (b.more ++ front.0, append-nil r.first ∙ front.1 ∙ ap (λ (g : List Event). g ++ front.0) b.split ∙ append_assoc synced b.more front.0);
        }

    begin_left : (x : BeginWithSynced queue version asked synced files) × (x.gone ≡ l.gone)
    unfolding some_rest no_rest
    begin_left =
        elim (cases_lt l.gone (length l.standing)) [
          | inl some ↦ (some_rest some, refl)
          | inr none ↦ (no_rest none, refl)
        ]

    -- what is read behind the deleted batches begins with the synced ones
    pub read_left : (read : List Event) → FilesHoldTorn queue version files read
        → (deleted : List Event) × (more : List Event) × FilesHold queue version (take l.gone (begun (acts_on queue asked))) deleted × (deleted ++ read ≡ synced ++ more)
    read_left read held =
        let x = begin_left in
        let g = reads_prefix queue version files x.0.rest read x.0.held held in
        let deleted = subst (λ (n : ℕ). FilesHold queue version (take n (begun (acts_on queue asked))) x.0.deleted) x.1 x.0.of_deleted in (
          x.0.deleted,
          x.0.first.0 ++ g.0,
          deleted,
          ap (λ (t : List Event). x.0.deleted ++ t) g.1 ∙ sym (append_assoc x.0.deleted x.0.rest g.0) ∙ ap (λ (t : List Event). t ++ g.0) x.0.first.1 ∙ append_assoc synced x.0.first.0 g.0,
        )

  pub begins_left : (asked : List Ask) (synced h : List Event) (files : List NumberedBytes) → ArePut queue version (acts_on queue asked) synced h
      → deletions (acts_on queue asked) < length (begun (acts_on queue asked)) → IsLeftUnordered queue asked files → BeginWithSynced queue version asked synced files
  begins_left asked synced h files put few l = (begin_left asked synced h files put few l).0

  -- what is read then is a prefix of the batches behind those of the deleted files, if nothing is forged
  pub unforged_behind : (asked : List Ask) (synced h : List Event) (files : List NumberedBytes) (read : List Event) → ArePut queue version (acts_on queue asked) synced h
      → deletions (acts_on queue asked) < length (begun (acts_on queue asked)) → (l : IsUnforgedLeftOf queue version asked files) → FilesHoldTorn queue version files read
      → (r : RestBehind queue version (acts_on queue asked) synced h files l.of_disk.gone) × (r.rest ≡ read)
  unforged_behind asked synced h files read put few l held =
      let x = read_left asked synced h files put few l.of_disk read held in
      let f = l.unforged h x.0 read (all_held queue version (acts_on queue asked) synced h put) x.2 held in (
        record {
          deleted = x.0;
          of_deleted = x.2;
          rest = read;
          is_front = record { more = x.1; lost = f.0; least = x.3; split = f.1 };
          held = held;
        },
        refl,
      )
