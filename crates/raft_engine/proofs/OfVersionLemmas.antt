-- Files that aren't of the other version.
use Rattle.raft_engine.proofs.Common.{◌≡◌, ◌⊎◌, inl, inr, ℕ, zero, suc, ◌<◌, ◌≤◌, List, [], ◌∷◌, ◌++◌, codes, length, take, drop, refl, sym, ap, ◌∙◌, subst, arith, append_assoc, append-nil, cases_lt, length-append, take-append-drop, take-append-le, take_at, LogQueue, Version}
use Rattle.raft_engine.proofs.Common.{HasNoFront, IsBatchAt, Part, IsHeader, Item, part_signature, readable, unknown_type, Event, Act, Begin, Cut, Delete, Found, NumberedBytes, Put, Read, Sync, Unsynced, IsFrontPut, MayStand, begun, put_behind, last_of, HoldsFrom, IsUnreadableAt}
use Rattle.raft_engine.proofs.Common.{batch_none, FilesHold, whole_file, shorter_unreadable, one_file, stands_as, BeginsInOther, IsLastOfOther, IsOfEngine, IsOfOther, engine_header, in_other, PrefixesAreNotOther, NoneIsOther, StaysOfVersion, WhatIsLeftIsNotOther}
use Rattle.raft_engine.proofs.FoundLemmas.{begins_some, one_last}

-- ---- bytes

-- a prefix of bytes that begin with a batch doesn't begin with one of the other version, where none of its own can be read
not_in_other : (part : Part) (more : List ℕ) (items : List Item) (next : ℕ) → IsBatchAt (record part { bytes = part.bytes ++ more }) 0 items next → IsUnreadableAt part 0 → ¬ (BeginsInOther part)
not_in_other part more items next b none o = elim (cases_lt (length part.bytes) (length b.bytes)) [ inl shorter ↦ short shorter | inr within ↦ long within ]
  where
    whole : Part
    whole = record part { bytes = part.bytes ++ more }

    -- the batch is longer than the part
    short : length part.bytes < length b.bytes → ⊥
    short shorter =
        let n = length part.bytes in
        let front : part.bytes ≡ take n b.bytes = sym (take_at part.bytes more n refl) ∙ ap (take n) b.stands ∙ take-append-le n b.bytes (drop next whole.bytes) (omega (arith, shorter)) in
        let split : b.bytes ≡ part.bytes ++ drop n b.bytes = sym (take-append-drop n b.bytes) ∙ ap (λ (l : List ℕ). l ++ drop n b.bytes) (sym front) in
        batch_none (in_other part) 0 o.0 o.1
        (shorter_unreadable b.bytes part.bytes (drop n b.bytes) (part_signature part) (part_signature (in_other part)) b.read (b.between, b.laid_out) split shorter) o.2

    -- it stands in the part
    long : length b.bytes ≤ length part.bytes → ⊥
    long within =
        let ends = b.ends in
        let same : take next part.bytes ≡ take next (part.bytes ++ more) = sym (take-append-le next part.bytes more (omega (arith, ends, within))) in
        batch_none part 0 items next none (stands_as whole part.bytes 0 next items b same)

-- raft-engine's header is that of no batch: its eighth byte would name the compression
no_header : (rest : List ℕ) → HasNoFront IsHeader (engine_header ++ rest)
no_header rest =
    unknown_type (engine_header ++ rest) (codes "-FILE-HEADER" ++ rest) (codes "ADER" ++ rest) 5927095911947456327 3262375572003440709
    (record { front = codes "RAFT-LOG"; spells = record { in_range = omega arith; written = refl }; split = refl })
    (record { front = codes "-FILE-HE"; spells = record { in_range = omega arith; written = refl }; split = refl })
    (λ e. absurd (omega (arith, e)))

-- so no batch stands where it does
not_of_engine : (part : Part) (more : List ℕ) (items : List Item) (next : ℕ) → IsBatchAt (record part { bytes = part.bytes ++ more }) 0 items next → ¬ (IsOfEngine part)
not_of_engine part more items next b e =
    let f = (readable b.bytes (part_signature part) b.read).0 (b.between, b.laid_out) in
    no_header (e.0 ++ more) f.1.header.front (drop 16 b.bytes ++ drop next (part.bytes ++ more)) (f.0, f.1.compression, length b.bytes) f.1.header.spells
    (sym (append_assoc engine_header e.0 more) ∙ ap (λ (l : List ℕ). l ++ more) (sym e.1) ∙ b.stands ∙ ap (λ (l : List ℕ). l ++ drop next (part.bytes ++ more)) f.1.header.split
    ∙ append_assoc f.1.header.front (drop 16 b.bytes) (drop next (part.bytes ++ more)))

pub prefix_not_other : PrefixesAreNotOther
prefix_not_other part more items next b o = elim o.begins [
  | inl other ↦ not_in_other part more items next b o.unreadable other
  | inr engine ↦ not_of_engine part more items next b engine
]

-- a part without bytes
empty_not_other : (part : Part) → length part.bytes ≡ 0 → ¬ (IsOfOther part)
empty_not_other part none o = let some = begins_some part o.begins in omega (arith, none, some)

-- a part that holds batches
held_not_other : (part : Part) (h : List Event) → HoldsFrom part 0 h → ¬ (IsOfOther part)
held_not_other part [] ends o = empty_not_other part (sym ends) o
held_not_other part (e ∷ h) held o = batch_none part 0 e.items held.1.0 o.unreadable held.1.1

-- ---- files

module _ (queue : LogQueue) (version : Version) where
  abbrev Holds : NumberedBytes → List Event → Type 0
  Holds file h = HoldsFrom (whole_file queue version file) 0 h

  pub last_held : (closed : List NumberedBytes) (last : NumberedBytes) (h : List Event) → FilesHold queue version (closed ++ last ∷ []) h → (g : List Event) × Holds last g
  last_held [] last h held = (h, one_file queue version last h held)
  last_held (c ∷ closed) last h held = last_held closed last held.rest held.rest_held

  files_not_other : (files : List NumberedBytes) (h : List Event) → FilesHold queue version files h → ¬ (IsLastOfOther queue version files)
  files_not_other files h held o =
      let l = last_held o.closed o.last h (subst (λ (f : List NumberedBytes). FilesHold queue version f h) o.split held) in
      held_not_other (whole_file queue version o.last) l.0 l.1 o.other

  -- none, or a last one
  pub last_or_none : (files : List NumberedBytes) → (files ≡ []) ⊎ ((closed : List NumberedBytes) × (last : NumberedBytes) × (files ≡ closed ++ last ∷ []))
  last_or_none [] = inl refl
  last_or_none (f ∷ files) = elim (last_or_none files) [
    | inl none ↦ inr ([], f, ap (λ (l : List NumberedBytes). f ∷ l) none)
    | inr l ↦ inr (f ∷ l.0, l.1, ap (λ (l : List NumberedBytes). f ∷ l) l.2)
  ]

  none_last : (closed : List NumberedBytes) (last : NumberedBytes) → [] ≡ closed ++ last ∷ [] → ⊥
  none_last [] last e = absurd cc
  none_last (c ∷ closed) last e = absurd cc

  -- of bytes that are put behind a file, so that it holds batches, a prefix
  prefix_put : (file : NumberedBytes) (front rest : List ℕ) (g : List Event) → Holds (file.0, file.1 ++ (front ++ rest)) g → ¬ (IsOfOther (whole_file queue version (file.0, file.1 ++ front)))
  prefix_put file front rest [] ends o =
      let n = length-append file.1 (front ++ rest) in
      let m = length-append front rest in
      let k = length-append file.1 front in
      empty_not_other (whole_file queue version (file.0, file.1 ++ front)) (omega (arith, ends, n, m, k)) o
  prefix_put file front rest (e ∷ g) held o =
      prefix_not_other (whole_file queue version (file.0, file.1 ++ front)) rest e.items held.1.0
      (subst (λ (bytes : List ℕ). IsBatchAt (whole_file queue version (file.0, bytes)) 0 e.items held.1.0) (sym (append_assoc file.1 front rest)) held.1.1) o

  put_not_other : (bytes : List ℕ) (old new : List NumberedBytes) (h : List Event) → FilesHold queue version (put_behind bytes old) h → IsFrontPut bytes old new → ¬ (IsLastOfOther queue version new)
  put_not_other bytes old new h held f o = go (last_or_none old)
    where
      go : (old ≡ []) ⊎ ((closed : List NumberedBytes) × (last : NumberedBytes) × (old ≡ closed ++ last ∷ [])) → ⊥
      go (inl none) = none_last o.closed o.last (sym (ap (put_behind f.front) none) ∙ sym f.put ∙ o.split)
      go (inr l) =
          let is_last : l.0 ++ (l.1.0, l.1.1 ++ f.front) ∷ [] ≡ o.closed ++ o.last ∷ [] = sym (last_of (λ bs. bs ++ f.front) l.0 l.1) ∙ sym (ap (put_behind f.front) l.2) ∙ sym f.put ∙ o.split in
          let same : (l.1.0, l.1.1 ++ f.front) ≡ o.last = one_last l.0 o.closed (l.1.0, l.1.1 ++ f.front) o.last is_last in
          let whole : put_behind bytes old ≡ l.0 ++ (l.1.0, l.1.1 ++ (f.front ++ f.rest)) ∷ [] = ap (put_behind bytes) l.2 ∙ last_of (λ bs. bs ++ bytes) l.0 l.1
          ∙ ap (λ (bs : List ℕ). l.0 ++ (l.1.0, l.1.1 ++ bs) ∷ []) f.split in
          let g = last_held l.0 (l.1.0, l.1.1 ++ (f.front ++ f.rest)) h (subst (λ (files : List NumberedBytes). FilesHold queue version files h) whole held) in
          prefix_put l.1 f.front f.rest g.0 g.1 (subst (λ (file : NumberedBytes). IsOfOther (whole_file queue version file)) (sym same) o.other)

-- all that was asked may stand
pub whole_stands : (acts : List Act) → MayStand acts (begun acts)
whole_stands [] = refl
whole_stands (Put bytes ∷ acts) = inr record { front = bytes; rest = []; split = sym (append-nil bytes); put = refl }
whole_stands (Begin seq ∷ acts) = inr refl
whole_stands (Sync ∷ acts) = refl
whole_stands (Delete ∷ acts) = whole_stands acts
whole_stands (Cut len ∷ acts) = inr refl
whole_stands (Found files ∷ acts) = refl
whole_stands (Read place bytes ∷ acts) = whole_stands acts
whole_stands (Unsynced ∷ acts) = whole_stands acts

pub stays : (queue : LogQueue) (version : Version) (acts : List Act) → StaysOfVersion queue version acts
stays queue version acts = record {
  found = λ files none standing stands o. none (subst (IsLastOfOther queue version) stands o);
  put = λ bytes h held none standing stands o. elim stands [ inl s ↦ none standing s o | inr f ↦ put_not_other queue version bytes (begun acts) standing h held f o ];
  cut = λ len h held none standing stands o. elim stands [
    | inl s ↦ none standing s o
    | inr cut ↦ files_not_other queue version standing h (subst (λ (f : List NumberedBytes). FilesHold queue version f h) (sym cut) held) o
  ];
  begun = λ seq none standing stands o. elim stands [
    | inl s ↦ all_not_other none (subst (IsLastOfOther queue version) s o)
    | inr s ↦ first_not_other seq (begun acts) (subst (IsLastOfOther queue version) s o)
  ];
  synced = λ none standing stands o. all_not_other none (subst (IsLastOfOther queue version) stands o);
  deleted = λ none standing stands o. none standing stands o;
  read = λ place bytes none standing stands o. none standing stands o;
  unsynced = λ none standing stands o. none standing stands o;
}
  where
    all_not_other : NoneIsOther queue version acts → ¬ (IsLastOfOther queue version (begun acts))
    all_not_other none o = none (begun acts) (whole_stands acts) o

    first_not_other : (seq : ℕ) (files : List NumberedBytes) → ¬ (IsLastOfOther queue version (files ++ (seq, []) ∷ []))
    first_not_other seq files o =
        let same : (seq, []) ≡ o.last = one_last files o.closed (seq, []) o.last o.split in
        empty_not_other (whole_file queue version (seq, [])) refl (subst (λ (file : NumberedBytes). IsOfOther (whole_file queue version file)) (sym same) o.other)

-- without the oldest files
last_of_rest : (queue : LogQueue) (version : Version) (gone : ℕ) (standing : List NumberedBytes) → IsLastOfOther queue version (drop gone standing) → IsLastOfOther queue version standing
last_of_rest queue version zero standing o = o
last_of_rest queue version (suc gone) [] o = o
last_of_rest queue version (suc gone) (f ∷ standing) o =
    let more = last_of_rest queue version gone standing o in
    record { closed = f ∷ more.closed; last = more.last; split = ap (λ (l : List NumberedBytes). f ∷ l) more.split; other = more.other }

-- where nothing was asked
pub nothing_other : (queue : LogQueue) (version : Version) → NoneIsOther queue version []
nothing_other queue version standing stands o = none_last queue version o.closed o.last (sym stands ∙ o.split)

pub left_not_other : WhatIsLeftIsNotOther
left_not_other queue version asks files none l o = none l.standing l.stands (last_of_rest queue version l.gone l.standing (subst (IsLastOfOther queue version) l.left o))
