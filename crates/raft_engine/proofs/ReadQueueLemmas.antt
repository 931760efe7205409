-- Files of a queue that a machine has replayed up to where the reading of the last one stops.
use Rattle.raft_engine.proofs.Common.{◌≡◌, ◌≢◌, ◌↔◌, ℕ, zero, suc, ◌+◌, ◌<◌, ◌≤◌, List, [], ◌∷◌, ◌++◌, Vec, length, take, drop, Option, Some, None, Result, Ok, Err, IfOk, inl, inr, refl, sym, ap, ◌∙◌, subst, append_assoc, arith, length-take-le, length-drop, take-append-drop}
use Rattle.raft_engine.proofs.Common.{take-map, take-take, take_all, take_at, Global, signature_in, Error, LogFileContext, LogQueue, Version, Part, IsNextFault, StandBetween, part_of, Item, batch_inside, Event, Apart, IsSmall, apart_back, apart_front, small_back, small_front}
use Rattle.raft_engine.proofs.Common.{NumberedBytes, bytes_before, HasReplayed, IsReplayed, HoldsFrom, SegmentsHold, IsUnreadableAt, history_in, AreWholeFiles, FilesHold, segment_shown, whole_file, as_many, same_read, FilesHoldTorn, HoldsTornFrom, StopsAt, end_unreadable}
use Rattle.raft_engine.proofs.Common.{one_file, stand_up_to, stands_as, torn_more, untorn, IsTailTold, IsTornAs, IsLastOf, IsHistoryUpTo, IsReadUpTo, IsReplayedTo, CutTail, IsTailFrom}
use Rattle.raft_base.specs.declared.errors.Error.TheVariants as errors
use Rattle.raft_engine.proofs.FoundLemmas.{one_last}
use Rattle.raft_engine.proofs.FoundQueueLemmas.{is_tail}
use Rattle.raft_engine.proofs.ReadyLemmas.{no_last}

-- ---- the batches in front of a byte

stand_rises : (part : Part) (i end : ℕ) (bs : List (List Item)) → StandBetween part i end bs → i ≤ end
stand_rises part i end [] is = omega (arith, is)
stand_rises part i end (b ∷ bs) s =
    let n = batch_inside part i b s.0 s.1 in
    let more = stand_rises part s.0 end bs s.2 in
    omega (arith, n.0, more)

-- what stands in front of a byte is held by the bytes before it
pub held_before : (part : Part) (at i : ℕ) (bs : List (List Item)) → at ≤ length part.bytes → StandBetween part i at bs → HoldsFrom (bytes_before part at) i (history_in part bs)
held_before part at i [] inside is = is ∙ sym (length-take-le at part.bytes inside)
held_before part at i (b ∷ bs) inside s =
    let same : take s.0 (take at part.bytes) ≡ take s.0 part.bytes = take-take s.0 at part.bytes (stand_rises part s.0 at bs s.2) in
    (refl, (s.0, stands_as part (take at part.bytes) i s.0 b s.1 same, held_before part at s.0 bs inside s.2))

-- the bytes that are lent are those of the part
pub same_part : (file : LogFileContext) (part : Part) (context : LogFileContext) (offset : ℕ) (bytes : List ℕ) → file ≡ context → context.id ≡ part.id → context.version ≡ part.version
    → offset ≡ part.offset → bytes ≡ part.bytes → part_of file offset bytes ≡ part
same_part file part context offset bytes is id version at held =
    ap (λ (f : LogFileContext). part_of f offset bytes) is ∙ (λ i. record { id = id i; version = version i; offset = at i; bytes = held i })

module _ {M : Type 0} (stands_for stands_exactly : M → List Event → Type 0) where
  -- a machine that has replayed what stands in front of a byte at which no batch can be read
  pub replayed_prefix : (part : Part) (at : ℕ) (old new : M) (tail : Option CutTail) → HasReplayed (IsHistoryUpTo part at) stands_for stands_exactly old new → at ≤ length part.bytes
      → IsUnreadableAt part at → IsTornAs part tail → IsReplayedTo stands_for stands_exactly part old new tail
  replayed_prefix part at old new tail r inside torn told = record {
    history = r.history;
    held = record { at = at; inside = inside; held = subst (HoldsFrom (bytes_before part at) 0) (sym r.held.2) (held_before part at 0 r.held.0 inside r.held.1); torn = torn };
    told = told;
    stands = r.stands;
    exact = λ h small apart stood. r.exact h small stood;
  }

  -- the same of lent bytes, by what the replay says: it came to their end, or to a byte at which no batch can be read
  module _ (part file : Part) (same : part ≡ file) (at : ℕ) (old new : M) (r : HasReplayed (IsHistoryUpTo part at) stands_for stands_exactly old new) where
    pub replayed_to_end : at ≡ length part.bytes → IsReplayedTo stands_for stands_exactly file old new None
    replayed_to_end ends = subst (λ (p : Part). IsReplayedTo stands_for stands_exactly p old new None) same
        (replayed_prefix part at old new None r (omega (arith, ends)) (end_unreadable part at ends)
        (subst (StopsAt part) ends (record { batches = (r.held.0, r.held.1); stops = inl ends })))

    pub replayed_to_tail : (error : Error) → at < length part.bytes → IsUnreadableAt part at → IsNextFault (signature_in part.version part.id.seq) (drop at part.bytes) error → error ≢ errors.Memory
        → (tail : CutTail) → IsTailFrom file at error tail → IsReplayedTo stands_for stands_exactly file old new (Some tail)
    replayed_to_tail error before none why other tail from = subst (λ (p : Part). IsReplayedTo stands_for stands_exactly p old new (Some tail)) same
        (replayed_prefix part at old new (Some tail) r (omega (arith, before)) none
        (is_tail part at error tail (subst (λ (p : Part). IsTailFrom p at error tail) (sym same) from) (record { batches = (r.held.0, r.held.1); stops = inr none }) before why other))

  -- segments of which the same is read
  pub same_replayed : (segments shares slice : List (Vec Part Global)) → slice ≡ shares → ((h : List Event) → SegmentsHold segments h ↔ SegmentsHold shares h) → (r : Result M Error)
      → IfOk r (IsReplayed stands_for stands_exactly slice) → IfOk r (IsReplayed stands_for stands_exactly segments)
  same_replayed segments shares slice is same (Err e) read = tt
  same_replayed segments shares slice is same (Ok m) read = record {
    history = read.history;
    held = (same read.history).1 (subst (λ (ss : List (Vec Part Global)). SegmentsHold ss read.history) is read.held);
    stands = read.stands;
    exact = read.exact;
  }

-- a part that holds batches ends with them
pub ends_with : (part : Part) (h : List Event) → HoldsFrom part 0 h → StopsAt part (length part.bytes)
ends_with part h held =
    record { batches = (_, stand_up_to part (length part.bytes) 0 h (omega arith) (subst (λ (xs : List ℕ). HoldsFrom (record part { bytes = xs }) 0 h) (sym (take_all (length part.bytes) part.bytes (omega arith))) held)); stops = inl refl }

pub front_of : {A : Type 0} (ss closed last : List A) (n : ℕ) → ss ≡ closed ++ last → n ≡ length closed → closed ≡ take n ss
front_of ss closed last n e is = sym (ap (λ (k : ℕ). take k ss) is ∙ ap (take (length closed)) e ∙ take_at closed last (length closed) refl)

-- ---- whole files

module _ (queue : LogQueue) (version : Version) where
  abbrev whole : NumberedBytes → List Part
  whole file = whole_file queue version file ∷ []

  pub whole_front : (files : List NumberedBytes) (ss : List (Vec Part Global)) (n : ℕ) → AreWholeFiles queue version files ss → AreWholeFiles queue version (take n files) (take n ss)
  whole_front files ss n all = sym (take-map segment_shown n ss) ∙ ap (take n) all ∙ take-map whole n files

  pub whole_back : (files : List NumberedBytes) (ss : List (Vec Part Global)) (n : ℕ) → AreWholeFiles queue version files ss → AreWholeFiles queue version (drop n files) (drop n ss)
  whole_back files ss zero all = all
  whole_back [] [] (suc n) all = all
  whole_back [] (s ∷ ss) (suc n) all = absurd cc
  whole_back (f ∷ files) [] (suc n) all = absurd cc
  whole_back (f ∷ files) (s ∷ ss) (suc n) all = whole_back files ss n cc

  -- the last of files, behind so many
  pub record IsLastFile (files : List NumberedBytes) (n : ℕ) : Type 0 where
    pub last : NumberedBytes
    pub is : drop n files ≡ last ∷ []
    pub split : files ≡ take n files ++ last ∷ []

  one_left : (l : List NumberedBytes) → length l ≡ 1 → (last : NumberedBytes) × (l ≡ last ∷ [])
  one_left [] e = absurd (omega (arith, e))
  one_left (x ∷ []) e = (x, refl)
  one_left (x ∷ y ∷ l) e = absurd (omega (arith, e))

  pub last_file : (files : List NumberedBytes) (ss : List (Vec Part Global)) (n : ℕ) → n + 1 ≡ length ss → AreWholeFiles queue version files ss → IsLastFile files n
  last_file files ss n many all =
      let same = as_many queue version files ss all in
      let left = length-drop n files in
      let one = one_left (drop n files) (omega (arith, many, same, left)) in
      record { last = one.0; is = one.1; split = sym (take-append-drop n files) ∙ ap (λ (l : List NumberedBytes). take n files ++ l) one.1 }

  -- files that hold batches, and one behind them that may end in a tail
  torn_behind : (closed : List NumberedBytes) (file : NumberedBytes) (h g : List Event) → FilesHold queue version closed h → HoldsTornFrom (whole_file queue version file) 0 g
      → FilesHoldTorn queue version (closed ++ file ∷ []) (h ++ g)
  torn_behind [] file h g none held = subst (λ (l : List Event). HoldsTornFrom (whole_file queue version file) 0 (l ++ g)) (sym none) held
  torn_behind (c ∷ closed) file h g first held =
      torn_more queue version c (closed ++ file ∷ []) (h ++ g) (some closed) (record {
        first = first.first;
        rest = first.rest ++ g;
        first_held = first.first_held;
        rest_held = torn_behind closed file first.rest g first.rest_held held;
        split = ap (λ (l : List Event). l ++ g) first.split ∙ append_assoc first.first first.rest g;
      })
    where
      some : (l : List NumberedBytes) → 0 < length (l ++ file ∷ [])
      some [] = omega arith
      some (x ∷ l) = omega arith

  -- one file alone is the last one
  pub only_last : (file : NumberedBytes) (part : Part) → IsLastOf queue version (file ∷ []) part → part ≡ whole_file queue version file
  only_last file part l = l.is ∙ ap (whole_file queue version) (one_last l.closed [] l.last file (sym l.split))

  pub told_of : (files closed : List NumberedBytes) (last : NumberedBytes) (tail : Option CutTail) → files ≡ closed ++ last ∷ [] → IsTornAs (whole_file queue version last) tail → IsTailTold queue version files tail
  told_of files closed last None split told =
      λ closed' last' e. subst (λ (f : NumberedBytes). StopsAt (whole_file queue version f) (length f.1)) (one_last closed closed' last last' (sym split ∙ e)) told
  told_of files closed last (Some tail) split told = record { closed = closed; last = last; split = split; is = told }

  module _ {M : Type 0} (stands_for stands_exactly : M → List Event → Type 0) where
    -- no file
    pub none_read : (files : List NumberedBytes) (ss : List (Vec Part Global)) (machine : M) → length ss ≡ 0 → AreWholeFiles queue version files ss → IsReplayed stands_for stands_exactly ss machine
        → IsReadUpTo stands_for stands_exactly queue version files machine None
    none_read [] ss machine none all r = record {
      history = r.history;
      held = (same_read queue version [] ss all r.history).1 r.held;
      told = λ closed last e. absurd (no_last closed last e);
      stands = r.stands;
      exact = r.exact;
    }
    none_read (f ∷ files) ss machine none all r = let many = as_many queue version (f ∷ files) ss all in absurd (omega (arith, many, none))

    -- all files but the last, and then that one
    pub last_read : (files : List NumberedBytes) (ss closed : List (Vec Part Global)) (n : ℕ) (l : IsLastFile files n) (old new : M) (tail : Option CutTail) → AreWholeFiles queue version files ss
        → closed ≡ take n ss → IsReplayed stands_for stands_exactly closed old → IsReplayedTo stands_for stands_exactly (whole_file queue version l.last) old new tail
        → IsReadUpTo stands_for stands_exactly queue version files new tail
    last_read files ss closed n l old new tail all is r s = record {
      history = r.history ++ s.history;
      held = subst (λ (fs : List NumberedBytes). FilesHoldTorn queue version fs (r.history ++ s.history)) (sym l.split)
          (torn_behind (take n files) l.last r.history s.history
          ((same_read queue version (take n files) closed (subst (AreWholeFiles queue version (take n files)) (sym is) (whole_front files ss n all)) r.history).1 r.held) s.held);
      told = told_of files (take n files) l.last tail l.split s.told;
      stands = λ small. s.stands r.history small (r.stands (small_front r.history s.history small));
      exact = λ small apart. s.exact r.history small apart (r.exact (small_front r.history s.history small) (apart_front r.history s.history apart));
    }

    -- what the last segment is of
    pub last_whole_file : (files : List NumberedBytes) (ss last : List (Vec Part Global)) (n : ℕ) (l : IsLastFile files n) → AreWholeFiles queue version files ss → last ≡ drop n ss
        → AreWholeFiles queue version (l.last ∷ []) last
    last_whole_file files ss last n l all is = subst (λ (fs : List NumberedBytes). AreWholeFiles queue version fs last) l.is (subst (AreWholeFiles queue version (drop n files)) (sym is) (whole_back files ss n all))

    -- the last file, whose batches another machine has replayed that was merged
    pub merged_last : (file : NumberedBytes) (ss : List (Vec Part Global)) (old newer new : M) → AreWholeFiles queue version (file ∷ []) ss → IsReplayed stands_for stands_exactly ss newer
        → ((h g : List Event) → IsSmall (h ++ g) → stands_for old h → stands_for newer g → stands_for new (h ++ g))
        → ((h g : List Event) → IsSmall (h ++ g) → Apart (h ++ g) → stands_exactly old h → stands_exactly newer g → stands_exactly new (h ++ g))
        → IsReplayedTo stands_for stands_exactly (whole_file queue version file) old new None
    merged_last file ss old newer new all r stands exact =
        let held = one_file queue version file r.history ((same_read queue version (file ∷ []) ss all r.history).1 r.held) in
        record {
          history = r.history;
          held = untorn (whole_file queue version file) r.history held;
          told = ends_with (whole_file queue version file) r.history held;
          stands = λ h small stood. stands h r.history small stood (r.stands (small_back h r.history small));
          exact = λ h small apart stood. exact h r.history small apart stood (r.exact (small_back h r.history small) (apart_back h r.history apart));
        }
