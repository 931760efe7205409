-- Machines in the order of what they have replayed: one goes on, another begins, all are merged, one is refused.
use Rattle.raft_replay.proofs.Common.{◌≡◌, ◌≢◌, ℕ, zero, suc, ◌+◌, ◌<◌, ◌≤◌, min, IsTrue, nat_eq, List, [], ◌∷◌, ◌++◌, Bool, true, false, cond, Result, Ok, Err, IfOk, IfErr, Vec, sym, refl, ap, ◌∙◌, subst, arith, append_assoc, append-nil}
use Rattle.raft_replay.proofs.Common.{add-one, Decides-eqb, Global, AllByRecursion, recursion_from_All, Error, LogQueue, Part, Event, IsSmall, Sound, AreOfQueue, IsOfQueue, small_front, small_back, sound_front, sound_back, of_both}
use Rattle.raft_replay.proofs.Common.{histories_in_turn, StandForEach, IsMerged, CannotMerge, Merges, HasReplayed, CannotFollow, IsReplayed, AreHeldInTurn, HoldsFrom, EachHolds, SegmentsHold, CannotBeRead, SegmentsAreOf, switches}
use Rattle.raft_replay.proofs.Common.{count_below, pieces_in, AreInOrder, IsUnderway}
use mir.Val.{bool_byte}
use Rattle.raft_base.specs.declared.errors.Error.TheVariants.{Memory}
use Rattle.raft_replay.proofs.Words.{PartHolds, PartsHold, PartsAreOf, SegmentReads}
use Rattle.raft_replay.proofs.MergeLemmas.{joined-append, each-append}
use Rattle.raft_replay.proofs.SegmentLemmas.{segments_unique}

-- ---- what is read of two lists, one behind the other

module _ {A : Type 0} (Holds : A → List Event → Type 0) where
  pub each_join : (xs ys : List A) (g h : List Event) → EachHolds Holds xs g → EachHolds Holds ys h → EachHolds Holds (xs ++ ys) (g ++ h)
  each_join [] ys g h first second = subst (λ (t : List Event). EachHolds Holds ys (t ++ h)) (sym first) second
  each_join (x ∷ xs) ys g h first second = record {
    first = first.first;
    rest = first.rest ++ h;
    first_held = first.first_held;
    rest_held = each_join xs ys first.rest h first.rest_held second;
    split = ap (λ (t : List Event). t ++ h) first.split ∙ append_assoc first.first first.rest h;
  }

  pub each_cut : (xs ys : List A) (h : List Event) → EachHolds Holds (xs ++ ys) h
      → AreHeldInTurn (λ g. EachHolds Holds xs g) (λ g. EachHolds Holds ys g) h
  each_cut [] ys h all = record { first = []; rest = h; first_held = refl; rest_held = all; split = refl }
  each_cut (x ∷ xs) ys h all =
      let cut = each_cut xs ys all.rest all.rest_held in
      record {
        first = all.first ++ cut.first;
        rest = cut.rest;
        first_held = record { first = all.first; rest = cut.first; first_held = all.first_held; rest_held = cut.first_held; split = refl };
        rest_held = cut.rest_held;
        split = all.split ∙ ap (λ (t : List Event). all.first ++ t) cut.split ∙ sym (append_assoc all.first cut.first cut.rest);
      }

  pub each_single : (x : A) (h : List Event) → Holds x h → EachHolds Holds (x ∷ []) h
  each_single x h held = record { first = h; rest = []; first_held = held; rest_held = refl; split = sym (append-nil h) }

  -- one behind others
  pub each_more : (xs more : List A) (x : A) (g h : List Event) → more ≡ xs ++ x ∷ [] → EachHolds Holds xs g → Holds x h → EachHolds Holds more (g ++ h)
  each_more xs more x g h is held one = subst (λ (l : List A). EachHolds Holds l (g ++ h)) (sym is) (each_join xs (x ∷ []) g h held (each_single x h one))

-- ---- what is read of parts of a queue is of the queue

part_of : (queue : LogQueue) (part : Part) (at : ℕ) → part.id.queue ≡ queue → (h : List Event) → HoldsFrom part at h → AreOfQueue queue h
part_of queue part at is [] held = tt
part_of queue part at is (e ∷ h) held = (ap (λ (file : _). file.queue) held.0 ∙ is, part_of queue part held.1.0 is h held.1.2)

each_of : {A : Type 0} (Holds : A → List Event → Type 0) (P : A → Type 0) (queue : LogQueue) → ((x : A) → P x → (h : List Event) → Holds x h → IsOfQueue queue h)
    → (xs : List A) → AllByRecursion P xs → (h : List Event) → EachHolds Holds xs h → IsOfQueue queue h
each_of Holds P queue one [] all h held = subst (IsOfQueue queue) (sym held) record { each = tt }
each_of Holds P queue one (x ∷ xs) all h held =
    subst (IsOfQueue queue) (sym held.split)
    (of_both queue held.first held.rest (one x all.0 held.first held.first_held) (each_of Holds P queue one xs all.1 held.rest held.rest_held))

parts_of : (queue : LogQueue) (parts : List Part) → PartsAreOf queue parts → (h : List Event) → PartsHold parts h → IsOfQueue queue h
parts_of queue parts all =
    each_of PartHolds (λ part. part.id.queue ≡ queue) queue (λ part is h held. record { each = part_of queue part 0 is h held }) parts (recursion_from_All _ parts all)

pub segments_read_of_queue : (queue : LogQueue) (segments : List (Vec Part Global)) → SegmentsAreOf queue segments → (h : List Event) → SegmentsHold segments h → IsOfQueue queue h
segments_read_of_queue queue segments all =
    each_of SegmentReads (λ segment. PartsAreOf queue segment.items) queue (λ segment is h held. parts_of queue segment.items is h held) segments
    (recursion_from_All _ segments all)

-- ---- what can't be read

-- what can't follow the last of some histories can't be read behind them
pub unread_behind : (fronts rest : List (Vec Part Global)) (segment : Vec Part Global) (before last : List Event) (Stood : List Event → Type 0) → SegmentsHold fronts (before ++ last)
    → (IsSmall (before ++ last) → Stood last) → CannotFollow (PartsHold segment.items) Stood → CannotBeRead (fronts ++ segment ∷ rest)
unread_behind fronts rest segment before last Stood read stood cannot = record {
  unsound = λ h held small sound.
      let cut = each_cut SegmentReads fronts (segment ∷ rest) h held in
      let same = segments_unique fronts cut.first (before ++ last) cut.first_held read in
      let next = cut.rest_held in
      let whole : h ≡ before ++ last ++ next.first ++ next.rest =
      cut.split ∙ (λ i. same i ++ next.split i) ∙ sym (append_assoc (before ++ last) next.first next.rest) in
      let few = small_front (before ++ last ++ next.first) next.rest (subst IsSmall whole small) in
      let good = sound_front (before ++ last ++ next.first) next.rest (subst Sound whole sound) in
      let two = append_assoc before last next.first in
      cannot.unsound last next.first next.first_held (small_back before (last ++ next.first) (subst IsSmall two few)) (stood (small_front (before ++ last) next.first few))
      (sound_back before (last ++ next.first) (subst Sound two good));
}

-- segments behind which others can't be read can't be read with them
pub unread_after : (fronts rest : List (Vec Part Global)) → CannotBeRead rest → CannotBeRead (fronts ++ rest)
unread_after fronts rest cannot = record {
  unsound = λ h held small sound.
      let cut = each_cut SegmentReads fronts rest h held in
      cannot.unsound cut.rest cut.rest_held (small_back cut.first cut.rest (subst IsSmall cut.split small)) (sound_back cut.first cut.rest (subst Sound cut.split sound));
}

-- ---- machines in line

module _ {M : Type 0} (stands_for stands_exactly : M → List Event → Type 0) (exact_stands : (m : M) (h : List Event) → stands_exactly m h → stands_for m h) where
  each_stands : (ms : List M) (hs : List (List Event)) → StandForEach stands_exactly ms hs → StandForEach stands_for ms hs
  each_stands [] [] all = tt
  each_stands [] (h ∷ hs) all = absurd all
  each_stands (m ∷ ms) [] all = absurd all
  each_stands (m ∷ ms) (h ∷ hs) all = (exact_stands m h all.0, each_stands ms hs all.1)

  module _ (segments : List (Vec Part Global)) (ms : List M) (m : M) (underway : IsUnderway stands_exactly segments ms m) where
    -- it goes on by one segment
    pub gone_on : (segment : Vec Part Global) (n : M) → HasReplayed (PartsHold segment.items) stands_for stands_exactly m n
        → IsUnderway stands_exactly (segments ++ segment ∷ []) ms n
    gone_on segment n more =
        let two = append_assoc (histories_in_turn underway.histories) underway.last more.history in
        record {
          histories = underway.histories;
          last = underway.last ++ more.history;
          held =
              subst (SegmentsHold (segments ++ segment ∷ [])) two
              (each_more SegmentReads segments (segments ++ segment ∷ []) segment (histories_in_turn underway.histories ++ underway.last) more.history refl underway.held more.held);
          stand = λ small. underway.stand (small_front (histories_in_turn underway.histories ++ underway.last) more.history (subst IsSmall (sym two) small));
          exact = λ small.
              let before = small_front (histories_in_turn underway.histories ++ underway.last) more.history (subst IsSmall (sym two) small) in
              more.exact underway.last (small_back (histories_in_turn underway.histories) (underway.last ++ more.history) small) (underway.exact before);
        }

    one_more : histories_in_turn (underway.histories ++ underway.last ∷ []) ≡ histories_in_turn underway.histories ++ underway.last
    one_more = joined-append underway.histories (underway.last ∷ []) ∙ ap (λ (t : List Event). histories_in_turn underway.histories ++ t) (append-nil underway.last)

    -- it is the last in line
    pub finished : AreInOrder stands_exactly segments (ms ++ m ∷ [])
    finished = record {
      histories = underway.histories ++ underway.last ∷ [];
      held = subst (SegmentsHold segments) (sym one_more) underway.held;
      stand = λ small.
          let few = subst IsSmall one_more small in
          each-append stands_exactly ms (m ∷ []) underway.histories (underway.last ∷ []) (underway.stand few) (underway.exact few, tt);
    }

    -- another begins behind it
    pub next_begun : (n : M) → stands_exactly n [] → IsUnderway stands_exactly segments (ms ++ m ∷ []) n
    next_begun n new = record {
      histories = finished.histories;
      last = [];
      held = subst (SegmentsHold segments) (sym (append-nil (histories_in_turn finished.histories))) finished.held;
      stand = λ small. finished.stand (subst IsSmall (append-nil (histories_in_turn finished.histories)) small);
      exact = λ small. new;
    }

    -- what can't follow it can't be read behind its segments
    pub stopped : (all rest : List (Vec Part Global)) (segment : Vec Part Global) → all ≡ segments ++ segment ∷ rest
        → CannotFollow (PartsHold segment.items) (stands_for m) → CannotBeRead all
    stopped all rest segment is cannot =
        subst CannotBeRead (sym is)
        (unread_behind segments rest segment (histories_in_turn underway.histories) underway.last (stands_for m) underway.held (λ small. exact_stands m underway.last (underway.exact small)) cannot)

  module _ (segments : List (Vec Part Global)) (ms : List M) (line : AreInOrder stands_exactly segments ms) (queue : LogQueue) (of : SegmentsAreOf queue segments) where
    -- all of them merged
    pub replayed_merged : (m : M) → IsMerged stands_for stands_exactly ms m → IsReplayed stands_for stands_exactly segments m
    replayed_merged m merged = record {
      history = histories_in_turn line.histories;
      held = line.held;
      stands = λ small. merged.stands line.histories small (each_stands ms line.histories (line.stand small));
      exact = λ small apart. merged.exact line.histories small apart (line.stand small);
    }

    -- machines that can't be merged
    pub unmerged : CannotMerge stands_for queue ms → CannotBeRead segments
    unmerged cannot = record {
      unsound = λ h held small sound.
          let same = segments_unique segments h (histories_in_turn line.histories) held line.held in
          let few = subst IsSmall same small in
          cannot.unsound line.histories few (segments_read_of_queue queue segments of (histories_in_turn line.histories) line.held)
          (each_stands ms line.histories (line.stand few)) (subst Sound same sound);
    }

    pub merged_ok : (r : Result M Error) → Merges stands_for stands_exactly queue ms r → IfOk r (IsReplayed stands_for stands_exactly segments)
    merged_ok (Ok m) merged = replayed_merged m merged
    merged_ok (Err e) cannot = tt

    pub merged_err : (Own : Error → Type 0) (r : Result M Error) → Merges stands_for stands_exactly queue ms r
        → IfErr r (λ e. e ≢ Memory → ¬ (Own e) → CannotBeRead segments)
    merged_err Own (Ok m) merged = tt
    merged_err Own (Err e) cannot = λ not_memory not_own. unmerged (cannot not_memory)

module _ {M : Type 0} (stands_for stands_exactly : M → List Event → Type 0) (exact_stands : (m : M) (h : List Event) → stands_exactly m h → stands_for m h) where
  -- no machine in line, and one that has replayed nothing
  pub replayed_none : (segments : List (Vec Part Global)) (m : M) → AreInOrder stands_exactly segments [] → stands_exactly m [] → IsReplayed stands_for stands_exactly segments m
  replayed_none segments m line new = none_of line.histories line.held line.stand
    where
      none_of : (hs : List (List Event)) → SegmentsHold segments (histories_in_turn hs) → (IsSmall (histories_in_turn hs) → StandForEach stands_exactly [] hs)
          → IsReplayed stands_for stands_exactly segments m
      none_of [] held none = record { history = []; held = held; stands = λ small. exact_stands m [] new; exact = λ small apart. new }
      none_of (h ∷ hs) held none = record {
        history = h ++ histories_in_turn hs;
        held = held;
        stands = λ small. absurd (none small);
        exact = λ small apart. absurd (none small);
      }

-- ---- counts

pub count_more : (test : ℕ → Bool) (n : ℕ) → count_below test (n + 1) ≡ count_below test n + cond (test n) 1 0
count_more test n = rw add-one refl

pub pieces_some : (n : ℕ) (draws : List ℕ) → 0 < n → pieces_in n draws ≡ count_below (switches draws) n + 1
pieces_some zero draws some_left = absurd (omega arith)
pieces_some (suc n) draws some_left = refl

pub one_at_most : (b : Bool) → cond b 1 0 ≤ 1
one_at_most true = omega arith
one_at_most false = omega arith

pub one_more_is : {x y : Bool} {n : ℕ} → n ≡ bool_byte x → x ≡ y → n ≡ cond y 1 0
one_more_is {x} {y} {n} number same = number ∙ by x ∙ ap (λ (b : Bool). cond b 1 0) same
  where
    by : (b : Bool) → bool_byte b ≡ cond b 1 0
    by true = refl
    by false = refl

switches_few : (draws : List ℕ) (n : ℕ) → count_below (switches draws) (suc n) ≤ n
switches_few draws zero = omega arith
switches_few draws (suc n) = let r = switches_few draws n in let most = one_at_most (switches draws (suc n)) in omega arith

pub pieces_few : (n : ℕ) (draws : List ℕ) → pieces_in n draws ≤ n
pieces_few zero draws = omega arith
pieces_few (suc n) draws = let r = switches_few draws n in omega arith

pub fits_is : (ls pieces n held count : ℕ) → held ≡ min ls 18446744073709551615 → count ≡ pieces → pieces ≤ n → n + 1 < 18446744073709551616 → 0 < n
    → (IsTrue (nat_eq held count) → 0 < n → ls ≡ pieces) × ((0 < n → ls ≡ pieces) → IsTrue (nat_eq held count))
fits_is ls pieces n held count least is few small some_left =
    let d = Decides-eqb held count in
    ((λ same some_of. let e = d.0 same in omega arith), λ fits. d.1 (let e = fits some_left in omega arith))

pub one_same : {x y : Bool} → x ≡ y → (let n : ℕ = cond x 1 0 in n ≡ cond y 1 0)
one_same same = ap (λ (b : Bool). let n : ℕ = cond b 1 0 in n) same
