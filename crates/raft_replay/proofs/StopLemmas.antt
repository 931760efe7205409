-- Where a replay stopped, what was read in front of that place, and that nothing more can be read.
use Rattle.raft_replay.proofs.Common.{◌≡◌, ◌≢◌, inl, inr, ◌⊎◌, ℕ, ◌+◌, ◌<◌, List, [], ◌∷◌, ◌++◌, length, refl, sym, ap, ◌∙◌, subst, append_assoc, arith, Option, Some, None, map-append, Error, LogQueue, FileId, IsCorruption, Part}
use Rattle.raft_replay.proofs.Common.{IsBatchAt, StandBetween, Item, batch_inside, Event, Context, FileRange, Suits, StandsFor, IsSmall, Sound, event, small_front, sound_front, HasReplayed, CannotFollow, HoldsFrom, CannotFollowAt}
use Rattle.raft_replay.proofs.Common.{IsStoodFor, place_text, IsPlaced, history_in, GoneOn, IsUnreadableAt, HasFaultAt, StopsIn, StopsByFault, StopsAmong}
use Rattle.raft_base.specs.declared.errors.Error.TheVariants as errors
use Rattle.raft_base.specs.declared.pipe_log.LogQueue.TheVariants.{Append}
use Rattle.raft_replay.proofs.Words.{PartHolds, PartsHold}
use Rattle.raft_replay.proofs.MachineOrderLemmas.{each_cut}
use Rattle.raft_replay.proofs.SegmentLemmas.{batch_none, batch_unique, parts_unique, same_event}

-- ---- its place

-- a corruption that has the place in front of a reason has a place
pub is_placed : (id : FileId) (offset : ℕ) (reason : List ℕ) (e : Error) → IsCorruption (place_text id offset ++ reason) e → IsPlaced id offset e
is_placed id offset reason (errors.Corruption text) is = (reason, is)
is_placed id offset reason e is = tt

-- ---- in a part

-- the history of the batches of a part in front of a byte
abbrev pub IsFront : Part → ℕ → List Event → Type 0
IsFront part at h = (batches : List (List Item)) × StandBetween part 0 at batches × (h ≡ history_in part batches)

stand_longer : (part : Part) (from at next : ℕ) (batches : List (List Item)) (items : List Item) → StandBetween part from at batches → IsBatchAt part at items next → StandBetween part from next (batches ++ items ∷ [])
stand_longer part from at next [] items stand b = (next, subst (λ (n : ℕ). IsBatchAt part n items next) (sym stand) b, refl)
stand_longer part from at next (first ∷ batches) items stand b = (stand.0, stand.1, stand_longer part stand.0 at next batches items stand.2 b)

-- one batch more
pub longer_front : (part : Part) (at next : ℕ) (items : List Item) (h : List Event) → IsFront part at h → IsBatchAt part at items next → IsFront part next (h ++ event items part.id ∷ [])
longer_front part at next items h front b = (
  front.0 ++ items ∷ [],
  stand_longer part 0 at next front.0 items front.1 b,
  ap (λ (t : List Event). t ++ event items part.id ∷ []) front.2 ∙ sym (map-append (λ (i : List Item). event i part.id) front.0 (items ∷ [])),
)

-- up to the end of the part they are all that is read
pub front_held : (part : Part) (from at : ℕ) (batches : List (List Item)) → StandBetween part from at batches → at ≡ length part.bytes → HoldsFrom part from (history_in part batches)
front_held part from at [] stand ends = stand ∙ ends
front_held part from at (items ∷ batches) stand ends = (refl, (stand.0, stand.1, front_held part stand.0 at batches stand.2 ends))

-- what is read of a part begins with the batches in front of a byte
front_cut : (part : Part) (from at : ℕ) (batches : List (List Item)) (g : List Event) → StandBetween part from at batches → HoldsFrom part from g
    → (rest : List Event) × HoldsFrom part at rest × (g ≡ history_in part batches ++ rest)
front_cut part from at [] g stand held = (g, subst (λ (n : ℕ). HoldsFrom part n g) stand held, refl)
front_cut part from at (items ∷ batches) [] stand ends = let inside = batch_inside part from items stand.0 stand.1 in absurd (omega (arith, ends, inside.0, inside.1))
front_cut part from at (items ∷ batches) (e ∷ g) stand held =
    let one = batch_unique part from e.items items held.1.0 stand.0 held.1.1 stand.1 in
    let rest = front_cut part stand.0 at batches g stand.2 (subst (λ (n : ℕ). HoldsFrom part n g) one.1 held.1.2) in
    let first = same_event e (event items part.id) one.0 held.0 in
    (rest.0, rest.1, λ i. first i ∷ rest.2 i)

module _ {M : Type 0} (stands_for stands_exactly : M → List Event → Type 0) (part : Part) (at : ℕ) (old new : M) (read : HasReplayed (IsFront part at) stands_for stands_exactly old new)
    (e : Error) (placed : IsPlaced part.id (part.offset + at) e) where
  stopped : at < length part.bytes → (e ≢ errors.Memory → IsUnreadableAt part at ⊎ CannotFollowAt (GoneOn (stands_for old) (history_in part read.held.0)) part at)
      → StopsIn (stands_for old) (IsStoodFor stands_for) part e
  stopped inside reason = record {
    at = at;
    front = read.held.0;
    readable = read.held.1;
    taken = λ h small stood.
        let same = ap (λ (t : List Event). h ++ t) read.held.2 in
        subst (IsStoodFor stands_for) same (new, read.stands h (subst IsSmall (sym same) small) stood);
    before_end = inside;
    reason = reason;
    placed = placed;
  }

  pub stopped_unreadable : at < length part.bytes → (e ≢ errors.Memory → IsUnreadableAt part at) → HasFaultAt part at e → StopsByFault (stands_for old) (IsStoodFor stands_for) part e
  unfolding stopped
  stopped_unreadable inside none fault = record { stops = stopped inside (λ not_memory. inl (none not_memory)); fault = λ unread. fault }

  pub stopped_refused : (items : List Item) (next : ℕ) → IsBatchAt part at items next
      → (e ≢ errors.Memory → (h : List Event) → IsSmall (h ++ event items part.id ∷ []) → stands_for new h → ¬ (Sound (h ++ event items part.id ∷ [])))
      → StopsByFault (stands_for old) (IsStoodFor stands_for) part e
  unfolding stopped
  stopped_refused items next b refused = record {
    stops =
        stopped (let inside = batch_inside part at items next b in omega (arith, inside.0, inside.1))
        (λ not_memory. inr (record {
          items = items;
          next = next;
          stands = b;
          unsound = λ h small before sound.
              let same : h ≡ before.0 ++ read.history = before.2 ∙ ap (λ (t : List Event). before.0 ++ t) (sym read.held.2) in
              let stands = read.stands before.0 (subst IsSmall same (small_front h (event items part.id ∷ []) small)) before.1 in
              refused not_memory h small (subst (stands_for new) (sym same) stands) sound;
        }));
    fault = λ unread. absurd (batch_none part at items next unread b);
  }

-- a part in which the reading stopped can't follow
pub part_refused : (Stood IsTaken : List Event → Type 0) (part : Part) (e : Error) → StopsIn Stood IsTaken part e → e ≢ errors.Memory → CannotFollow (PartHolds part) Stood
part_refused Stood IsTaken part e stops not_memory = record {
  unsound = λ h g held small stood sound.
      let cut = front_cut part 0 stops.at stops.front g stops.readable held in
      let whole = ap (λ (t : List Event). h ++ t) cut.2 in
      unread h stood cut.0 cut.1 (subst IsSmall whole small) (subst Sound whole sound) (stops.reason not_memory);
}
  where
    front : List Event
    front = history_in part stops.front

    unread : (h : List Event) → Stood h → (rest : List Event) → HoldsFrom part stops.at rest → IsSmall (h ++ (front ++ rest)) → Sound (h ++ (front ++ rest))
        → IsUnreadableAt part stops.at ⊎ CannotFollowAt (GoneOn Stood front) part stops.at → ⊥
    unread h stood [] ends small sound reason = omega (arith, ends, stops.before_end)
    unread h stood (d ∷ rest) held small sound (inl none) = batch_none part stops.at d.items held.1.0 none held.1.1
    unread h stood (d ∷ rest) held small sound (inr cannot) =
        let one = history_in part (cannot.items ∷ []) in
        let same = same_event d (event cannot.items part.id) (batch_unique part stops.at d.items cannot.items held.1.0 cannot.next held.1.1 cannot.stands).0 held.0 in
        let whole : h ++ (front ++ d ∷ rest) ≡ h ++ front ++ one ++ rest =
        sym (append_assoc h front (d ∷ rest)) ∙ ap (λ (x : Event). h ++ front ++ x ∷ rest) same ∙ sym (append_assoc (h ++ front) one rest) in
        cannot.unsound (h ++ front) (small_front (h ++ front ++ one) rest (subst IsSmall whole small)) (h, stood, refl) (sound_front (h ++ front ++ one) rest (subst Sound whole sound))

-- ---- in one of several parts

-- what a machine stood for, and what was taken in, in other words
pub stops_after : (Stood New IsTaken IsKnown : List Event → Type 0) (part : Part) (e : Error) → ((h : List Event) → IsSmall h → New h → Stood h) → ((h : List Event) → IsTaken h → IsKnown h)
    → StopsIn Stood IsTaken part e → StopsIn New IsKnown part e
stops_after Stood New IsTaken IsKnown part e stood known stops = record {
  at = stops.at;
  front = stops.front;
  readable = stops.readable;
  taken = λ h small new. known (h ++ history_in part stops.front) (stops.taken h small (stood h (small_front h (history_in part stops.front) small) new));
  before_end = stops.before_end;
  reason = λ not_memory. elim (stops.reason not_memory) [
    | inl none ↦ inl none
    | inr cannot ↦ inr (record {
      items = cannot.items;
      next = cannot.next;
      stands = cannot.stands;
      unsound = λ h small before sound.
          let few : IsSmall (before.0 ++ history_in part stops.front) = subst IsSmall before.2 (small_front h (history_in part (cannot.items ∷ [])) small) in
          cannot.unsound h small (before.0, stood before.0 (small_front before.0 (history_in part stops.front) few) before.1, before.2) sound;
    })
  ];
  placed = stops.placed;
}

-- the same with the fault
pub fault_after : (Stood New IsTaken IsKnown : List Event → Type 0) (part : Part) (e : Error) → ((h : List Event) → IsSmall h → New h → Stood h) → ((h : List Event) → IsTaken h → IsKnown h)
    → StopsByFault Stood IsTaken part e → StopsByFault New IsKnown part e
unfolding stops_after
fault_after Stood New IsTaken IsKnown part e stood known found = record { stops = stops_after Stood New IsTaken IsKnown part e stood known found.stops; fault = found.fault }

-- the parts in front were read, and the reading stopped in the next one
pub stopped_among : {M : Type 0} (stands_for stands_exactly : M → List Event → Type 0) (old mid : M) (IsTaken : List Event → Type 0) (parts before after : List Part) (part : Part) (e : Error)
    → HasReplayed (PartsHold before) stands_for stands_exactly old mid → parts ≡ before ++ part ∷ after → StopsByFault (stands_for mid) IsTaken part e → StopsAmong (stands_for old) IsTaken parts e
stopped_among stands_for stands_exactly old mid IsTaken parts before after part e read is stops = record {
  before = before;
  part = part;
  after = after;
  split = is;
  history = read.history;
  held = read.held;
  stops = stops_after (stands_for mid) (GoneOn (stands_for old) read.history) IsTaken IsTaken part e
      (λ h small gone. subst (stands_for mid) (sym gone.2) (read.stands gone.0 (subst IsSmall gone.2 small) gone.1)) (λ h taken. taken) stops.stops;
}

-- parts among which the reading stopped can't follow
pub parts_refused : (Stood IsTaken : List Event → Type 0) (parts : List Part) (e : Error) → StopsAmong Stood IsTaken parts e → e ≢ errors.Memory → CannotFollow (PartsHold parts) Stood
parts_refused Stood IsTaken parts e stops not_memory = record {
  unsound = λ h g held small stood sound.
      let cut = each_cut PartHolds stops.before (stops.part ∷ stops.after) g (subst (λ (l : List Part). PartsHold l g) stops.split held) in
      let here = cut.rest_held in
      let front = parts_unique stops.before cut.first stops.history cut.first_held stops.held in
      let whole : h ++ g ≡ h ++ stops.history ++ here.first ++ here.rest =
      ap (λ (t : List Event). h ++ t) (cut.split ∙ (λ i. front i ++ here.split i))
      ∙ sym (append_assoc h stops.history (here.first ++ here.rest)) ∙ sym (append_assoc (h ++ stops.history) here.first here.rest) in
      (part_refused (GoneOn Stood stops.history) IsTaken stops.part e stops.stops not_memory).unsound (h ++ stops.history) here.first here.first_held
      (small_front (h ++ stops.history ++ here.first) here.rest (subst IsSmall whole small)) (h, stood, refl)
      (sound_front (h ++ stops.history ++ here.first) here.rest (subst Sound whole sound));
}

-- ---- of a context

-- there is a queue that suits
suiting : (files : Option FileRange) → (queue : LogQueue) × Suits queue files
suiting None = (Append, tt)
suiting (Some files) = (files.queue, refl)

-- what a context stands for can be read
pub stands_sound : (c : Context) (h : List Event) → StandsFor c h → Sound h
stands_sound c h stands =
    let queue = suiting c.files in
    record { queue = queue.0; sound = (stands.stands queue.0 queue.1).sound }
