-- Where the reading of a part stopped.
use Rattle.raft_plain.proofs.Common.{List, [], ◌∷◌, ◌++◌, inl, inr, ◌⊎◌, refl, sym, ap, subst, ◌∙◌, ◌≡◌, ◌≢◌, ◌+◌, ◌<◌, ℕ, length, arith, Error, LogQueue, Part, IsBatchAt, Item, batch_inside, Event, IsSmall, Sound, event, small_front, HasReplayed, history_in, GoneOn}
use Rattle.raft_plain.proofs.Common.{IsUnreadableAt, CannotFollowAt, StopsIn, StopsAmong, IsNothing, IsPlaced, none_replayed, replayed_more, replayed_as, IsFront, longer_front, front_held, stops_after, PartHolds, PartsHold, Reading, HasRead, IsReadOf}
use Rattle.raft_base.specs.declared.errors.Error.TheVariants as errors

module _ (q : LogQueue) (part : Part) (old : Reading) where
  -- the batches in front of a byte were read
  abbrev pub IsReadTo : ℕ → Reading → Type 0
  IsReadTo at new = HasReplayed (IsFront part at) (HasRead q) (HasRead q) old new

  pub read_begins : IsReadTo 0 old
  read_begins = none_replayed (HasRead q) (HasRead q) _ old ([], refl, refl)

  pub read_more : (at next : ℕ) (items : List Item) (mid new : Reading) → IsBatchAt part at items next
      → ((h : List Event) → HasRead q mid h → HasRead q new (h ++ event items part.id ∷ []))
      → IsReadTo at mid → IsReadTo next new
  read_more at next items mid new stands read before =
      let one : HasReplayed (λ h. h ≡ event items part.id ∷ []) (HasRead q) (HasRead q) mid new = record {
        history = event items part.id ∷ [];
        held = refl;
        stands = λ h small stood. read h stood;
        exact = λ h small stood. read h stood;
      } in
      replayed_more (HasRead q) (HasRead q) _ _ _ old mid new before one (longer_front part at next items before.history before.held stands)

  pub read_whole : (at : ℕ) (new : Reading) → at ≡ length part.bytes → IsReadTo at new → HasReplayed (PartHolds part) (HasRead q) (HasRead q) old new
  read_whole at new ends = replayed_as (HasRead q) (HasRead q) (IsFront part at) (PartHolds part) old new
      (λ h front. subst (PartHolds part) (sym front.2) (front_held part 0 at front.0 front.1 ends))

  module _ (at : ℕ) (new : Reading) (read : IsReadTo at new) (e : Error) (placed : IsPlaced part.id (part.offset + at) e) where
    stopped : at < length part.bytes → (e ≢ errors.Memory → IsUnreadableAt part at ⊎ CannotFollowAt (GoneOn (HasRead q old) (history_in part read.held.0)) part at) → StopsIn (HasRead q old) Sound part e
    stopped inside reason = record {
      at = at;
      front = read.held.0;
      readable = read.held.1;
      taken = λ h small stood.
          let same = ap (λ (t : List Event). h ++ t) read.held.2 in
          record { queue = q; sound = (subst (HasRead q new) same (read.stands h (subst IsSmall (sym same) small) stood)).sound };
      before_end = inside;
      reason = reason;
      placed = placed;
    }

    pub stopped_unreadable : at < length part.bytes → (e ≢ errors.Memory → IsUnreadableAt part at) → StopsIn (HasRead q old) Sound part e
    stopped_unreadable inside none = stopped inside (λ not_memory. inl (none not_memory))

    pub stopped_refused : (items : List Item) (next : ℕ) → IsBatchAt part at items next
        → (e ≢ errors.Memory → (h : List Event) → HasRead q new h → ¬ (Sound (h ++ event items part.id ∷ [])))
        → StopsIn (HasRead q old) Sound part e
    stopped_refused items next b refused =
        stopped (let inside = batch_inside part at items next b in omega (arith, inside.0, inside.1))
        (λ not_memory. inr (record {
          items = items;
          next = next;
          stands = b;
          unsound = λ h small before sound.
              let same : h ≡ before.0 ++ read.history = before.2 ∙ ap (λ (t : List Event). before.0 ++ t) (sym read.held.2) in
              let stands = read.stands before.0 (subst IsSmall same (small_front h (event items part.id ∷ []) small)) before.1 in
              refused not_memory h (subst (HasRead q new) (sym same) stands) sound;
        }))

module _ (q : LogQueue) (new reading : Reading) (begins : HasRead q new []) where
  -- what is read of parts, after nothing, is their reading
  pub parts_read : (parts : List Part) → HasReplayed (PartsHold parts) (HasRead q) (HasRead q) new reading → IsReadOf q (PartsHold parts) reading
  parts_read parts read = record {
    history = read.history;
    held = read.held;
    read = λ small. read.stands [] small begins;
  }

  pub stopped_among : (parts before after : List Part) (part : Part) (e : Error) → parts ≡ before ++ part ∷ after → HasReplayed (PartsHold before) (HasRead q) (HasRead q) new reading
      → StopsIn (HasRead q reading) Sound part e → StopsAmong IsNothing Sound parts e
  stopped_among parts before after part e split read stops = record {
    before = before;
    part = part;
    after = after;
    split = split;
    history = read.history;
    held = read.held;
    stops = stops_after (HasRead q reading) (GoneOn IsNothing read.history) Sound Sound part e
        (λ h small gone.
        let same : read.history ≡ h = sym (gone.2 ∙ ap (λ (l : List Event). l ++ read.history) gone.1) in
        subst (HasRead q reading) same (read.stands [] (subst IsSmall (sym same) small) begins))
        (λ h sound. sound) stops;
  }
