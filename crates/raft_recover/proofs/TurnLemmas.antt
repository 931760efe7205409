-- Segments that are replayed one after another into one context, and where that stops.
use Rattle.raft_recover.proofs.Common.{◌≡◌, ◌≢◌, List, [], ◌∷◌, ◌++◌, Vec, refl, sym, ap, ◌∙◌, subst, append_assoc, Global, Error, Part, Event, IsSmall, Sound, small_front, RecoverContext, HasRead, HasReadExactly, HasReplayed, SegmentsHold}
use Rattle.raft_recover.proofs.Common.{CannotBeRead, parts_within, IsNothing, IsStoodFor, GoneOn, StopsAmong, PartHolds, each_join, stops_after, stands_sound, parts_refused, StopsWithin}
use Rattle.raft_base.specs.declared.errors.Error.TheVariants.{Memory}
use Rattle.raft_recover.proofs.ShareLemmas.{within_append, read_within}

-- segments at one of which a context stopped, after it had replayed those in front from nothing on
pub stopped_in_turn : (segments before after : List (Vec Part Global)) (segment : Vec Part Global) (new context : RecoverContext) (e : Error) → HasReplayed (SegmentsHold before) HasRead HasReadExactly new context
    → HasRead new [] → segments ≡ before ++ segment ∷ after → StopsAmong (HasRead context) (IsStoodFor HasRead) segment.items e → StopsAmong IsNothing Sound (parts_within segments) e
stopped_in_turn segments before after segment new context e read begun is stops = record {
  before = parts_within before ++ stops.before;
  part = stops.part;
  after = stops.after ++ parts_within after;
  split = ap parts_within is ∙ within_append before (segment ∷ after)
      ∙ ap (λ (l : List Part). parts_within before ++ (l ++ parts_within after)) stops.split
      ∙ ap (λ (l : List Part). parts_within before ++ l) (append_assoc stops.before (stops.part ∷ stops.after) (parts_within after))
      ∙ sym (append_assoc (parts_within before) stops.before (stops.part ∷ stops.after ++ parts_within after));
  history = read.history ++ stops.history;
  held = each_join PartHolds (parts_within before) stops.before read.history stops.history (read_within before read.history read.held) stops.held;
  stops =
      stops_after (GoneOn (HasRead context) stops.history) (GoneOn IsNothing (read.history ++ stops.history)) (IsStoodFor HasRead) Sound stops.part e
      (λ h small gone.
      let same : h ≡ read.history ++ stops.history = gone.2 ∙ ap (λ (t : List Event). t ++ (read.history ++ stops.history)) gone.1 in
      (read.history, read.stands [] (small_front read.history stops.history (subst IsSmall same small)) begun, same))
      (λ h taken. stands_sound taken.0.context h taken.1.stands) stops.stops;
}

-- segments at which a reading stopped can't be read
pub segments_refused : (segments : List (Vec Part Global)) (e : Error) → StopsWithin segments e → e ≢ Memory → CannotBeRead segments
segments_refused segments e stops not_memory = record {
  unsound = λ h held small sound. (parts_refused IsNothing Sound (parts_within segments) e (stops not_memory) not_memory).unsound [] h (read_within segments h held) small refl sound;
}
