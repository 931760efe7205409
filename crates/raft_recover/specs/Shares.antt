-- Segments as shares: the parts that others are cut into, and the contexts that replay them.
use Rattle.std.specs.Prelude.{◌≡◌, ◌≢◌, ◌<◌, List, [], ◌∷◌, ◌++◌, length, All, Vec, Result, MatchResult}
use Rattle.std.specs.Global.{Global}
use Rattle.raft_base.specs.declared.errors.Error.{Error}
use Rattle.raft_base.specs.declared.errors.Error.TheVariants as errors
use Rattle.raft_records.specs.FilePart.{Part}
use Rattle.raft_history.specs.Histories.{Sound}
use Rattle.raft_contexts.specs.RecoverContext.{RecoverContext, HasRead, HasReadExactly}
use Rattle.raft_replay.specs.Cuts.{ArePartsOf}
use Rattle.raft_replay.specs.Replays.{IsReplayed}
use Rattle.raft_replay.specs.Segments.{AreCutFrom, parts_within}
use Rattle.raft_replay.specs.Stops.{IsNothing, StopsAmong}

-- a part is cut into these, one or more: they are of its file, have its bytes, and the same is read of them
pub record IsCutInto (part : Part) (cut : List Part) : Type 0 where
  pub same : AreCutFrom part cut
  pub bytes : ArePartsOf part cut
  pub file : All (λ p. p.id ≡ part.id) cut
  pub some : 0 < length cut

-- each of these parts, in order, is cut into the next of those
abbrev pub AreDivided : List Part → List Part → Type 0
AreDivided [] those = those ≡ []
AreDivided (part ∷ parts) those =
    (cut : List Part) × (rest : List Part) × (those ≡ cut ++ rest) × IsCutInto part cut × AreDivided parts rest

-- where the reading of segments, from nothing on, stopped
abbrev pub StopsWithin : List (Vec Part Global) → Error → Type 0
StopsWithin segments e = e ≢ errors.Memory → StopsAmong IsNothing Sound (parts_within segments) e

-- a context of all segments; or a refusal, which, but for want of memory, is that of the first batch in order that is refused
abbrev pub IsReplayedOrStopped : List (Vec Part Global) → Result RecoverContext Error → Type 0
IsReplayedOrStopped segments result =
    MatchResult result (λ context. IsReplayed HasRead HasReadExactly segments context) (λ e. StopsWithin segments e)
