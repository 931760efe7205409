-- Segments, and what is read of them: the batches of their parts, in order.
use Rattle.std.specs.Prelude.{◌≡◌, ◌↔◌, ℕ, ◌<◌, ◌≤◌, ◌^◌, List, [], ◌∷◌, ◌++◌, length, All, Vec}
use Rattle.std.specs.Global.{Global}
use Rattle.raft_base.specs.declared.pipe_log.LogQueue.{LogQueue}
use Rattle.raft_records.specs.FilePart.{Part, IsBatchAt}
use Rattle.raft_history.specs.Batches.{Event}
use Rattle.raft_history.specs.Histories.{IsSmall, Sound}

-- one history after another
pub record AreHeldInTurn (IsFirst IsRest : List Event → Type 0) (h : List Event) : Type 0 where
  pub first : List Event
  pub rest : List Event
  pub first_held : IsFirst first
  pub rest_held : IsRest rest
  pub split : h ≡ first ++ rest

-- the batches from a byte of a part on, one after the other up to its end, each written to the part's file
abbrev pub HoldsFrom : Part → ℕ → List Event → Type 0
HoldsFrom part at [] = at ≡ length part.bytes
HoldsFrom part at (e ∷ h) = (e.file ≡ part.id) × ((next : ℕ) × IsBatchAt part at e.items next × HoldsFrom part next h)

-- what each of some holds, in order
abbrev pub EachHolds : {A : Type 0} → (A → List Event → Type 0) → List A → List Event → Type 0
EachHolds Holds [] h = h ≡ []
EachHolds Holds (x ∷ xs) h = AreHeldInTurn (Holds x) (λ rest. EachHolds Holds xs rest) h

-- the parts of all segments, in order
abbrev pub parts_within : List (Vec Part Global) → List Part
parts_within [] = []
parts_within (segment ∷ segments) = segment.items ++ parts_within segments

-- the batches of segments: of each those of its parts
abbrev pub SegmentsHold : List (Vec Part Global) → List Event → Type 0
SegmentsHold segments h =
    EachHolds (λ segment. EachHolds (λ part. HoldsFrom part 0) segment.items) segments h

-- the same is read of a part and, one after the other, of the parts that it is cut into
abbrev pub AreCutFrom : Part → List Part → Type 0
AreCutFrom whole parts =
    (h : List Event) → HoldsFrom whole 0 h ↔ EachHolds (λ part. HoldsFrom part 0) parts h

-- a part isn't a sequence of readable batches, or the batches of all segments, in order, name 2^63 entries, key values and deletions together, or more, or are a history that can't be read
pub record CannotBeRead (segments : List (Vec Part Global)) : Type 0 where
  pub unsound : (h : List Event) → SegmentsHold segments h → IsSmall h → ¬ (Sound h)

-- every part of every segment is of this queue
abbrev pub SegmentsAreOf : LogQueue → List (Vec Part Global) → Type 0
SegmentsAreOf queue segments =
    All (λ segment. All (λ part. part.id.queue ≡ queue) segment.items) segments

-- so many workers may replay these segments of a queue: 1 to 256 workers, fewer than 2^62 segments, and every part of this queue
abbrev pub MayReplay : LogQueue → ℕ → List (Vec Part Global) → Type 0
MayReplay queue workers segments =
    (0 < workers) × (workers ≤ 256) × (length segments < 2 ^ 62) × SegmentsAreOf queue segments
