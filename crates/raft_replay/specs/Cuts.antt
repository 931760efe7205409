-- Where a part may be cut, and into which parts.
use Rattle.std.specs.Prelude.{◌≡◌, ℕ, ◌+◌, List, [], ◌∷◌, ◌++◌, length, take, drop}
use Rattle.raft_base.specs.declared.pipe_log.FileId.{FileId}
use Rattle.raft_base.specs.declared.pipe_log.Version.{Version}
use Rattle.raft_records.specs.FilePart.{Part}
use Rattle.raft_history.specs.Batches.{Event}
use Rattle.raft_replay.specs.Segments.{AreHeldInTurn, HoldsFrom}

-- the bytes before this one
abbrev pub bytes_before : Part → ℕ → Part
bytes_before part at = record part { bytes = take at part.bytes }

-- the bytes from this one on
abbrev pub rest_of : Part → ℕ → Part
rest_of part at = record part { offset = part.offset + at; bytes = drop at part.bytes }

-- whatever is read of a part, it is what is read before this byte and what is read from there on
abbrev pub BatchesMeet : Part → ℕ → Type 0
BatchesMeet part at =
    (h : List Event) → HoldsFrom part 0 h → AreHeldInTurn (HoldsFrom (bytes_before part at) 0) (HoldsFrom part at) h

-- the bytes of parts, one after another
abbrev pub joined_bytes : List Part → List ℕ
joined_bytes [] = []
joined_bytes (part ∷ parts) = part.bytes ++ joined_bytes parts

-- parts of this file and version: the first begins at this offset, and each other where the one before it ends
abbrev pub StandInTurn : FileId → Version → ℕ → List Part → Type 0
StandInTurn id version offset [] = Unit {0}
StandInTurn id version offset (part ∷ parts) =
    (part.id ≡ id) × (part.version ≡ version) × (part.offset ≡ offset) × StandInTurn id version (offset + length part.bytes) parts

-- the parts that one is cut into: they stand in its file and version from its offset on, each where the one before it ends, and their bytes, one after another, are its bytes
pub record ArePartsOf (whole : Part) (parts : List Part) : Type 0 where
  pub in_turn : StandInTurn whole.id whole.version whole.offset parts
  pub bytes : joined_bytes parts ≡ whole.bytes

-- each of these parts, in order, is cut into the next of those
abbrev pub AreCutInTurn : List Part → List Part → Type 0
AreCutInTurn [] those = those ≡ []
AreCutInTurn (part ∷ parts) those =
    (cut : List Part) × (rest : List Part) × (those ≡ cut ++ rest) × ArePartsOf part cut × AreCutInTurn parts rest
