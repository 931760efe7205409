-- What was read of files, and what a machine stands for that has replayed it.
use Rattle.std.specs.Prelude.{◌≡◌, ◌≢◌, ◌⊎◌, ℕ, ◌+◌, ◌≤◌, List, [], ◌∷◌, ◌++◌, length}
use Rattle.std.specs.IoError.{error_kind}
use Rattle.std.specs.declared.io.ErrorKind.TheVariants.{UnexpectedEof}
use Rattle.raft_base.specs.declared.errors.Error.{Error}
use Rattle.raft_base.specs.declared.pipe_log.LogFileContext.{LogFileContext}
use Rattle.raft_records.specs.FilePart.{part_of}
use Rattle.raft_history.specs.Batches.{Event}
use Rattle.raft_replay.specs.Replays.{HasReplayed}
use Rattle.raft_replay.specs.Segments.{HoldsFrom}
use Rattle.raft_replay.specs.Stops.{IsIoOfKind, StopsByFault}
use Rattle.raft_reading.specs.IoErrors.{IoError}

-- some of these bytes were put behind the old ones
pub record IsAppended (Gives : List ℕ → Type 0) (old new : List ℕ) : Type 0 where
  pub bytes : List ℕ
  pub given : Gives bytes
  pub behind : new ≡ old ++ bytes

-- each of these pieces is what a read gave, the first at this offset, and each other where the one before it ends
abbrev pub AreGivenFrom : (ℕ → List ℕ → Type 0) → ℕ → List (List ℕ) → Type 0
AreGivenFrom Gives offset [] = Unit {0}
AreGivenFrom Gives offset (piece ∷ pieces) = Gives offset piece × AreGivenFrom Gives (offset + length piece) pieces

-- pieces, one behind another
abbrev pub joined : List (List ℕ) → List ℕ
joined [] = []
joined (piece ∷ pieces) = piece ++ joined pieces

-- these are the bytes that reads of a file gave, from its first byte on
pub record AreRead (Gives : ℕ → List ℕ → Type 0) (bytes : List ℕ) : Type 0 where
  pub pieces : List (List ℕ)
  pub given : AreGivenFrom Gives 0 pieces
  pub all : joined pieces ≡ bytes

-- the machine has replayed the batches that the bytes of a file hold, so many, which reads gave
pub record HasReplayedFile {M : Type 0} (Gives : ℕ → List ℕ → Type 0) (file : LogFileContext) (len : ℕ) (stands_for stands_exactly : M → List Event → Type 0) (old new : M) : Type 0 where
  pub bytes : List ℕ
  pub read : AreRead Gives bytes
  pub whole : length bytes ≡ len
  pub replayed : HasReplayed (HoldsFrom (part_of file 0 bytes) 0) stands_for stands_exactly old new

-- the replay of a file of this length stopped: whatever bytes come behind those that reads gave, a reading of all of them stops so
pub record StopsInRead (Gives : ℕ → List ℕ → Type 0) (file : LogFileContext) (len : ℕ) (Stood IsTaken : List Event → Type 0) (e : Error) : Type 0 where
  pub bytes : List ℕ
  pub read : AreRead Gives bytes
  pub inside : length bytes ≤ len
  pub stops : (rest : List ℕ) → length bytes + length rest ≡ len → StopsByFault Stood IsTaken (part_of file 0 (bytes ++ rest)) e

-- a read failed so, and this is its refusal
pub record IsFailure (Fails : IoError → Type 0) (e : Error) : Type 0 where
  pub error : IoError
  pub failed : Fails error
  pub refusal : IsIoOfKind (error_kind error) e

-- a read gave another number of bytes than it was asked for, and this is its refusal
pub record IsMiscount (Gives : List ℕ → Type 0) (len : ℕ) (e : Error) : Type 0 where
  pub bytes : List ℕ
  pub given : Gives bytes
  pub miscounted : length bytes ≢ len
  pub refusal : IsIoOfKind UnexpectedEof e

-- the read of so many bytes failed, or gave another number of them
abbrev pub IsReadFault : (List ℕ → Type 0) → (IoError → Type 0) → ℕ → Error → Type 0
IsReadFault Gives Fails len e = IsFailure Fails e ⊎ IsMiscount Gives len e

-- a file of this length could not be read on behind the bytes that reads gave
pub record IsUnread (Gives : ℕ → List ℕ → Type 0) (Fails : ℕ → IoError → Type 0) (len : ℕ) (e : Error) : Type 0 where
  pub bytes : List ℕ
  pub read : AreRead Gives bytes
  pub asked : ℕ
  pub inside : length bytes + asked ≤ len
  pub fault : IsReadFault (Gives (length bytes)) (Fails (length bytes)) asked e

-- why a file of this length isn't replayed: it could not be read on, or what was read of it stops any reading
abbrev pub IsFileStop : (ℕ → List ℕ → Type 0) → (ℕ → IoError → Type 0) → LogFileContext → ℕ → (List Event → Type 0) → (List Event → Type 0) → Error → Type 0
IsFileStop Gives Fails file len Stood IsTaken e =
    IsUnread Gives Fails len e ⊎ StopsInRead Gives file len Stood IsTaken e
