-- The readable prefix of a file, and what stands behind it.
use Rattle.std.specs.Prelude.{◌≡◌, ◌≢◌, ℕ, ◌+◌, ◌<◌, ◌≤◌, List, ◌++◌, length, drop, Option, Some, None}
use Rattle.raft_base.specs.Signature.{signature_in}
use Rattle.raft_base.specs.declared.errors.Error.{Error}
use Rattle.raft_base.specs.declared.errors.Error.TheVariants as errors
use Rattle.raft_base.specs.declared.pipe_log.LogFileContext.{LogFileContext}
use Rattle.raft_base.specs.declared.pipe_log.LogQueue.TheVariants.{Rewrite}
use Rattle.raft_records.specs.FilePart.{Part, AreBatchesUpTo, IsNextFault, part_of}
use Rattle.raft_replay.specs.Stops.{IsUnreadableAt}
use Rattle.raft_reading.specs.FilesRead.{AreRead}
use Rattle.raft_prefix.specs.Blocks.{AreUnsoundIn, IsPartSound, IsUnsoundAs}
use Rattle.raft_history.specs.Batches.{Event}
use Rattle.raft_replay.specs.Replays.{HasReplayed}
use Rattle.raft_replay.specs.Segments.{HoldsFrom}
use Rattle.raft_prefix.specs.declared.file_prefix.Prefix.{Prefix}
use Rattle.raft_prefix.specs.declared.file_prefix.ReplayedPrefix.{ReplayedPrefix}

-- at this byte of a part no batch can be read, for this reason
pub record IsStop (part : Part) (at : ℕ) (e : Error) : Type 0 where
  pub before_end : at < length part.bytes
  pub unreadable : IsUnreadableAt part at
  pub not_memory : e ≢ errors.Memory
  pub why : IsNextFault (signature_in part.version part.id.seq) (drop at part.bytes) e

-- a part ends at this byte, or no batch can be read there, for this reason
abbrev pub EndsOrStops : Part → ℕ → Option Error → Type 0
EndsOrStops part at None = at ≡ length part.bytes
EndsOrStops part at (Some e) = IsStop part at e

-- batches stand in a part from its first byte up to this one, with sound entry blocks if it is one of a rewrite file; it ends there, or no batch can be read there
pub record IsPrefix (part : Part) (at : ℕ) (stopped : Option Error) : Type 0 where
  pub batches : AreBatchesUpTo part at
  pub stops : EndsOrStops part at stopped
  pub sound : IsPartSound part

-- this is the readable prefix of a part, and just those of its batches have unsound entry blocks that begin where this says
pub record IsPrefixOf (part : Part) (prefix : Prefix) : Type 0 where
  pub is : IsPrefix part prefix.len prefix.stopped
  pub damaged : AreUnsoundIn part prefix.damaged.items

-- reads gave these first bytes of a file of this length, and whatever comes behind them this is so of all its bytes
pub record IsKnownOf (Gives : ℕ → List ℕ → Type 0) (file : LogFileContext) (len : ℕ) (Is : Part → Type 0) : Type 0 where
  pub bytes : List ℕ
  pub read : AreRead Gives bytes
  pub inside : length bytes ≤ len
  pub is : (rest : List ℕ) → length bytes + length rest ≡ len → Is (part_of file 0 (bytes ++ rest))

-- this is the readable prefix of a file of this length
abbrev pub IsPrefixRead : (ℕ → List ℕ → Type 0) → LogFileContext → ℕ → Prefix → Type 0
IsPrefixRead Gives file len prefix = IsKnownOf Gives file len (λ part. IsPrefixOf part prefix)

-- the entries of a batch of a rewrite file of this length are damaged, and the refusal says so
abbrev pub IsDamageRead : (ℕ → List ℕ → Type 0) → LogFileContext → ℕ → Error → Type 0
IsDamageRead Gives file len e = (file.id.queue ≡ Rewrite) × IsKnownOf Gives file len (λ part. IsUnsoundAs part e)

-- a read of a file of this length gave all its bytes from this one on
pub record IsRestRead (Gives : ℕ → List ℕ → Type 0) (file : LogFileContext) (at len : ℕ) (part : Part) : Type 0 where
  pub bytes : List ℕ
  pub given : Gives at bytes
  pub all : at + length bytes ≡ len
  pub is : part ≡ part_of file at bytes

-- A machine has replayed the readable prefix of a file of this length: reads gave its bytes and those behind it, each byte once, and whatever comes behind these it is the prefix of all bytes.
pub record IsPrefixReplayed {M : Type 0} (Gives : ℕ → List ℕ → Type 0) (file : LogFileContext) (len : ℕ) (stands_for stands_exactly : M → List Event → Type 0) (old new : M) (read : ReplayedPrefix) : Type 0 where
  pub front : List ℕ
  pub ends : read.prefix.len ≡ length front
  pub inside : length front + length read.behind.items ≤ len
  pub given : AreRead Gives (front ++ read.behind.items)
  pub is : (rest : List ℕ) → length front + length read.behind.items + length rest ≡ len → IsPrefixOf (part_of file 0 ((front ++ read.behind.items) ++ rest)) read.prefix
  pub replayed : HasReplayed (HoldsFrom (part_of file 0 front) 0) stands_for stands_exactly old new

-- a read gave the other bytes of a file of this length, and with these, which stand in front of them, they are all from this byte on
pub record IsTailRead (Gives : ℕ → List ℕ → Type 0) (file : LogFileContext) (at : ℕ) (behind : List ℕ) (len : ℕ) (part : Part) : Type 0 where
  pub bytes : List ℕ
  pub given : Gives (at + length behind) bytes
  pub all : at + length behind + length bytes ≡ len
  pub is : part ≡ part_of file at (behind ++ bytes)
