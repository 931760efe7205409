-- Files of which the last one may end in a tail that can't be read: bytes behind its batches of which no prefix is a batch; and when
-- these are damage, which no crash leaves.
use Rattle.std.specs.Prelude.{◌≡◌, ◌≢◌, ◌⊎◌, ℕ, ◌<◌, ◌≤◌, List, [], ◌∷◌, ◌++◌, length, Option, Some, IfSome, MatchOption}
use Rattle.raft_base.specs.declared.errors.Error.{Error}
use Rattle.raft_base.specs.declared.errors.Error.TheVariants as errors
use Rattle.raft_base.specs.declared.pipe_log.LogQueue.{LogQueue}
use Rattle.raft_base.specs.declared.pipe_log.Version.{Version}
use Rattle.raft_records.specs.FilePart.{Part, AreBatchesUpTo}
use Rattle.raft_history.specs.Batches.{Event}
use Rattle.raft_files.specs.Asks.{Act, Found}
use Rattle.raft_files.specs.Disk.{MayStand, NumberedBytes}
use Rattle.raft_replay.specs.Cuts.{bytes_before}
use Rattle.raft_replay.specs.Segments.{AreHeldInTurn, HoldsFrom}
use Rattle.raft_replay.specs.Stops.{IsUnreadableAt}
use Rattle.raft_recover.specs.Files.{whole_file}
use Rattle.raft_tail.specs.Tails.{IsBrokenOff, IsElsewhere, IsSoundAt}

-- from this byte of a part on a batch begins somewhere that can be read, or one that is signed for another file
abbrev pub HasBatchesFrom : Part → ℕ → Type 0
HasBatchesFrom part at = (i : ℕ) × (at ≤ i) × (IsSoundAt part i ⊎ IsElsewhere part i)

-- damage begins at this byte of a part: what stands from there to the end isn't all that is left of one batch, and there are batches in it
pub record IsDamagedAt (part : Part) (at : ℕ) : Type 0 where
  pub whole : ¬ (IsBrokenOff part at)
  pub batches : HasBatchesFrom part at

-- from a byte of a part on these batches stand, one after the other, up to a byte at which no batch can be read
pub record HoldsTornFrom (part : Part) (from : ℕ) (h : List Event) : Type 0 where
  pub at : ℕ
  pub inside : at ≤ length part.bytes
  pub held : HoldsFrom (bytes_before part at) from h
  pub torn : IsUnreadableAt part at

-- the batches of files, in order, of which the last may end in a tail that can't be read
abbrev pub FilesHoldTorn : LogQueue → Version → List NumberedBytes → List Event → Type 0
FilesHoldTorn queue version [] h = h ≡ []
FilesHoldTorn queue version (file ∷ []) h = HoldsTornFrom (whole_file queue version file) 0 h
FilesHoldTorn queue version (file ∷ next ∷ files) h =
    AreHeldInTurn (HoldsFrom (whole_file queue version file) 0) (λ rest. FilesHoldTorn queue version (next ∷ files) rest) h

-- a reader who goes on from batch to batch stops at this byte of a part: at its end, or where no batch can be read
pub record StopsAt (part : Part) (at : ℕ) : Type 0 where
  pub batches : AreBatchesUpTo part at
  pub stops : (at ≡ length part.bytes) ⊎ IsUnreadableAt part at

-- where `readable_front` says that it came to the end of a part, or why no batch can be read, and that isn't want of memory, a reader stops
abbrev pub ReadableFrontStops : Type 0
ReadableFrontStops =
    (part : Part) (at : ℕ) (error : Option Error) → AreBatchesUpTo part at
    → MatchOption error (at ≡ length part.bytes) (λ e. at < length part.bytes)
    → IfSome error (λ e. e ≢ errors.Memory → IsUnreadableAt part at)
    → error ≢ Some errors.Memory → StopsAt part at

-- where a reader stops in the last of these files no damage begins
abbrev pub AreUndamaged : LogQueue → Version → List NumberedBytes → Type 0
AreUndamaged queue version files =
    (closed : List NumberedBytes) (last : NumberedBytes) (at : ℕ) → files ≡ closed ++ last ∷ [] → StopsAt (whole_file queue version last) at
    → ¬ (IsDamagedAt (whole_file queue version last) at)

-- so it is of the files that were found when the machine started, if any were
abbrev pub FoundUndamaged : LogQueue → Version → List Act → Type 0
FoundUndamaged queue version [] = Unit {0}
FoundUndamaged queue version (Found files ∷ earlier) = AreUndamaged queue version files
FoundUndamaged queue version (_ ∷ earlier) = FoundUndamaged queue version earlier

-- where it is so of the found files, it is of whatever may stand of the files
abbrev pub NoneIsDamaged : LogQueue → Version → List Act → Type 0
NoneIsDamaged queue version acts = FoundUndamaged queue version acts → (files : List NumberedBytes) → MayStand acts files → AreUndamaged queue version files
