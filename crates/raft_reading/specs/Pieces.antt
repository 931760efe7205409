-- A file that is replayed piece by piece: what was let go, and what is left.
use Rattle.std.specs.Prelude.{◌≡◌, ℕ, ◌+◌, ◌≤◌, List, ◌++◌, length}
use Rattle.raft_base.specs.declared.pipe_log.LogFileContext.{LogFileContext}
use Rattle.raft_records.specs.FilePart.{part_of}
use Rattle.raft_history.specs.Batches.{Event}
use Rattle.raft_replay.specs.Replays.{HasReplayed}
use Rattle.raft_replay.specs.Segments.{HoldsFrom}
use Rattle.raft_reading.specs.FilesRead.{AreRead}

-- the first bytes of a piece, which begins at this offset, are replayed and let go: what is left begins at the next
pub record IsReplayedFront {M : Type 0} (file : LogFileContext) (at : ℕ) (stands_for stands_exactly : M → List Event → Type 0) (old new : M) (piece left : List ℕ) (next : ℕ) : Type 0 where
  pub front : List ℕ
  pub split : piece ≡ front ++ left
  pub ends : next ≡ at + length front
  pub replayed : HasReplayed (HoldsFrom (part_of file at front) 0) stands_for stands_exactly old new

-- the bytes of a file before this offset are replayed and let go, and the piece is what was read behind them
pub record IsUnderway {M : Type 0} (Gives : ℕ → List ℕ → Type 0) (file : LogFileContext) (len : ℕ) (stands_for stands_exactly : M → List Event → Type 0) (old new : M) (at : ℕ) (piece : List ℕ) : Type 0 where
  pub gone : List ℕ
  pub ends : at ≡ length gone
  pub inside : at + length piece ≤ len
  pub read : AreRead Gives (gone ++ piece)
  pub replayed : HasReplayed (HoldsFrom (part_of file 0 gone) 0) stands_for stands_exactly old new
