-- Walks through files that are read in pieces.
use Rattle.std.specs.Prelude.{◌≡◌, ◌⊎◌, ℕ, ◌+◌, ◌-◌, ◌<◌, ◌≤◌, List, [], ◌∷◌, ◌++◌, length, Contains}
use Rattle.std.specs.List.{AllByRecursion}
use Rattle.raft_base.specs.declared.errors.Error.{Error}
use Rattle.raft_base.specs.declared.pipe_log.FileId.{FileId}
use Rattle.raft_base.specs.declared.pipe_log.LogFileContext.{LogFileContext}
use Rattle.raft_base.specs.declared.pipe_log.LogQueue.{LogQueue}
use Rattle.raft_base.specs.declared.pipe_log.LogQueue.TheVariants.{Append, Rewrite}
use Rattle.raft_base.specs.declared.pipe_log.Version.{Version}
use Rattle.raft_records.specs.FilePart.{HasHeader, Part, part_of}
use Rattle.raft_reading.specs.FilesRead.{AreRead, IsUnread, joined}
use Rattle.raft_reading.specs.IoErrors.{IoError}
use Rattle.raft_reading.specs.QueueRead.{file_of}
use Rattle.raft_reading.specs.declared.queue_files.FileSize.{FileSize}
use Rattle.raft_listing.specs.Walks.{HasWalked, Met}

-- a visitor was shown parts of a file, the first at this offset, and each other where the one before it ends
abbrev pub AreWalkedFrom : {V : Type 0} → (V → Part → ℕ → Met → V → Type 0) → LogFileContext → ℕ → List (List ℕ) → V → V → Type 0
AreWalkedFrom {V} Visits file offset [] old new = old ≡ new
AreWalkedFrom {V} Visits file offset (bytes ∷ parts) old new =
    (between : V) × HasWalked Visits (part_of file offset bytes) old between × AreWalkedFrom Visits file (offset + length bytes) parts between new

-- bytes that are one batch by the header in front of them
abbrev pub IsBatchByHeader : List ℕ → Type 0
IsBatchByHeader bytes = (offset : ℕ) × HasHeader bytes offset (length bytes)

-- bytes that are such batches, one behind another
abbrev pub AreBatchesByHeader : List ℕ → Type 0
AreBatchesByHeader bytes = (batches : List (List ℕ)) × AllByRecursion IsBatchByHeader batches × (joined batches ≡ bytes)

-- no header stands at the start of these bytes by which a batch ends within them
pub record HasNoWhole (bytes : List ℕ) : Type 0 where
  pub none : (offset len : ℕ) → HasHeader bytes offset len → length bytes < len

-- there is room for a header at the start of these bytes, but none stands there by which a batch ends within them and so many bytes behind
pub record LeadsNowhere (bytes : List ℕ) (left : ℕ) : Type 0 where
  pub room : 16 ≤ length bytes
  pub nowhere : (offset len : ℕ) → HasHeader bytes offset len → length bytes + left < len

-- a visitor was shown the bytes of a file of this length, as reads gave them, in parts, each but the last of which is cut off where a batch ends by the headers from its first byte on: all of them, or the last part is followed by more, but at its first byte no header leads on
pub record HasWalkedFile {V : Type 0} (Visits : V → Part → ℕ → Met → V → Type 0) (Gives : ℕ → List ℕ → Type 0) (file : LogFileContext) (len : ℕ) (old new : V) : Type 0 where
  pub bytes : List ℕ
  pub read : AreRead Gives bytes
  pub inside : length bytes ≤ len
  pub parts : List (List ℕ)
  pub last : List ℕ
  pub cut : AllByRecursion AreBatchesByHeader parts
  pub all : joined (parts ++ last ∷ []) ≡ bytes
  pub whole : (length bytes ≡ len) ⊎ LeadsNowhere last (len - length bytes)
  pub walked : AreWalkedFrom Visits file 0 (parts ++ last ∷ []) old new

-- a visitor was shown all bytes of the files of a queue, in order
abbrev pub AreFilesWalked : {V : Type 0} → (V → Part → ℕ → Met → V → Type 0) → (FileId → ℕ → List ℕ → Type 0) → LogQueue → Version → List FileSize → V → V → Type 0
AreFilesWalked {V} Visits Gives queue version [] old new = old ≡ new
AreFilesWalked {V} Visits Gives queue version (size ∷ sizes) old new =
    (between : V)
    × HasWalkedFile Visits (Gives (file_of queue size.seq)) (record { id = file_of queue size.seq; version = version }) size.len old between
    × AreFilesWalked Visits Gives queue version sizes between new

-- so it was of both queues: of the append queue, then of the rewrite queue
abbrev pub AreBothWalked : {V : Type 0} → (V → Part → ℕ → Met → V → Type 0) → (FileId → ℕ → List ℕ → Type 0) → Version → List FileSize → List FileSize → V → V → Type 0
AreBothWalked {V} Visits Gives version append rewrite old new =
    (between : V) × AreFilesWalked Visits Gives Append version append old between × AreFilesWalked Visits Gives Rewrite version rewrite between new

-- a file of a queue could not be read on behind the bytes that reads gave
abbrev pub IsFileUnread : (FileId → ℕ → List ℕ → Type 0) → (FileId → ℕ → IoError → Type 0) → LogQueue → FileSize → Error → Type 0
IsFileUnread Gives Fails queue size e = IsUnread (Gives (file_of queue size.seq)) (Fails (file_of queue size.seq)) size.len e

-- so it was of one of the files of a queue
pub record IsOneUnread (Gives : FileId → ℕ → List ℕ → Type 0) (Fails : FileId → ℕ → IoError → Type 0) (queue : LogQueue) (sizes : List FileSize) (e : Error) : Type 0 where
  pub size : FileSize
  pub among : Contains sizes size
  pub unread : IsFileUnread Gives Fails queue size e

-- so it was of one of the files of both queues
abbrev pub IsOneOfBothUnread : (FileId → ℕ → List ℕ → Type 0) → (FileId → ℕ → IoError → Type 0) → List FileSize → List FileSize → Error → Type 0
IsOneOfBothUnread Gives Fails append rewrite e = IsOneUnread Gives Fails Append append e ⊎ IsOneUnread Gives Fails Rewrite rewrite e

-- the bytes in front of a piece, which begins at an offset, were shown as parts, each of which ends where a batch does; what is left begins at the next offset
pub record IsPrefixWalked {V : Type 0} (Visits : V → Part → ℕ → Met → V → Type 0) (file : LogFileContext) (at : ℕ) (piece left : List ℕ) (next : ℕ) (old new : V) : Type 0 where
  pub parts : List (List ℕ)
  pub cut : AllByRecursion AreBatchesByHeader parts
  pub split : piece ≡ joined parts ++ left
  pub ends : next ≡ at + length (joined parts)
  pub walked : AreWalkedFrom Visits file at parts old new
