-- What an engine does to its two queues, what may stand of them when the machine crashes, and when nothing is lost by that.
use Rattle.std.specs.Prelude.{◌≡◌, ◌⊎◌, ℕ, ◌≤◌, max, nat_le, List, [], ◌∷◌, ◌++◌, filter}
use Rattle.std.specs.List.{AllByRecursion}
use Rattle.raft_base.specs.declared.entry_index.EntryIndex.{EntryIndex}
use Rattle.raft_base.specs.declared.pipe_log.LogQueue.{LogQueue}
use Rattle.raft_base.specs.declared.pipe_log.LogQueue.TheVariants.{Append, Rewrite}
use Rattle.raft_history.specs.Batches.{Event}
use Rattle.raft_history.specs.BothQueues.{IsReadingOfBoth}
use Rattle.raft_history.specs.Histories.{FilesFrom, AreInFile, HaveStatus, last_from, Apart, IsSoundIn}
use Rattle.raft_history.specs.RegionSteps.{RegionStep, Tables}
use Rattle.raft_engine_laws.specs.Groups.{EndNoOlderGroup}
use Rattle.raft_engine_laws.specs.KeptTables.{AreKept}
use Rattle.raft_engine_laws.specs.Records.{Records, live, HaveRecords}

-- what is done to a queue: a batch is written, all is synced, the files below a number are deleted; or the machine crashed, and these batches stood, of which those in files below a number are gone: they are synced before the engine goes on
pub data Deed : Type 0 where
  Write : Event → Deed
  Sync : Deed
  Delete : ℕ → Deed
  Crash : List Event → ℕ → Deed

-- all batches that were written and not lost, oldest first, those of deleted files too; what is done to the queue is given newest first
abbrev pub written : List Deed → List Event
written [] = []
written (Write e ∷ earlier) = written earlier ++ e ∷ []
written (Sync ∷ earlier) = written earlier
written (Delete n ∷ earlier) = written earlier
written (Crash standing n ∷ earlier) = standing

-- the number below which files are deleted
abbrev pub deleted : List Deed → ℕ
deleted [] = 0
deleted (Write e ∷ earlier) = deleted earlier
deleted (Sync ∷ earlier) = deleted earlier
deleted (Delete n ∷ earlier) = max n (deleted earlier)
deleted (Crash standing n ∷ earlier) = n

-- the number below which files were deleted before the last sync
abbrev pub synced_deleted : List Deed → ℕ
synced_deleted [] = 0
synced_deleted (Write e ∷ earlier) = synced_deleted earlier
synced_deleted (Sync ∷ earlier) = deleted earlier
synced_deleted (Delete n ∷ earlier) = synced_deleted earlier
synced_deleted (Crash standing n ∷ earlier) = n

-- the batches that were written before the last sync, oldest first
abbrev pub synced : List Deed → List Event
synced [] = []
synced (Write e ∷ earlier) = synced earlier
synced (Sync ∷ earlier) = written earlier
synced (Delete n ∷ earlier) = synced earlier
synced (Crash standing n ∷ earlier) = standing

-- nothing was written since the last sync
abbrev pub IsSynced : List Deed → Type 0
IsSynced [] = Unit {0}
IsSynced (Write e ∷ earlier) = ⊥
IsSynced (Sync ∷ earlier) = Unit {0}
IsSynced (Delete n ∷ earlier) = IsSynced earlier
IsSynced (Crash standing n ∷ earlier) = Unit {0}

-- ---- a crash

-- the batches that may stand, if no file is deleted: what was synced, and of what was written since then a prefix
abbrev pub MayStand : List Deed → List Event → Type 0
MayStand [] h = h ≡ []
MayStand (Write e ∷ earlier) h = MayStand earlier h ⊎ (h ≡ written earlier ++ e ∷ [])
MayStand (Sync ∷ earlier) h = h ≡ written earlier
MayStand (Delete n ∷ earlier) h = MayStand earlier h
MayStand (Crash standing n ∷ earlier) h = h ≡ standing

-- the files below this number may be gone: at least those whose deletion was synced, at most those whose deletion was asked
pub record MayBeGone (deeds : List Deed) (n : ℕ) : Type 0 where
  pub at_least : synced_deleted deeds ≤ n
  pub at_most : n ≤ deleted deeds

-- the batches in files from a number on
unfoldable pub in_files_from : ℕ → List Event → List Event
in_files_from n h = filter (λ e. nat_le n e.file.seq) h

-- the batches that may be left of those that stand
pub record IsLeft (deeds : List Deed) (standing h : List Event) : Type 0 where
  pub stands : MayStand deeds standing
  pub gone : ℕ
  pub may_go : MayBeGone deeds gone
  pub left : h ≡ in_files_from gone standing

-- a batch that may be written next to a queue: to the last file or a later one, which isn't deleted
pub record IsNextIn (queue : LogQueue) (deeds : List Deed) (e : Event) : Type 0 where
  pub queue_is : e.file.queue ≡ queue
  pub follows : last_from 0 (written deeds) ≤ e.file.seq
  pub stays : deleted deeds ≤ e.file.seq
  pub in_file : AreInFile e.file e.items
  pub status : HaveStatus queue e.items

-- all batches are in the file of this number
abbrev pub AreInFileOf : ℕ → List Event → Type 0
AreInFileOf seq h = AllByRecursion (λ (e : Event). e.file.seq ≡ seq) h

-- wherever deleted files end, those that stay end no group that began in those
abbrev pub FilesEndNoOlderGroup : List Event → Type 0
FilesEndNoOlderGroup h = (n : ℕ) → EndNoOlderGroup (in_files_from n h)

-- ---- nothing is lost

-- a crash loses nothing: whatever is left of both queues, each by itself, can be read, and each reading of both has the records that the standing batches of the append queue make, from those that there were before
pub record LoseNothing (content : EntryIndex → List ℕ) (base : ℕ → Records) (appended rewritten : List Deed) : Type 0 where
  pub readable : (standing append others rewrite : List Event) → IsLeft appended standing append → IsLeft rewritten others rewrite → IsSoundIn Append append × IsSoundIn Rewrite rewrite × Apart rewrite
  pub found : (standing append others rewrite : List Event) → IsLeft appended standing append → IsLeft rewritten others rewrite
      → (tables : Tables) (cleaned : List ℕ) → IsReadingOfBoth rewrite append tables cleaned → HaveRecords content tables (live content base standing)

-- some tables are kept by these batches, and have these records
pub record IsKeptWith (content : EntryIndex → List ℕ) (append rewrite : List Event) (records : ℕ → Records) : Type 0 where
  pub untold : List RegionStep
  pub tables : Tables
  pub kept : AreKept content append rewrite untold tables
  pub has : HaveRecords content tables records

-- what was done to both queues is safe: the engine's tables have the records that all written batches make, from those that there were before, and are kept by all batches; and whatever is left of both queues keeps some tables with the records that the standing batches of the append queue make
pub record IsSafe (content : EntryIndex → List ℕ) (base : ℕ → Records) (appended rewritten : List Deed) (untold : List RegionStep) (tables : Tables) : Type 0 where
  pub append_files : FilesFrom Append 0 (written appended)
  pub rewrite_files : FilesFrom Rewrite 0 (written rewritten)
  pub has : HaveRecords content tables (live content base (written appended))
  pub kept : (m n : ℕ) → MayBeGone appended m → MayBeGone rewritten n → AreKept content (in_files_from m (written appended)) (in_files_from n (written rewritten)) untold tables
  pub left : (standing append rewrite_standing rewrite : List Event) → IsLeft appended standing append → IsLeft rewritten rewrite_standing rewrite → IsKeptWith content append rewrite (live content base standing)
