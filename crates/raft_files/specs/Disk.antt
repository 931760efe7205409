-- What is left of an engine's files when the machine crashes: all that a reader has to believe of a disk. Two disks are said. One
-- writes in order: of what wasn't synced a prefix stands (`MayStand`, `IsLeftOf`). The other writes pages, and the lengths of
-- files, in any order: behind the synced bytes any bytes may stand, and so they may behind a cut that wasn't synced
-- (`MayStandUnordered`, `IsLeftUnordered`). On both what was synced stands. On the first a cut that wasn't synced may be undone,
-- but not where bytes stand that were put after it. A sync that failed changes nothing of what may be left; but all of this is
-- said of what is to be trusted alone (`IsTrusted`): behind a failed sync nothing is known of what else is asked but reads. An
-- append that was taken back isn't asked, since it left nothing; a crash in its midst leaves what it leaves of one that is asked
-- and fails (`Put`).
use Rattle.std.specs.Prelude.{◌≡◌, ◌⊎◌, ℕ, suc, ◌≤◌, List, [], ◌∷◌, ◌++◌, take, drop}
use Rattle.raft_base.specs.declared.pipe_log.LogQueue.{LogQueue}
use Rattle.raft_files.specs.Asks.{Act, Put, Begin, Sync, Unsynced, Delete, Cut, Found, Read, Ask, acts_on}
pub use Rattle.raft_files.specs.Asks.{NumberedBytes}

-- the files with the last one's bytes changed so
abbrev pub on_last : (List ℕ → List ℕ) → List NumberedBytes → List NumberedBytes
on_last change [] = []
on_last change (file ∷ []) = (file.0, change file.1) ∷ []
on_last change (file ∷ next ∷ files) = file ∷ on_last change (next ∷ files)

-- these bytes behind those of the last file
abbrev pub put_behind : List ℕ → List NumberedBytes → List NumberedBytes
put_behind bytes files = on_last (λ old. old ++ bytes) files

-- the last file cut to this many bytes
abbrev pub cut_last : ℕ → List NumberedBytes → List NumberedBytes
cut_last len files = on_last (λ old. take len old) files

-- all files that were found when the machine started and that were begun since, oldest first, with all bytes that were put there and not cut off; what is asked of the queue is given newest first
abbrev pub begun : List Act → List NumberedBytes
begun [] = []
begun (Put bytes ∷ earlier) = put_behind bytes (begun earlier)
begun (Begin seq ∷ earlier) = begun earlier ++ (seq, []) ∷ []
begun (Sync ∷ earlier) = begun earlier
begun (Delete ∷ earlier) = begun earlier
begun (Cut len ∷ earlier) = cut_last len (begun earlier)
begun (Found files ∷ earlier) = files
begun (Read place bytes ∷ earlier) = begun earlier
begun (Unsynced ∷ earlier) = begun earlier

-- how many deletions were asked since the machine started
abbrev pub deletions : List Act → ℕ
deletions [] = 0
deletions (Delete ∷ earlier) = suc (deletions earlier)
deletions (Found files ∷ earlier) = 0
deletions (_ ∷ earlier) = deletions earlier

-- how many of them were asked before the last sync
abbrev pub synced_deletions : List Act → ℕ
synced_deletions [] = 0
synced_deletions (Sync ∷ earlier) = deletions earlier
synced_deletions (Found files ∷ earlier) = 0
synced_deletions (_ ∷ earlier) = synced_deletions earlier

-- the files of a queue with their bytes, oldest first, when nothing is lost
abbrev pub files_of : LogQueue → List Ask → List NumberedBytes
files_of queue asked = drop (deletions (acts_on queue asked)) (begun (acts_on queue asked))

-- ---- a disk that writes in order

-- a prefix of these bytes stands behind those of the last file
pub record IsFrontPut (bytes : List ℕ) (old new : List NumberedBytes) : Type 0 where
  pub front : List ℕ
  pub rest : List ℕ
  pub split : bytes ≡ front ++ rest
  pub put : new ≡ put_behind front old

-- what may stand of the files that were found and begun, none of them deleted: what was found or synced, and of what was asked since then a prefix; of bytes a prefix, and a new file or not
abbrev pub MayStand : List Act → List NumberedBytes → Type 0
MayStand [] files = files ≡ []
MayStand (Put bytes ∷ earlier) files = MayStand earlier files ⊎ IsFrontPut bytes (begun earlier) files
MayStand (Begin seq ∷ earlier) files = (files ≡ begun earlier) ⊎ (files ≡ begun earlier ++ (seq, []) ∷ [])
MayStand (Sync ∷ earlier) files = files ≡ begun earlier
MayStand (Delete ∷ earlier) files = MayStand earlier files
MayStand (Cut len ∷ earlier) files = MayStand earlier files ⊎ (files ≡ cut_last len (begun earlier))
MayStand (Found found ∷ earlier) files = files ≡ found
MayStand (Read place bytes ∷ earlier) files = MayStand earlier files
MayStand (Unsynced ∷ earlier) files = MayStand earlier files

-- the files of a queue that may be left when the machine crashes after all this was asked: what may stand, without the oldest files; at least those are gone whose deletion was synced, at most those whose deletion was asked. What is left of one queue says nothing of the other
pub record IsLeftOf (queue : LogQueue) (asked : List Ask) (files : List NumberedBytes) : Type 0 where
  pub standing : List NumberedBytes
  pub stands : MayStand (acts_on queue asked) standing
  pub gone : ℕ
  pub at_least : synced_deletions (acts_on queue asked) ≤ gone
  pub at_most : gone ≤ deletions (acts_on queue asked)
  pub left : files ≡ drop gone standing

-- ---- a disk that writes in any order

-- the files that were found and begun, oldest first, with the bytes that were synced and not cut off since; a file that was begun since the last sync has none
abbrev pub synced_files : List Act → List NumberedBytes
synced_files [] = []
synced_files (Put bytes ∷ earlier) = synced_files earlier
synced_files (Begin seq ∷ earlier) = begun earlier ++ (seq, []) ∷ []
synced_files (Sync ∷ earlier) = begun earlier
synced_files (Delete ∷ earlier) = synced_files earlier
synced_files (Cut len ∷ earlier) = cut_last len (synced_files earlier)
synced_files (Found files ∷ earlier) = files
synced_files (Read place bytes ∷ earlier) = synced_files earlier
synced_files (Unsynced ∷ earlier) = synced_files earlier

-- any bytes, of any number, stand behind those of the last file
pub record IsAnyPut (old new : List NumberedBytes) : Type 0 where
  pub rest : List ℕ
  pub put : new ≡ put_behind rest old

-- What may stand of the files that were found and begun, none of them deleted, where pages and lengths reach the disk in any
-- order: what was found or synced. Once bytes were put in the last file, or cut off it, any bytes may stand behind its synced
-- ones: zeros, older bytes, parts of what was put, more or fewer than were put. A new file is there or not.
abbrev pub MayStandUnordered : List Act → List NumberedBytes → Type 0
MayStandUnordered [] files = files ≡ []
MayStandUnordered (Put bytes ∷ earlier) files = MayStandUnordered earlier files ⊎ IsAnyPut (synced_files earlier) files
MayStandUnordered (Begin seq ∷ earlier) files = (files ≡ begun earlier) ⊎ (files ≡ begun earlier ++ (seq, []) ∷ [])
MayStandUnordered (Sync ∷ earlier) files = files ≡ begun earlier
MayStandUnordered (Delete ∷ earlier) files = MayStandUnordered earlier files
MayStandUnordered (Cut len ∷ earlier) files = MayStandUnordered earlier files ⊎ IsAnyPut (cut_last len (synced_files earlier)) files
MayStandUnordered (Found found ∷ earlier) files = files ≡ found
MayStandUnordered (Read place bytes ∷ earlier) files = MayStandUnordered earlier files
MayStandUnordered (Unsynced ∷ earlier) files = MayStandUnordered earlier files

-- the files of a queue that such a disk may leave: what may stand so, without the oldest files, as in `IsLeftOf`
pub record IsLeftUnordered (queue : LogQueue) (asked : List Ask) (files : List NumberedBytes) : Type 0 where
  pub standing : List NumberedBytes
  pub stands : MayStandUnordered (acts_on queue asked) standing
  pub gone : ℕ
  pub at_least : synced_deletions (acts_on queue asked) ≤ gone
  pub at_most : gone ≤ deletions (acts_on queue asked)
  pub left : files ≡ drop gone standing
