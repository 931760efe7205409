-- The batches that asks put, and the prefix of them that a disk leaves.
use Rattle.std.specs.Prelude.{◌≡◌, ◌≢◌, ℕ, ◌<◌, ◌≤◌, ◌^◌, List, [], ◌∷◌, ◌++◌, length, take}
use Rattle.raft_base.specs.Signature.{signature_in}
use Rattle.raft_base.specs.declared.pipe_log.FileBlockHandle.{FileBlockHandle}
use Rattle.raft_base.specs.declared.pipe_log.LogQueue.{LogQueue}
use Rattle.raft_base.specs.declared.pipe_log.Version.{Version}
use Rattle.raft_records.specs.Item.{Item, AreInBytes}
use Rattle.raft_records.specs.LogBatch.{IsBatchOf, encoded_length, log_batch_bytes}
use Rattle.raft_records.specs.Range.{AreInRange}
use Rattle.raft_history.specs.Batches.{Event}
use Rattle.raft_files.specs.Asks.{Act, Put, Begin, Sync, Unsynced, Delete, Cut, Found, Read, Ask, acts_on}
use Rattle.raft_files.specs.Disk.{NumberedBytes, cut_last, begun, deletions, synced_deletions}
use Rattle.raft_records.specs.FilePart.{Part, StandBetween}
use Rattle.raft_replay.specs.Cuts.{bytes_before}
use Rattle.raft_replay.specs.Stops.{IsUnreadableAt}
use Rattle.raft_replay.specs.WrittenParts.{written_event}
use Rattle.raft_recover.specs.Files.{FilesHold, whole_file}
use Rattle.raft_tail.specs.Tails.{IsBrokenOff}
use Rattle.raft_engine_prefixes.specs.TornTails.{HoldsTornFrom, FilesHoldTorn}

-- wherever the bytes of a part end from this one on, what stands where their reading stops is all that is left of one batch
abbrev pub IsBrokenWhereItEnds : Part → ℕ → Type 0
IsBrokenWhereItEnds part from =
    (n at : ℕ) (batches : List (List Item)) → n ≤ length part.bytes → StandBetween (bytes_before part n) from at batches → IsUnreadableAt (bytes_before part n) at
    → IsBrokenOff (bytes_before part n) at

-- from a byte of a part on these batches were put, and may end in a torn tail: wherever a crash ends them one is broken off
pub record ArePutFrom (part : Part) (from : ℕ) (h : List Event) : Type 0 where
  pub held : HoldsTornFrom part from h
  pub broken : IsBrokenWhereItEnds part from

-- these bytes, put behind those of the last file, are these batches, one after the other, and may end in a torn tail
abbrev pub AreBatchesPut : LogQueue → Version → List ℕ → List NumberedBytes → List Event → Type 0
AreBatchesPut queue version bytes [] more = more ≡ []
AreBatchesPut queue version bytes (file ∷ []) more = ArePutFrom (whole_file queue version (file.0, file.1 ++ bytes)) (length file.1) more
AreBatchesPut queue version bytes (file ∷ next ∷ files) more = AreBatchesPut queue version bytes (next ∷ files) more

-- files that held some batches, and no torn tail, get bytes that are more batches
pub record AreMorePut (queue : LogQueue) (version : Version) (bytes : List ℕ) (files : List NumberedBytes) (Before : List Event → Type 0) (h : List Event) : Type 0 where
  pub old : List Event
  pub before : Before old
  pub whole : FilesHold queue version files old
  pub more : List Event
  pub put : AreBatchesPut queue version bytes files more
  pub split : h ≡ old ++ more

-- The batches that the acts of a queue put, newest act first: those that are synced, and all. Bytes are put, and files
-- begun, behind whole batches alone, and what is cut off is of no batch. At a sync and a new file this counts what the
-- files hold by then, however it came there, and so it does where files are found. A read puts nothing, nor does a failed sync.
abbrev pub ArePut : LogQueue → Version → List Act → List Event → List Event → Type 0
ArePut queue version [] synced h = (synced ≡ []) × (h ≡ [])
ArePut queue version (Put bytes ∷ earlier) synced h = AreMorePut queue version bytes (begun earlier) (λ old. ArePut queue version earlier synced old) h
ArePut queue version (Begin seq ∷ earlier) synced h = (synced ≡ h) × FilesHold queue version (begun earlier) h
ArePut queue version (Sync ∷ earlier) synced h = (synced ≡ h) × FilesHoldTorn queue version (begun earlier) h
ArePut queue version (Delete ∷ earlier) synced h = ArePut queue version earlier synced h
ArePut queue version (Cut len ∷ earlier) synced h = ArePut queue version earlier synced h × FilesHoldTorn queue version (cut_last len (begun earlier)) h
ArePut queue version (Found files ∷ earlier) synced h = (synced ≡ h) × FilesHoldTorn queue version files h
ArePut queue version (Read place bytes ∷ earlier) synced h = ArePut queue version earlier synced h
ArePut queue version (Unsynced ∷ earlier) synced h = ArePut queue version earlier synced h

-- the same, and the files end where these batches do
pub record ArePutWhole (queue : LogQueue) (version : Version) (acts : List Act) (synced h : List Event) : Type 0 where
  pub put : ArePut queue version acts synced h
  pub whole : FilesHold queue version (begun acts) h

-- Where the bytes of a written batch that has items are put behind those of the last file, at the place that they were
-- written to, that batch is put.
abbrev pub WrittenBatchIsPut : Type 0
WrittenBatchIsPut =
    (queue : LogQueue) (version : Version) (acts : List Act) (synced h : List Event) (closed : List NumberedBytes) (last : NumberedBytes)
    (handle : FileBlockHandle) (items : List Item) (entry_bytes : List ℕ)
    → IsBatchOf items entry_bytes → AreInRange items → AreInBytes items → items ≢ [] → encoded_length items entry_bytes < 2 ^ 56
    → handle.id ≡ record { queue = queue; seq = last.0 } → handle.offset ≡ length last.1
    → begun acts ≡ closed ++ last ∷ [] → ArePutWhole queue version acts synced h
    → ArePutWhole queue version (Put (log_batch_bytes (signature_in version last.0) items entry_bytes) ∷ acts) synced
    (h ++ written_event (whole_file queue version last) handle items entry_bytes ∷ [])

-- a prefix of all batches, with the synced ones at least
pub record IsPrefixWith (synced h front : List Event) : Type 0 where
  pub more : List Event
  pub lost : List Event
  pub least : front ≡ synced ++ more
  pub split : h ≡ front ++ lost

-- the files hold such a prefix, but for a torn tail
pub record HoldPrefixWith (queue : LogQueue) (version : Version) (synced h : List Event) (files : List NumberedBytes) : Type 0 where
  pub front : List Event
  pub is_front : IsPrefixWith synced h front
  pub held : FilesHoldTorn queue version files front

-- the files hold such a prefix without the batches of the oldest files, so many as may be deleted
pub record HoldRestOfPrefix (queue : LogQueue) (version : Version) (asked : List Ask) (synced h : List Event) (files : List NumberedBytes) : Type 0 where
  pub gone : ℕ
  pub at_least : synced_deletions (acts_on queue asked) ≤ gone
  pub at_most : gone ≤ deletions (acts_on queue asked)
  pub deleted : List Event
  pub of_deleted : FilesHold queue version (take gone (begun (acts_on queue asked))) deleted
  pub rest : List Event
  pub is_front : IsPrefixWith synced h (deleted ++ rest)
  pub held : FilesHoldTorn queue version files rest

-- an act that finds no files: these are found when the machine starts
abbrev pub GoesOn : Act → Type 0
GoesOn (Found files) = ⊥
GoesOn _ = Unit {0}

-- these batches are the first ones of those
abbrev pub AreFirstOf : List Event → List Event → Type 0
AreFirstOf h all = (more : List Event) × (all ≡ h ++ more)

-- what was put before an act, and what was synced, are the first of the batches behind it
abbrev pub PutsGoOn : Type 0
PutsGoOn =
    (queue : LogQueue) (version : Version) (act : Act) (acts : List Act) (synced h : List Event) → GoesOn act → ArePut queue version (act ∷ acts) synced h
    → (synced' h' : List Event) → ArePut queue version acts synced' h'
    → AreFirstOf h' h × AreFirstOf synced' synced
