-- What is asked of an engine's files.
use Rattle.std.specs.Prelude.{◌≡◌, ◌⊎◌, ℕ, Bool, true, false, List, ◌∷◌, ◌++◌, map, filter}
use Rattle.std.specs.List.{AllByRecursion}
use Rattle.raft_base.specs.declared.pipe_log.FileBlockHandle.{FileBlockHandle}
use Rattle.raft_base.specs.declared.pipe_log.LogQueue.{LogQueue}
use Rattle.raft_base.specs.declared.pipe_log.LogQueue.TheVariants.{Append, Rewrite}

-- a file by its number and its bytes
abbrev pub NumberedBytes : Type 0
NumberedBytes = ℕ × List ℕ

-- Bytes are put behind those of the last file; a new file with this number is begun behind the last one, all of whose bytes
-- are synced; all that was asked is synced; a sync of it failed; the oldest file is deleted; the last file is cut to this many
-- bytes; before all else that is asked of a queue, these files were found when the machine started, all of their bytes on the
-- disk; and the bytes at a place were read, and were these.
pub data Act : Type 0 where
  Put : List ℕ → Act
  Begin : ℕ → Act
  Sync : Act
  Unsynced : Act
  Delete : Act
  Cut : ℕ → Act
  Found : List NumberedBytes → Act
  Read : FileBlockHandle → List ℕ → Act

-- an act on the files of a queue
pub record Ask : Type 0 where
  pub queue : LogQueue
  pub act : Act

-- the act is asked of this queue
abbrev pub ask : LogQueue → Act → Ask
ask queue act = record { queue = queue; act = act }

-- the two queues are the same one
abbrev pub is_same_queue : LogQueue → LogQueue → Bool
is_same_queue Append Append = true
is_same_queue Append Rewrite = false
is_same_queue Rewrite Append = false
is_same_queue Rewrite Rewrite = true

-- what is asked of one queue
abbrev pub acts_on : LogQueue → List Ask → List Act
acts_on queue asked = map (λ a. a.act) (filter (λ a. is_same_queue queue a.queue) asked)

-- this is asked in addition, after all else
abbrev pub IsAsked : Ask → List Ask → List Ask → Type 0
IsAsked a old new = new ≡ a ∷ old

-- this is asked in addition, or nothing is
abbrev pub MayBeAsked : Ask → List Ask → List Ask → Type 0
MayBeAsked a old new = (new ≡ old) ⊎ (new ≡ a ∷ old)

-- what a call that fails may leave noted: of a sync that it failed, and else what was asked, which may be done in part
abbrev pub failed_act : Act → Act
failed_act Sync = Unsynced
failed_act act = act

-- so much of an ask
abbrev pub failed_ask : Ask → Ask
failed_ask a = ask a.queue (failed_act a.act)

-- an act that is no failed sync
abbrev pub IsNoFailedSync : Act → Type 0
IsNoFailedSync Unsynced = ⊥
IsNoFailedSync _ = Unit {0}

-- no sync failed
abbrev pub NoSyncFailed : List Ask → Type 0
NoSyncFailed asked = AllByRecursion (λ (a : Ask). IsNoFailedSync a.act) asked

-- an act that is a read or a failed sync
abbrev pub IsReadOrUnsynced : Act → Type 0
IsReadOrUnsynced (Read place bytes) = Unit {0}
IsReadOrUnsynced Unsynced = Unit {0}
IsReadOrUnsynced _ = ⊥

-- Since a sync failed nothing was asked but reads, and more syncs that failed. Only then is what was asked to be trusted: after a
-- failed sync a system may take bytes for synced that it has dropped, so that a later sync, even one that is said to be done, a
-- new file or a deletion tells nothing of what is on the disk.
pub record IsTrusted (asked : List Ask) : Type 0 where
  pub since : List Ask
  pub before : List Ask
  pub split : asked ≡ since ++ before
  pub none : NoSyncFailed before
  pub only : AllByRecursion (λ (a : Ask). IsReadOrUnsynced a.act) since
