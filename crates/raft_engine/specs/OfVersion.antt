-- What a crash leaves is of the version in which it was written, and isn't of raft-engine.
use Rattle.std.specs.Prelude.{ℕ, List, ◌∷◌, ◌++◌}
use Rattle.raft_base.specs.declared.pipe_log.FileBlockHandle.{FileBlockHandle}
use Rattle.raft_base.specs.declared.pipe_log.LogQueue.{LogQueue}
use Rattle.raft_base.specs.declared.pipe_log.Version.{Version}
use Rattle.raft_records.specs.FilePart.{Part, IsBatchAt}
use Rattle.raft_records.specs.Item.{Item}
use Rattle.raft_history.specs.Batches.{Event}
use Rattle.raft_files.specs.Asks.{Act, Ask, Begin, Cut, Delete, Found, NumberedBytes, Put, Read, Sync, Unsynced, acts_on}
use Rattle.raft_files.specs.Disk.{IsLeftOf, MayStand, begun}
use Rattle.raft_recover.specs.Files.{FilesHold}
use Rattle.raft_engine.specs.FoundFiles.{IsLastOfOther, IsOfOther}

-- whatever may stand of the files of a queue, the last one isn't of the other version or of raft-engine
abbrev pub NoneIsOther : LogQueue → Version → List Act → Type 0
NoneIsOther queue version acts = (files : List NumberedBytes) → MayStand acts files → ¬ (IsLastOfOther queue version files)

-- a prefix of bytes that begin with a batch of their version isn't of the other version
abbrev pub PrefixesAreNotOther : Type 0
PrefixesAreNotOther = (part : Part) (more : List ℕ) (items : List Item) (next : ℕ) → IsBatchAt (record part { bytes = part.bytes ++ more }) 0 items next → ¬ (IsOfOther part)

-- so it is where files are found of which the last isn't of the other version, and stays so by each ask after which, where it puts or cuts bytes, the files hold batches of their version, and no torn tail
pub record StaysOfVersion (queue : LogQueue) (version : Version) (acts : List Act) : Type 0 where
  pub found : (files : List NumberedBytes) → ¬ (IsLastOfOther queue version files) → NoneIsOther queue version (Found files ∷ acts)
  pub put : (bytes : List ℕ) (h : List Event) → FilesHold queue version (begun (Put bytes ∷ acts)) h → NoneIsOther queue version acts → NoneIsOther queue version (Put bytes ∷ acts)
  pub cut : (len : ℕ) (h : List Event) → FilesHold queue version (begun (Cut len ∷ acts)) h → NoneIsOther queue version acts → NoneIsOther queue version (Cut len ∷ acts)
  pub begun : (seq : ℕ) → NoneIsOther queue version acts → NoneIsOther queue version (Begin seq ∷ acts)
  pub synced : NoneIsOther queue version acts → NoneIsOther queue version (Sync ∷ acts)
  pub deleted : NoneIsOther queue version acts → NoneIsOther queue version (Delete ∷ acts)
  pub read : (place : FileBlockHandle) (bytes : List ℕ) → NoneIsOther queue version acts → NoneIsOther queue version (Read place bytes ∷ acts)
  pub unsynced : NoneIsOther queue version acts → NoneIsOther queue version (Unsynced ∷ acts)

-- so the last of the files that a crash leaves isn't of the other version
abbrev pub WhatIsLeftIsNotOther : Type 0
WhatIsLeftIsNotOther =
    (queue : LogQueue) (version : Version) (asks : List Ask) (files : List NumberedBytes) → NoneIsOther queue version (acts_on queue asks) → IsLeftOf queue asks files
    → ¬ (IsLastOfOther queue version files)
