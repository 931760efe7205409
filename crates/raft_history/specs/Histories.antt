-- Histories: batches of one queue in the order of their files, when they can be read, and what one reading gives.
use Rattle.std.specs.Prelude.{◌≡◌, ℕ, ◌+◌, ◌<◌, ◌≤◌, ◌^◌, false, List, [], ◌∷◌, length, flat_map, Option, Some, None}
use Rattle.std.specs.List.{AllByRecursion}
use Rattle.std.specs.FinMap as finite
use Rattle.raft_base.specs.declared.pipe_log.FileId.{FileId}
use Rattle.raft_base.specs.declared.pipe_log.LogQueue.{LogQueue}
use Rattle.raft_base.specs.declared.pipe_log.LogQueue.TheVariants.{Append, Rewrite}
use Rattle.raft_base.specs.Runs.{IsConsecutive}
use Rattle.raft_records.specs.declared.key_value.OpType.{OpType}
use Rattle.raft_records.specs.declared.key_value.OpType.TheVariants as operations
use Rattle.raft_records.specs.Group.{is_reserved, marker_byte}
use Rattle.raft_records.specs.Item.{Item, Content, entries, command, pair}
use Rattle.raft_records.specs.DecodedIn.{IsPlaceInFile}
use Rattle.raft_table.specs.Steps.{Step, Run, Put, Del, after}
use Rattle.raft_table.specs.Table.{Table}
pub use Rattle.raft_table.specs.TakenSteps.{IsStepOfQueue}
use Rattle.raft_history.specs.Batches.{Event, batches}
use Rattle.raft_history.specs.Effects.{effects, steps_of, EachApart}
use Rattle.raft_history.specs.RegionSteps.{RegionStep, Tables, steps_of_items, cleaned_by_steps}

-- ---- how many records steps name

-- how many entries and key values a step names; a Del counts one
abbrev pub records_of : Step → ℕ
records_of (Run run) = length run
records_of (Put key value file) = 1
records_of (Del key) = 1
records_of _ = 0

-- how many entries and key values steps name together, each Del counted as one
abbrev pub records_in : List RegionStep → ℕ
records_in [] = 0
records_in (s ∷ steps) = records_of s.step + records_in steps

-- the batches of a history name fewer than 2^63 entries and key values together, each Del counted as a key value
pub record IsSmall (h : List Event) : Type 0 where
  pub few : records_in (flat_map (λ e. steps_of_items e.items) h) < 2 ^ 63

-- ---- sound histories

-- a change of a key that is not reserved, as it may stand in a batch of this file: a put has a value, and this file
abbrev pub IsPairIn : FileId → OpType → Option (List ℕ) → Option FileId → Type 0
IsPairIn file operations.Put (Some value) (Some id) = id ≡ file
IsPairIn file operations.Put _ _ = ⊥
IsPairIn file operations.Del _ _ = Unit {0}

-- a content as it may stand in a batch of this file: entries are consecutive, each with a place in the file;
-- a change of a key that is not reserved may stand in it
abbrev pub IsInFile : FileId → Content → Type 0
IsInFile file (entries es) =
    IsConsecutive es × AllByRecursion (λ e. IsPlaceInFile file e.entries) es
IsInFile file (command c) = Unit {0}
IsInFile file (pair p) = is_reserved p.key ≡ false → IsPairIn file p.op_type p.value p.file_id

-- each item is as it may stand in a batch of this file
abbrev pub AreInFile : FileId → List Item → Type 0
AreInFile file items = AllByRecursion (λ item. IsInFile file item.content) items

-- in the rewrite queue each item that is a group marker has the byte of a status; the append queue ignores group markers
abbrev pub HaveStatus : LogQueue → List Item → Type 0
HaveStatus Append items = Unit {0}
HaveStatus Rewrite items =
    AllByRecursion (λ item. (byte : ℕ) → marker_byte item.content ≡ Some byte → byte ≤ 2) items

-- the files are of this queue; their numbers begin at this one or above it, and never go down
abbrev pub FilesFrom : LogQueue → ℕ → List Event → Type 0
FilesFrom queue seq [] = Unit {0}
FilesFrom queue seq (e ∷ h) = (e.file.queue ≡ queue) × (seq ≤ e.file.seq) × FilesFrom queue e.file.seq h

-- the number of the last file, or this one where there is no file
abbrev pub last_from : ℕ → List Event → ℕ
last_from seq [] = seq
last_from seq (e ∷ h) = last_from e.file.seq h

-- a history of this queue that can be read: files in order, items as their files ask, group markers with a status, and no region's step refused
pub record IsSoundIn (queue : LogQueue) (h : List Event) : Type 0 where
  pub files : FilesFrom queue 0 h
  pub items : AllByRecursion (λ e. AreInFile e.file e.items) h
  pub markers : AllByRecursion (λ e. HaveStatus e.file.queue e.items) h
  pub accepted : (r : ℕ) → (t : Option Table) × (after queue r None (steps_of r (batches h)) ≡ Some t)

-- a history that can be read
pub record Sound (h : List Event) : Type 0 where
  pub queue : LogQueue
  pub sound : IsSoundIn queue h

-- any two effects of the history are apart
pub record Apart (h : List Event) : Type 0 where
  pub each : EachApart (effects (batches h))

-- every batch is of this queue
abbrev pub AreOfQueue : LogQueue → List Event → Type 0
AreOfQueue queue [] = Unit {0}
AreOfQueue queue (e ∷ h) = (e.file.queue ≡ queue) × AreOfQueue queue h

-- every batch is of this queue, as one fact
pub record IsOfQueue (queue : LogQueue) (h : List Event) : Type 0 where
  pub each : AreOfQueue queue h

-- ---- one reading

-- the regions that a history cleans, in order; none in the rewrite queue
abbrev pub cleaned_in : LogQueue → List Event → List ℕ
cleaned_in queue h = flat_map (λ e. cleaned_by_steps queue (steps_of_items e.items)) h

-- the tables are those that reading all batches in order gives: each region's steps in the effects, from an absent table; and the cleaned regions are those of the history
pub record IsOneReading (queue : LogQueue) (h : List Event) (tables : Tables) (cleaned : List ℕ) : Type 0 where
  pub tables_read : (r : ℕ) → after queue r None (steps_of r (batches h)) ≡ Some (finite.get tables r)
  pub regions_cleaned : cleaned ≡ cleaned_in queue h
