-- Files that are found when an engine is opened: where their tails begin that can't be read, which of them a mode refuses, and when files are of the other version.
use Rattle.std.specs.Prelude.{◌≡◌, ◌⊎◌, ℕ, suc, ◌<◌, ◌≤◌, List, [], ◌∷◌, ◌++◌, length, codes, Option, Some, None}
use Rattle.std.specs.Fmt.{decimal}
use Rattle.raft_base.specs.Corruption.{IsArgumentRefusal, IsCorruption}
use Rattle.raft_base.specs.declared.errors.Error.{Error}
use Rattle.raft_base.specs.declared.pipe_log.FileId.{FileId}
use Rattle.raft_base.specs.declared.pipe_log.LogQueue.{LogQueue}
use Rattle.raft_base.specs.declared.pipe_log.Version.{Version}
use Rattle.raft_base.specs.declared.pipe_log.Version.TheVariants.{V1, V2}
use Rattle.raft_records.specs.FilePart.{Part, IsBatchAt}
use Rattle.raft_records.specs.Item.{Item}
use Rattle.raft_files.specs.Asks.{Ask, Begin, Cut, NumberedBytes, ask}
use Rattle.raft_files.specs.Disk.{cut_last}
use Rattle.raft_replay.specs.Stops.{IsUnreadableAt, place_text, queue_text}
use Rattle.raft_recover.specs.Files.{whole_file}
use Rattle.raft_engine_prefixes.specs.Done.{AreConsecutive, numbers}
use Rattle.raft_engine_prefixes.specs.TornTails.{IsDamagedAt, StopsAt}
use Rattle.raft_tail.specs.Tails.{IsNextElsewhere, IsNextSound}
use Rattle.raft_engine.specs.SoundBlocks.{IsLastSound, IsLastUnsoundAs}
use Rattle.raft_engine.specs.declared.recovery_mode.RecoveryMode.{RecoveryMode}
use Rattle.raft_engine.specs.declared.recovery_mode.RecoveryMode.TheVariants.{AbsoluteConsistency, TolerateTailCorruption, TolerateTornTail}

-- which bytes a mode refuses, of those at which no batch can be read: each; those where damage begins; none
abbrev pub IsRefusedAt : RecoveryMode → Part → ℕ → Type 0
IsRefusedAt AbsoluteConsistency part at = Unit {0}
IsRefusedAt TolerateTornTail part at = IsDamagedAt part at
IsRefusedAt TolerateTailCorruption part at = ⊥

-- a mode refuses the tail of a part: before the end a reader stops, at a byte that the mode refuses
pub record IsTailRefused (mode : RecoveryMode) (part : Part) : Type 0 where
  pub at : ℕ
  pub stops : StopsAt part at
  pub before_end : at < length part.bytes
  pub refused : IsRefusedAt mode part at

-- the refusal of a file at this offset where nothing may be cut off
abbrev pub uncut_text : FileId → ℕ → List ℕ
uncut_text id at = place_text id at ++ codes "no batch can be read there, and nothing may be cut off"

-- the refusal of a file for a batch that can be read at this offset, behind one that can't be
abbrev pub followed_text : FileId → ℕ → ℕ → List ℕ
followed_text id at sound = place_text id at ++ (codes "no batch can be read there, but one stands behind it, at offset " ++ decimal sound)

-- the refusal of a file for a batch at this offset that is signed for another one
abbrev pub elsewhere_text : FileId → ℕ → ℕ → ℕ → List ℕ
elsewhere_text id at offset seq =
    place_text id at ++ (codes "no batch can be read there, but at offset " ++ (decimal offset ++ (codes " one stands that is signed for file " ++ decimal seq)))

-- the refusal of a part that is damaged at this byte: its text begins with the file and the offset, and names the first sound batch behind it; or else the first one at or behind it that is signed for another file
abbrev pub IsDamageText : Part → ℕ → Error → Type 0
IsDamageText part at e =
    ((sound : ℕ) × IsNextSound part at (Some sound) × IsCorruption (followed_text part.id at sound) e)
    ⊎ (IsNextSound part at None × (found : ℕ × ℕ) × IsNextElsewhere part at (Some found) × IsCorruption (elsewhere_text part.id at found.0 found.1) e)

-- what a mode says of a byte that it refuses
abbrev pub IsRefusalText : RecoveryMode → Part → ℕ → Error → Type 0
IsRefusalText AbsoluteConsistency part at e = IsCorruption (uncut_text part.id at) e
IsRefusalText TolerateTornTail part at e = IsDamageText part at e
IsRefusalText TolerateTailCorruption part at e = ⊥

-- a mode refuses the tail of a part that begins its file, and says where
pub record IsTailRefusedAs (mode : RecoveryMode) (part : Part) (e : Error) : Type 0 where
  pub tail : IsTailRefused mode part
  pub text : IsRefusalText mode part tail.at e

-- the other version
abbrev pub other_version : Version → Version
other_version V1 = V2
other_version V2 = V1

-- the same bytes as those of a file of the other version
abbrev pub in_other : Part → Part
in_other part = record part { version = other_version part.version }

-- at the first byte of a part a batch stands that can be read in the other version
abbrev pub BeginsInOther : Part → Type 0
BeginsInOther part = (items : List Item) × (next : ℕ) × IsBatchAt (in_other part) 0 items next

-- how the files of raft-engine begin
abbrev pub engine_header : List ℕ
engine_header = codes "RAFT-LOG-FILE-HEADER"

-- a part begins so
abbrev pub IsOfEngine : Part → Type 0
IsOfEngine part = (rest : List ℕ) × (part.bytes ≡ engine_header ++ rest)

-- a part is of the other version, or of raft-engine: at its first byte no batch can be read, but in the other version one can, or raft-engine's header stands there
pub record IsOfOther (part : Part) : Type 0 where
  pub unreadable : IsUnreadableAt part 0
  pub begins : BeginsInOther part ⊎ IsOfEngine part

-- the refusal of a file that is of the other version, or of raft-engine: its text begins with the file and the offset
abbrev pub IsOtherText : Part → Error → Type 0
IsOtherText part e =
    (BeginsInOther part × IsCorruption (place_text part.id 0 ++ codes "a batch of the other version stands there") e)
    ⊎ (IsOfEngine part × IsArgumentRefusal (place_text part.id 0 ++ codes "the file is one of raft-engine, which begins with a header") e)

-- a part that begins its file is of the other version, or of raft-engine, and the refusal says so
pub record IsOtherAs (part : Part) (e : Error) : Type 0 where
  pub other : IsOfOther part
  pub text : IsOtherText part e

-- a part ends with its batches; or a reader stops before its end, from where on it is to be cut
abbrev pub IsTornFrom : Part → Option ℕ → Type 0
IsTornFrom part None = StopsAt part (length part.bytes)
IsTornFrom part (Some at) = StopsAt part at × (at < length part.bytes)

-- the last file of a queue, if there is one, ends with its batches, and nothing is asked
pub record IsUntorn (queue : LogQueue) (version : Version) (asks later : List Ask) (files left : List NumberedBytes) : Type 0 where
  pub asked : later ≡ asks
  pub same : left ≡ files
  pub ends : (closed : List NumberedBytes) (last : NumberedBytes) → files ≡ closed ++ last ∷ [] → StopsAt (whole_file queue version last) (length last.1)

-- the last file of a queue has a tail that can't be read, which is cut off
pub record IsCut (queue : LogQueue) (version : Version) (asks later : List Ask) (files left : List NumberedBytes) : Type 0 where
  pub at : ℕ
  pub closed : List NumberedBytes
  pub last : NumberedBytes
  pub split : files ≡ closed ++ last ∷ []
  pub torn : IsTornFrom (whole_file queue version last) (Some at)
  pub asked : later ≡ ask queue (Cut at) ∷ asks
  pub cut : left ≡ cut_last at files

-- either
abbrev pub IsTailCut : LogQueue → Version → List Ask → List Ask → List NumberedBytes → List NumberedBytes → Type 0
IsTailCut queue version asks later files left = IsUntorn queue version asks later files left ⊎ IsCut queue version asks later files left

-- a mode refuses the tail of the last file of a queue
pub record IsLastRefused (mode : RecoveryMode) (queue : LogQueue) (version : Version) (files : List NumberedBytes) : Type 0 where
  pub closed : List NumberedBytes
  pub last : NumberedBytes
  pub split : files ≡ closed ++ last ∷ []
  pub tail : IsTailRefused mode (whole_file queue version last)

-- so it does, and says where
pub record IsLastRefusedAs (mode : RecoveryMode) (queue : LogQueue) (version : Version) (files : List NumberedBytes) (e : Error) : Type 0 where
  pub closed : List NumberedBytes
  pub last : NumberedBytes
  pub split : files ≡ closed ++ last ∷ []
  pub tail : IsTailRefusedAs mode (whole_file queue version last) e

-- the last file of a queue is of the other version, or of raft-engine
pub record IsLastOfOther (queue : LogQueue) (version : Version) (files : List NumberedBytes) : Type 0 where
  pub closed : List NumberedBytes
  pub last : NumberedBytes
  pub split : files ≡ closed ++ last ∷ []
  pub other : IsOfOther (whole_file queue version last)

-- the last file of a queue is of the other version, or of raft-engine, and the refusal says so
pub record IsLastOtherAs (queue : LogQueue) (version : Version) (files : List NumberedBytes) (e : Error) : Type 0 where
  pub closed : List NumberedBytes
  pub last : NumberedBytes
  pub split : files ≡ closed ++ last ∷ []
  pub other : IsOtherAs (whole_file queue version last) e

-- up to a number these are consecutive, and this next one stands behind it
pub record StandTogether (ns : List ℕ) (last next : ℕ) : Type 0 where
  pub before : List ℕ
  pub behind : List ℕ
  pub split : ns ≡ before ++ last ∷ next ∷ behind
  pub consecutive : AreConsecutive (before ++ last ∷ [])

-- the text about a file that is missing between two
abbrev pub missing_text : LogQueue → ℕ → ℕ → List ℕ
missing_text queue last next =
    queue_text queue ++ (codes " file " ++ (decimal (suc last) ++ (codes ": it is missing, files " ++ (decimal last ++ (codes " and " ++ (decimal next ++ codes " are there"))))))

-- the number of a file doesn't follow that of the file before it: it isn't above that one, or it is by more than one, and the refusal names the first file that is missing
abbrev pub IsApartAs : LogQueue → ℕ → ℕ → Error → Type 0
IsApartAs queue last next e =
    ((next ≤ last) × IsCorruption (codes "a file number isn't above the one before it") e) ⊎ ((suc last < next) × IsCorruption (missing_text queue last next) e)

-- the numbers of files are consecutive up to one that the next doesn't follow, and the refusal says so
pub record AreApartAs (queue : LogQueue) (files : List NumberedBytes) (e : Error) : Type 0 where
  pub last : ℕ
  pub next : ℕ
  pub together : StandTogether (numbers files) last next
  pub why : IsApartAs queue last next e

-- the found files of a queue can be made ready in a mode: their numbers are consecutive, and the last one neither has a tail that the mode refuses nor is of the other version or of raft-engine; if it is a rewrite file, its entry blocks are sound
pub record AreAccepted (mode : RecoveryMode) (queue : LogQueue) (version : Version) (files : List NumberedBytes) : Type 0 where
  pub consecutive : AreConsecutive (numbers files)
  pub tolerated : ¬ (IsLastRefused mode queue version files)
  pub of_version : ¬ (IsLastOfOther queue version files)
  pub sound : IsLastSound queue version files

-- why they can't be
abbrev pub IsFoundFault : RecoveryMode → LogQueue → Version → List NumberedBytes → Error → Type 0
IsFoundFault mode queue version files e =
    AreApartAs queue files e ⊎ IsLastRefusedAs mode queue version files e ⊎ IsLastOtherAs queue version files e ⊎ IsLastUnsoundAs queue version files e

-- a queue has no file, and its first one is begun
pub record IsFirstBegun (queue : LogQueue) (asks later : List Ask) (files left : List NumberedBytes) : Type 0 where
  pub none : files ≡ []
  pub asked : later ≡ ask queue (Begin 1) ∷ asks
  pub first : left ≡ (1, []) ∷ []

-- The found files of a queue, whose numbers are consecutive, and of which the last isn't of the other version or of raft-engine, and has sound entry blocks if it
-- is a rewrite file, are ready for what is put next: its first file is begun, if there is none, and what can't be read of its last file is cut off.
pub record IsReady (queue : LogQueue) (version : Version) (asks later : List Ask) (files left : List NumberedBytes) : Type 0 where
  pub consecutive : AreConsecutive (numbers files)
  pub of_version : ¬ (IsLastOfOther queue version files)
  pub sound : IsLastSound queue version files
  pub ready : IsFirstBegun queue asks later files left ⊎ IsTailCut queue version asks later files left

-- the found files of a queue are ready, and are these then, once this is asked, which is missing
abbrev pub AreReadyBy : LogQueue → Version → List Ask → List NumberedBytes → List NumberedBytes → Type 0
AreReadyBy queue version missing files left = (asks : List Ask) → IsReady queue version asks (missing ++ asks) files left
