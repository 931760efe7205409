-- Items as they are decoded in a file.
use Rattle.std.specs.Prelude.{◌≡◌, List, Option, Some, None}
use Rattle.std.specs.List.{AllByRecursion}
use Rattle.raft_base.specs.declared.pipe_log.FileBlockHandle.{FileBlockHandle}
use Rattle.raft_base.specs.declared.pipe_log.FileId.{FileId}
use Rattle.raft_base.specs.declared.entry_index.EntryIndex.{EntryIndex}
use Rattle.raft_base.specs.Runs.{IsConsecutive}
use Rattle.raft_records.specs.Item.{Item, Content, entries, command, pair}
use Rattle.raft_records.specs.Spelling.{IsWritablePair}

-- a place in this file
abbrev pub IsPlaceInFile : FileId → Option FileBlockHandle → Type 0
IsPlaceInFile file None = ⊥
IsPlaceInFile file (Some place) = place.id ≡ file

-- entries are consecutive and have their places in the file; a change of a key is of this file, and a Put has a value
abbrev pub IsDecodedIn : FileId → Content → Type 0
IsDecodedIn file (entries es) =
    IsConsecutive es × AllByRecursion (λ (e : EntryIndex). IsPlaceInFile file e.entries) es
IsDecodedIn file (command c) = Unit {0}
IsDecodedIn file (pair p) = IsWritablePair p × (p.file_id ≡ Some file)

-- all items are so
abbrev pub AreDecodedIn : FileId → List Item → Type 0
AreDecodedIn file items = AllByRecursion (λ (item : Item). IsDecodedIn file item.content) items
