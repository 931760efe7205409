-- Entries of the last append file, which can be read once it was opened, or are named.
use Rattle.std.specs.Prelude.{◌≡◌, ◌⊎◌, ℕ, ◌+◌, List, [], ◌∷◌, ◌++◌, Contains, IfSome}
use Rattle.std.specs.List.{AllByRecursion}
use Rattle.raft_base.specs.declared.entry_index.EntryIndex.{EntryIndex}
use Rattle.raft_base.specs.declared.pipe_log.FileBlockHandle.{FileBlockHandle}
use Rattle.raft_base.specs.declared.pipe_log.LogQueue.TheVariants.{Append}
use Rattle.raft_base.specs.declared.pipe_log.Version.{Version}
use Rattle.raft_records.specs.EntryBlock.{HasEntryBlock}
use Rattle.raft_records.specs.FilePart.{Part}
use Rattle.raft_files.specs.Asks.{NumberedBytes}
use Rattle.raft_recover.specs.Files.{whole_file}
use Rattle.raft_engine.specs.DamagedBatches.{AreDamagedTold, offsets}
use Rattle.raft_engine.specs.KeptEngine.{KeptEngine, table_in}
use Rattle.raft_engine.specs.Opened.{IsOpened}
use Rattle.raft_engine.specs.declared.recovered.DamagedBatch.{DamagedBatch}

-- if the place of an entry is in the file of this part, a sound entry block stands there, or these batches name the one that it is in
abbrev pub IsSoundOrNamed : Part → List DamagedBatch → EntryIndex → Type 0
IsSoundOrNamed part named e =
    IfSome e.entries (λ (place : FileBlockHandle). place.id ≡ part.id
    → ((entries : List ℕ) × HasEntryBlock part place entries) ⊎ ((at : ℕ) × (place.offset ≡ at + 16) × Contains (offsets named) at))

-- so it is of each entry that an engine has which was opened over found files, of which these are the damaged batches of the last append file
abbrev pub EntriesAreSoundOrNamed : Type 0
EntriesAreSoundOrNamed =
    (version : Version) (append rewrite : List NumberedBytes) (engine : KeptEngine) (named : List DamagedBatch) → IsOpened version append rewrite engine → AreDamagedTold version append named
    → (closed : List NumberedBytes) (last : NumberedBytes) → append ≡ closed ++ last ∷ []
    → (region : ℕ) → AllByRecursion (IsSoundOrNamed (whole_file Append version last) named) (table_in engine region).entries
