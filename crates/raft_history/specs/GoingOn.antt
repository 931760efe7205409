-- Histories that go on: what one written batch more makes of a history of the append queue that was read.
use Rattle.std.specs.Prelude.{◌≡◌, ℕ, ◌≤◌, List, [], ◌∷◌, ◌++◌, map, Some}
use Rattle.raft_base.specs.declared.compression_type.CompressionType.{CompressionType}
use Rattle.raft_base.specs.declared.pipe_log.FileBlockHandle.{FileBlockHandle}
use Rattle.raft_base.specs.declared.pipe_log.LogQueue.TheVariants.{Append}
use Rattle.raft_records.specs.Item.{Item}
use Rattle.raft_records.specs.ItemBatch.{placed_item, FitTogether}
use Rattle.raft_history.specs.Batches.{Event}
use Rattle.raft_history.specs.Histories.{IsSoundIn, IsOneReading, AreInFile, last_from}
use Rattle.raft_history.specs.RegionSteps.{Tables, steps_of_items, tables_after, cleaned_by_steps}

-- a batch of the append queue that can be read after a history that gave these tables: its file is not below the last one, its items may stand in it, and its steps leave these later tables
pub record IsReadNext (h : List Event) (tables : Tables) (e : Event) (later : Tables) : Type 0 where
  pub queue : e.file.queue ≡ Append
  pub follows : last_from 0 h ≤ e.file.seq
  pub in_file : AreInFile e.file e.items
  pub accepted : tables_after Append tables (steps_of_items e.items) ≡ Some later

-- a sound history and a batch that can be read next are a sound history
abbrev pub SoundHistoryGoesOn : Type 0
SoundHistoryGoesOn =
    (h : List Event) (e : Event) (tables later : Tables) (cleaned : List ℕ)
    → IsSoundIn Append h → IsOneReading Append h tables cleaned → IsReadNext h tables e later → IsSoundIn Append (h ++ e ∷ [])

-- the later tables are those of one reading of the longer history, which cleans what the batch cleans besides
abbrev pub ReadingGoesOn : Type 0
ReadingGoesOn =
    (h : List Event) (e : Event) (tables later : Tables) (cleaned : List ℕ)
    → IsSoundIn Append h → IsOneReading Append h tables cleaned → IsReadNext h tables e later
    → IsOneReading Append (h ++ e ∷ []) later (cleaned ++ cleaned_by_steps Append (steps_of_items e.items))

-- items that fit together, once a write has placed them in a file, may stand in it
abbrev pub PlacedItemsAreInFile : Type 0
PlacedItemsAreInFile =
    (place : FileBlockHandle) (compression : CompressionType) (s : ℕ) (items : List Item)
    → FitTogether s items → AreInFile place.id (map (placed_item place compression) items)
