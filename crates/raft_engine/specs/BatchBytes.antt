-- The bytes of a batch, the places of its items, and what puts it.
use Rattle.std.specs.Prelude.{ℕ, List, [], ◌∷◌, map}
use Rattle.raft_base.specs.Signature.{signature_of}
use Rattle.raft_base.specs.declared.compression_type.CompressionType.TheVariants as compressions
use Rattle.raft_base.specs.declared.pipe_log.FileBlockHandle.{FileBlockHandle}
use Rattle.raft_base.specs.declared.pipe_log.FileId.{FileId}
use Rattle.raft_base.specs.declared.pipe_log.LogFileContext.{LogFileContext}
use Rattle.raft_records.specs.Item.{Item}
use Rattle.raft_records.specs.ItemBatch.{placed_item}
use Rattle.raft_records.specs.LogBatch.{Batch, encoded_length, entry_place, log_batch_bytes}
use Rattle.raft_history.specs.Batches.{Event}
use Rattle.raft_files.specs.Asks.{Ask, Put, ask}

-- the bytes of a batch, signed for a file
abbrev pub bytes_for : LogFileContext → Batch → List ℕ
bytes_for file batch = log_batch_bytes (signature_of file) batch.items batch.entry_bytes

-- where a batch stands at an offset of a file
abbrev pub place_at : FileId → ℕ → Batch → FileBlockHandle
place_at file offset batch = record { id = file; offset = offset; len = encoded_length batch.items batch.entry_bytes }

-- its items with their places there
abbrev pub placed_at : FileId → ℕ → Batch → List Item
placed_at file offset batch = map (placed_item (entry_place (place_at file offset batch) batch.entry_bytes) compressions.None) batch.items

-- the batch there
abbrev pub event_at : FileId → ℕ → Batch → Event
event_at file offset batch = record { items = placed_at file offset batch; file = file }

-- a batch of these items is put behind the bytes of a file, if there are any
abbrev pub asks_of_items : LogFileContext → Batch → List Item → List Ask
asks_of_items file batch [] = []
asks_of_items file batch (item ∷ items) = ask file.id.queue (Put (bytes_for file batch)) ∷ []

-- a batch is put there, if it has items
abbrev pub put_asks : LogFileContext → Batch → List Ask
put_asks file batch = asks_of_items file batch batch.items
