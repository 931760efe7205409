-- Parts of files: their bytes, and what written batches that come after them make of them.
use Rattle.std.specs.Prelude.{◌≡◌, ◌≢◌, ℕ, ◌+◌, ◌<◌, ◌^◌, List, [], ◌∷◌, ◌++◌, length, map, Vec}
use Rattle.std.specs.Global.{Global}
use Rattle.raft_base.specs.Signature.{signature_in}
use Rattle.raft_base.specs.declared.compression_type.CompressionType.TheVariants as compressions
use Rattle.raft_base.specs.declared.pipe_log.FileBlockHandle.{FileBlockHandle}
use Rattle.raft_records.specs.FilePart.{Part}
use Rattle.raft_records.specs.Item.{Item, AreInBytes}
use Rattle.raft_records.specs.ItemBatch.{placed_item}
use Rattle.raft_records.specs.LogBatch.{IsBatchOf, encoded_length, entry_place, log_batch_bytes}
use Rattle.raft_records.specs.Range.{AreInRange}
use Rattle.raft_history.specs.Batches.{Event}
use Rattle.raft_replay.specs.Segments.{HoldsFrom}

-- how many bytes parts have together
abbrev pub bytes_of_parts : List Part → ℕ
bytes_of_parts [] = 0
bytes_of_parts (part ∷ parts) = length part.bytes + bytes_of_parts parts

-- how many bytes the parts of segments have together
abbrev pub bytes_of_segments : List (Vec Part Global) → ℕ
bytes_of_segments [] = 0
bytes_of_segments (segment ∷ segments) = bytes_of_parts segment.items + bytes_of_segments segments

-- the part with these bytes after its own
abbrev pub with_bytes : Part → List ℕ → Part
with_bytes part more = record part { bytes = part.bytes ++ more }

-- a batch of these items and entry bytes, as a write to this place of a part's file leaves it
abbrev pub written_event : Part → FileBlockHandle → List Item → List ℕ → Event
written_event part handle items entry_bytes = record { items = map (placed_item (entry_place handle entry_bytes) compressions.None) items; file = part.id }

-- where the bytes of a written batch that has items come after those of a part of its file, at the place that they were written to, the part then holds that batch after those that it held
abbrev pub WrittenBatchIsHeld : Type 0
WrittenBatchIsHeld =
    (part : Part) (h : List Event) (handle : FileBlockHandle) (items : List Item) (entry_bytes : List ℕ)
    → IsBatchOf items entry_bytes → AreInRange items → AreInBytes items → items ≢ [] → encoded_length items entry_bytes < 2 ^ 56
    → handle.id ≡ part.id → handle.offset ≡ part.offset + length part.bytes → HoldsFrom part 0 h
    → HoldsFrom (with_bytes part (log_batch_bytes (signature_in part.version part.id.seq) items entry_bytes)) 0 (h ++ written_event part handle items entry_bytes ∷ [])
