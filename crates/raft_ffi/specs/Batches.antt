-- What the calls of a batch make of it, and when tables accept it.
use Rattle.std.specs.Prelude.{ℕ, Bool, List, ◌++◌, map}
use Rattle.raft_base.specs.declared.compression_type.CompressionType.TheVariants as compressions
use Rattle.raft_base.specs.declared.pipe_log.FileBlockHandle.{FileBlockHandle}
use Rattle.raft_accessor.specs.Accessor.{Accessor}
use Rattle.raft_accessor.specs.AppendChecks.{AreAcceptedOncePlaced}
use Rattle.raft_records.specs.Item.{command_item}
use Rattle.raft_records.specs.ItemBatch.{placed_item}
use Rattle.raft_records.specs.LogBatch.{Batch, Stage, empty_batch, entry_place}
use Rattle.raft_records.specs.declared.command.Command.TheVariants.{Clean}
use Rattle.raft_ffi.specs.Calls.{queue_of}

-- a batch that has come to this stage
abbrev pub at_stage : Stage → Batch → Batch
at_stage stage b = record b { stage = stage }

-- the place that begins at an offset of a file
abbrev pub place_at : Bool → ℕ → ℕ → ℕ → FileBlockHandle
place_at is_rewrite seq offset len = record { id = record { queue = queue_of is_rewrite; seq = seq }; offset = offset; len = len }

-- a batch that was written to this place: its entries and its key values have their places and files
abbrev pub written_to : FileBlockHandle → Batch → Batch
written_to place b = record b { items = map (placed_item (entry_place place b.entry_bytes) compressions.None) b.items }

-- a batch and a `Clean` for each of some regions more
abbrev pub with_cleans : List ℕ → Batch → Batch
with_cleans regions b = record b { items = b.items ++ map (λ id. command_item id Clean) regions }

-- an open batch with a `Clean` for each of some regions
abbrev pub cleans_of : List ℕ → Batch
cleans_of regions = with_cleans regions empty_batch

-- the tables accept the items of the batch, once these have their places
unfoldable pub AcceptsOncePlaced : Accessor → Batch → Type 0
AcceptsOncePlaced a b = AreAcceptedOncePlaced a.tables b.items
