-- New items before they are written: whether the tables would accept them, once they have their places.
use Rattle.std.specs.Prelude.{◌≡◌, List, Some, map}
use Rattle.std.specs.List.{AllByRecursion}
use Rattle.raft_base.specs.declared.compression_type.CompressionType.{CompressionType}
use Rattle.raft_base.specs.declared.errors.Error.{Error}
use Rattle.raft_base.specs.declared.errors.Error.TheVariants as errors
use Rattle.raft_base.specs.declared.pipe_log.FileBlockHandle.{FileBlockHandle}
use Rattle.raft_base.specs.declared.pipe_log.LogQueue.TheVariants.{Append}
use Rattle.raft_records.specs.Item.{Item}
use Rattle.raft_records.specs.ItemBatch.{placed_item}
use Rattle.raft_history.specs.RegionSteps.{Tables}
use Rattle.raft_accessor.specs.Writes.{Appending, after_items, IsFor}

-- the tables accept new items in order: each is as asked, and none is refused
pub record AreAccepted (tables : Tables) (items : List Item) : Type 0 where
  pub asked : AllByRecursion (λ (item : Item). IsFor Appending item.content) items
  pub after : Tables
  pub taken : after_items Appending tables items ≡ Some after

-- the tables accept new items wherever in the append queue they get their places and files
abbrev pub AreAcceptedOncePlaced : Tables → List Item → Type 0
AreAcceptedOncePlaced tables items =
    (place : FileBlockHandle) (compression : CompressionType) → place.id.queue ≡ Append → AreAccepted tables (map (placed_item place compression) items)

-- the tables don't accept new items, wherever in the append queue they get their places and files
abbrev pub AreRefusedOncePlaced : Tables → List Item → Type 0
AreRefusedOncePlaced tables items =
    (place : FileBlockHandle) (compression : CompressionType) → place.id.queue ≡ Append → AreAccepted tables (map (placed_item place compression) items) → ⊥

-- why a test of new items fails: the tables don't accept them, or there is no memory for the test
abbrev pub IsAppendCheckFault : Tables → List Item → Error → Type 0
IsAppendCheckFault tables items (errors.Corruption text) = AreRefusedOncePlaced tables items
IsAppendCheckFault tables items errors.Memory = Unit {0}
IsAppendCheckFault tables items _ = ⊥
