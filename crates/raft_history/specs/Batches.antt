-- Batches that were written to files, and the group markers in them.
use Rattle.std.specs.Prelude.{ℕ, List, map, Option, Some, None}
use Rattle.std.specs.Option.{option_map}
use Rattle.raft_base.specs.declared.pipe_log.FileId.{FileId}
use Rattle.raft_base.specs.declared.pipe_log.LogQueue.{LogQueue}
use Rattle.raft_base.specs.declared.pipe_log.LogQueue.TheVariants.{Append, Rewrite}
use Rattle.raft_records.specs.declared.atomic_group.AtomicGroupStatus.{AtomicGroupStatus}
use Rattle.raft_records.specs.Group.{first_marker}
use Rattle.raft_records.specs.Item.{Item}
use Rattle.raft_history.specs.RegionSteps.{RegionStep, steps_of_items}

-- a batch of items that was written to a file
pub record Event : Type 0 where
  pub items : List Item
  pub file : FileId

-- ---- group markers

-- the group and the status of a group marker
pub record GroupMarker : Type 0 where
  pub group : ℕ
  pub status : AtomicGroupStatus

-- the group marker of a batch: its first one with a status decides; the append queue ignores group markers
abbrev pub marker_in : LogQueue → List Item → Option GroupMarker
marker_in Append items = None
marker_in Rewrite items = option_map (λ m. record { group = m.0; status = m.1 }) (first_marker items)

-- ---- what is read of a batch

-- what is read of a batch: its steps, its group marker if it has one, and the number of its file
pub record BatchSteps : Type 0 where
  pub steps : List RegionStep
  pub marker : Option GroupMarker
  pub seq : ℕ

-- a batch with a group marker
abbrev pub batch_with_marker : List RegionStep → ℕ → AtomicGroupStatus → ℕ → BatchSteps
batch_with_marker steps group status seq = record { steps = steps; marker = Some (record { group = group; status = status }); seq = seq }

-- a batch by its steps, its group marker and the number of its file
abbrev pub batch_of : Event → BatchSteps
batch_of e = record { steps = steps_of_items e.items; marker = marker_in e.file.queue e.items; seq = e.file.seq }

-- what is read of each batch
abbrev pub batches : List Event → List BatchSteps
batches h = map batch_of h
