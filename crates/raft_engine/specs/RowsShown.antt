-- What a machine knows of the atomic groups of its batches, as a summary of them.
use Rattle.std.specs.Prelude.{◌≡◌, ℕ, List, Option, None}
use Rattle.std.specs.List.{AllByRecursion}
use Rattle.std.specs.Option.{option_map}
use Rattle.raft_base.specs.declared.pipe_log.FileBlockHandle.{FileBlockHandle}
use Rattle.raft_records.specs.Group.{marker_byte}
use Rattle.raft_records.specs.ReadBatch.{content_shown}
use Rattle.raft_records.specs.declared.read_batch.ReadItem.{ReadItem}
use Rattle.raft_records.specs.declared.atomic_group.AtomicGroupStatus.{AtomicGroupStatus}
use Rattle.raft_history.specs.Batches.{Event, GroupMarker, marker_in}
use Rattle.raft_engine_laws.specs.RowSummaries.{Marked, Summary}
use Rattle.raft_engine.specs.declared.group_rows.GroupRows.{GroupRows}
use Rattle.raft_engine.specs.declared.group_rows.MarkedBatch.{MarkedBatch}

-- a group marker, by its group and its status
abbrev pub marker_shown : Option (ℕ × AtomicGroupStatus) → Option GroupMarker
marker_shown marker = option_map (λ m. record { group = m.0; status = m.1 }) marker

-- a batch by its group marker and its file
abbrev pub marked_shown : MarkedBatch → Marked
marked_shown batch = record { marker = marker_shown batch.marker; seq = batch.seq }

-- what is known of batches, as a summary of them
abbrev pub rows_shown : GroupRows → Summary
rows_shown rows = record { first = option_map marked_shown rows.first; left = rows.left; inner = rows.rest_stands }

-- this is the group marker and the file of a batch
pub record IsMarkedAs (e : Event) (batch : MarkedBatch) : Type 0 where
  pub marker : marker_in e.file.queue e.items ≡ marker_shown batch.marker
  pub seq : e.file.seq ≡ batch.seq

-- what is shown of an item as it was read is no group marker
abbrev pub IsUnmarked : ReadItem → Type 0
IsUnmarked item = (place : FileBlockHandle) (spans : List (ℕ × ℕ)) → marker_byte (content_shown place item.content spans) ≡ None

-- so of all items
abbrev pub AreUnmarked : List ReadItem → Type 0
AreUnmarked items = AllByRecursion IsUnmarked items
