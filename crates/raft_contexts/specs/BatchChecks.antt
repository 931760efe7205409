-- The group marker that decides for a batch.
use Rattle.std.specs.Prelude.{◌≡◌, ℕ, List, Option, None}
use Rattle.std.specs.List.{AllByRecursion}
use Rattle.raft_base.specs.declared.pipe_log.LogQueue.{LogQueue}
use Rattle.raft_base.specs.declared.pipe_log.LogQueue.TheVariants.{Append, Rewrite}
use Rattle.raft_records.specs.Group.{first_marker, marker_byte}
use Rattle.raft_records.specs.Item.{Item}
use Rattle.raft_records.specs.declared.atomic_group.AtomicGroupStatus.{AtomicGroupStatus}

-- the first one in the rewrite queue; the append queue ignores group markers
abbrev pub marker_found : LogQueue → List Item → Option (ℕ × AtomicGroupStatus)
marker_found Append items = None
marker_found Rewrite items = first_marker items

-- no item is a group marker
abbrev pub HaveNoMarker : List Item → Type 0
HaveNoMarker items = AllByRecursion (λ (item : Item). marker_byte item.content ≡ None) items
