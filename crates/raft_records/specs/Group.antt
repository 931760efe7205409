-- Group markers: items that say to which atomic group a batch belongs.
use Rattle.std.specs.Prelude.{◌≡◌, ◌≢◌, ℕ, ◌<◌, ◌==◌, Bool, List, [], ◌∷◌, ◌++◌, codes, Option, Some, None, if◌then◌else◌}
use Rattle.std.specs.Cmp.Lexicographic.{slice_cmp}
use Rattle.std.specs.Fmt.{decimal}
use Rattle.std.specs.Option.{option_map, option_and_then, option_or}
use Rattle.std.specs.Ordering.{nat_cmp, eq_by_cmp}
use Rattle.raft_base.specs.declared.errors.Error.{Error}
use Rattle.raft_base.specs.declared.errors.Error.TheVariants as errors
use Rattle.raft_base.specs.declared.message.MessageError.TheVariants as messages
use Rattle.raft_base.specs.Corruption.{IsCorruption}
use Rattle.raft_records.specs.declared.atomic_group.AtomicGroupStatus.{AtomicGroupStatus}
use Rattle.raft_records.specs.declared.atomic_group.AtomicGroupStatus.TheVariants.{Begin, Middle, End}
use Rattle.raft_records.specs.declared.key_value.OpType.{OpType}
use Rattle.raft_records.specs.declared.key_value.OpType.TheVariants.{Put}
use Rattle.raft_records.specs.Faults.{IsMemory}
use Rattle.raft_records.specs.Item.{Item, Content, pair, pair_item}

-- the key of every group marker: two underscores and the byte 1
abbrev pub reserved_key : List ℕ
reserved_key = 0x5f ∷ 0x5f ∷ 1 ∷ []

-- whether a key is that of the group markers
unfoldable pub is_reserved : List ℕ → Bool
is_reserved key = eq_by_cmp (slice_cmp nat_cmp) key reserved_key

-- the byte that stands for a status
abbrev pub status_byte : AtomicGroupStatus → ℕ
status_byte Begin = 0
status_byte Middle = 1
status_byte End = 2

-- the group marker of a group: a Put of the reserved key, the group's id in the place of a region's
abbrev pub group_marker_item : ℕ → AtomicGroupStatus → Item
group_marker_item id status = pair_item id Put reserved_key (Some (status_byte status ∷ []))

-- the byte of a group marker: a Put of the reserved key whose value is one byte; nothing of any other change
abbrev pub marker_byte_in : OpType → List ℕ → Option (List ℕ) → Option ℕ
marker_byte_in Put key (Some (byte ∷ [])) = if is_reserved key then Some byte else None
marker_byte_in _ key value = None

-- the byte of a content that is a group marker; nothing of any other content
abbrev pub marker_byte : Content → Option ℕ
marker_byte (pair p) = marker_byte_in p.op_type p.key p.value
marker_byte _ = None

-- what an item says of groups: the group and its status where it is a group marker, else nothing
abbrev pub IsGroupMarkerRead : Item → Option (ℕ × AtomicGroupStatus) → Type 0
IsGroupMarkerRead item None = marker_byte item.content ≡ None
IsGroupMarkerRead item (Some read) =
    (read.0 ≡ item.raft_group_id) × (marker_byte item.content ≡ Some (status_byte read.1))

-- the status that a byte stands for, if any
abbrev pub status_of : ℕ → Option AtomicGroupStatus
status_of byte = if byte == 0 then Some Begin else if byte == 1 then Some Middle else if byte == 2 then Some End else None

-- the group and the status that a group marker says; nothing of an item that is none, or has the byte of no status
abbrev pub marker_of : Item → Option (ℕ × AtomicGroupStatus)
marker_of item =
    option_map (λ status. (item.raft_group_id, status)) (option_and_then status_of (marker_byte item.content))

-- the first group marker among items whose byte is a status; it says to which group their batch belongs
unfoldable pub first_marker : List Item → Option (ℕ × AtomicGroupStatus)
first_marker [] = None
first_marker (item ∷ items) = option_or (marker_of item) (first_marker items)

-- a byte that stands for no status
abbrev pub IsStatusFault : ℕ → Error → Type 0
IsStatusFault byte e = (2 < byte) × IsCorruption (codes "Unrecognized atomic group status: " ++ decimal byte) e

-- a group marker whose byte stands for no status
pub record IsGroupMarkerFault (item : Item) (e : Error) : Type 0 where
  pub byte : ℕ
  pub marker : marker_byte item.content ≡ Some byte
  pub fault : IsStatusFault byte e

-- a builder: its group's id, and the status of the last group marker that was added, if any
pub record AtomicGroupBuilder : Type 0 where
  pub id : ℕ
  pub state : Option AtomicGroupStatus

-- a group that was begun and not ended
abbrev pub IsRunning : Option AtomicGroupStatus → Type 0
IsRunning (Some Begin) = Unit {0}
IsRunning (Some Middle) = Unit {0}
IsRunning _ = ⊥

-- why a value isn't put under a key: it is that of the group markers, or there is no memory
abbrev pub IsKeyRefusal : List ℕ → Error → Type 0
IsKeyRefusal key (errors.InvalidArgument text) = key ≡ reserved_key
IsKeyRefusal key e = IsMemory e

-- why a message isn't put under a key: the same, or under another key it refuses with one of these codes
abbrev pub IsMessageRefusal : (ℕ → Type 0) → List ℕ → Error → Type 0
IsMessageRefusal refuses key (errors.Message (messages.Refused code)) = (key ≢ reserved_key) × refuses code
IsMessageRefusal refuses key e = IsKeyRefusal key e
