-- The lines of JSON of a dump: what stands in batches, by its data.
use Rattle.std.specs.Prelude.{◌≡◌, ◌⊎◌, ℕ, ◌+◌, ◌-◌, if◌then◌else◌, List, [], ◌∷◌, ◌++◌, length, codes, option_map, unwrap_or, Option, Some, None}
use Rattle.std.specs.Bool.{MatchBool}
use Rattle.std.specs.List.{slice_get}
use Rattle.hex.specs.Hex.{encode_lower}
use Rattle.raft_base.specs.declared.entry_index.EntryIndex.{EntryIndex}
use Rattle.raft_base.specs.declared.errors.Error.{Error}
use Rattle.raft_base.specs.declared.pipe_log.FileBlockHandle.{FileBlockHandle}
use Rattle.raft_listing.specs.Dumped.{HasBytes, MarksGroup, has_index, is_selected}
use Rattle.raft_listing.specs.LossWords.{loss_words}
use Rattle.raft_listing.specs.Reasons.{reason_text}
use Rattle.raft_listing.specs.SoundParts.{CanBeRead, IsLossOf}
use Rattle.raft_listing.specs.Walks.{Met, batch, damage}
use Rattle.raft_listing.specs.declared.blocks.BytesOfEntry.{BytesOfEntry}
use Rattle.raft_listing.specs.declared.blocks.BytesOfEntry.TheVariants.{Read, Lost}
use Rattle.raft_listing.specs.declared.damage.Loss.{Loss}
use Rattle.raft_listing.specs.declared.selection.Selection.{Selection}
use Rattle.raft_records.specs.FilePart.{Part}
use Rattle.raft_records.specs.Item.{Item, Content, Pair, entries, command, pair}
use Rattle.raft_records.specs.declared.atomic_group.AtomicGroupStatus.{AtomicGroupStatus}
use Rattle.raft_records.specs.declared.atomic_group.AtomicGroupStatus.TheVariants.{Begin, Middle, End}
use Rattle.raft_records.specs.declared.command.Command.{Command}
use Rattle.raft_records.specs.declared.command.Command.TheVariants.{Clean, Compact, Truncate}
use Rattle.raft_records.specs.declared.key_value.OpType.{OpType}
use Rattle.raft_records.specs.declared.key_value.OpType.TheVariants.{Put, Del}
use Rattle.raft_report.specs.JsonData.{MemberList, count, json_line, list_of, object_of}
use Rattle.raft_report.specs.JsonLines.{queue_data}
use Rattle.serde_json.specs.Data.{Data, null, string}

-- ---- commands

-- a command, and its index
abbrev pub command_data : Command → Data
command_data Clean = object_of ((codes "what", string (codes "clean")) ∷ [])
command_data (Compact index) = object_of ((codes "index", count index) ∷ (codes "what", string (codes "compact")) ∷ [])
command_data (Truncate index) = object_of ((codes "index", count index) ∷ (codes "what", string (codes "truncate")) ∷ [])

-- ---- changes of keys

-- how many bytes a value has, if there is one
abbrev pub bytes_member : Option (List ℕ) → MemberList
bytes_member None = []
bytes_member (Some value) = (codes "bytes", count (length value)) ∷ []

-- whether an atomic group begins, goes on or ends
abbrev pub group_member : Option AtomicGroupStatus → MemberList
group_member None = []
group_member (Some Begin) = (codes "group", string (codes "begins")) ∷ []
group_member (Some Middle) = (codes "group", string (codes "goes on")) ∷ []
group_member (Some End) = (codes "group", string (codes "ends")) ∷ []

-- a value
abbrev pub shown_member : List ℕ → MemberList
shown_member value = (codes "value", string (encode_lower value)) ∷ []

-- it, if there is one and it is asked for
abbrev pub value_member : Selection → Option (List ℕ) → MemberList
value_member s None = []
value_member s (Some value) = if s.values then shown_member value else []

-- a key
abbrev pub key_member : List ℕ → MemberList
key_member key = (codes "key", string (encode_lower key)) ∷ []

-- what is done to it
abbrev pub op_word : OpType → List ℕ
op_word Put = codes "put"
op_word Del = codes "delete"

abbrev pub op_member : OpType → List ℕ × Data
op_member op = (codes "what", string (op_word op))

-- a change of a key
abbrev pub change_data : Selection → Pair → Option AtomicGroupStatus → Data
change_data s p status =
    object_of (bytes_member p.value ++ (group_member status ++ (key_member p.key ++ (value_member s p.value ++ (op_member p.op_type ∷ [])))))

-- it is said with the place in an atomic group that it marks
abbrev pub IsChangeData : Selection → Item → Pair → Data → Type 0
IsChangeData s item p d = (status : Option AtomicGroupStatus) × MarksGroup item status × (d ≡ change_data s p status)

-- ---- entries

-- an entry with its bytes
abbrev pub read_data : ℕ → List ℕ → Data
read_data index bytes = object_of ((codes "bytes", string (encode_lower bytes)) ∷ (codes "index", count index) ∷ [])

-- one that can't be read, and why
abbrev pub lost_entry_data : ℕ → Loss → Data
lost_entry_data index loss = object_of ((codes "bytes", null) ∷ (codes "index", count index) ∷ (codes "why", string (loss_words loss)) ∷ [])

-- the bytes of an entry of this index, or why they can't be read
abbrev pub entry_data : ℕ → BytesOfEntry → Data
entry_data index (Read bytes) = read_data index bytes.now
entry_data index (Lost loss) = lost_entry_data index loss

-- what is said of an entry are its bytes; or why they can't be read
abbrev pub IsEntryData : Part → EntryIndex → Data → Type 0
IsEntryData part entry d =
    ((bytes : List ℕ) × HasBytes part entry bytes × (d ≡ read_data entry.index bytes))
    ⊎ ((loss : Loss) × ¬ (CanBeRead part entry) × IsLossOf part entry loss × (d ≡ lost_entry_data entry.index loss))

-- of those that are selected, in order
abbrev pub AreEntryData : Selection → Part → List EntryIndex → List Data → Type 0
AreEntryData s part [] ds = ds ≡ []
AreEntryData s part (e ∷ es) ds =
    MatchBool (has_index s e) ((d : Data) × (rest : List Data) × (ds ≡ d ∷ rest) × IsEntryData part e d × AreEntryData s part es rest) (AreEntryData s part es ds)

-- they are listed where that is asked for
abbrev pub IsContentsMember : Selection → Part → List EntryIndex → MemberList → Type 0
IsContentsMember s part es ms =
    MatchBool s.values ((ds : List Data) × AreEntryData s part es ds × (ms ≡ (codes "entries", list_of ds) ∷ [])) (ms ≡ [])

-- where an entry block stands, and how many bytes it has
abbrev pub block_member : Option FileBlockHandle → MemberList
block_member None = []
block_member (Some place) = (codes "block", count place.offset) ∷ []

abbrev pub length_member : Option FileBlockHandle → MemberList
length_member None = []
length_member (Some place) = (codes "length", count place.len) ∷ []

-- the first and the last index of entries
abbrev pub index_members : ℕ → ℕ → MemberList
index_members first last = (codes "first", count first) ∷ (codes "last", count last) ∷ []

-- that they are entries
abbrev pub entries_member : List ℕ × Data
entries_member = (codes "what", string (codes "entries"))

-- the index of the last of some entries, or this one without entries
abbrev pub last_index : List EntryIndex → ℕ → ℕ
last_index es first = unwrap_or (option_map (λ e. e.index) (slice_get es (length es - 1))) first

-- entries, of which this is the first, and this the index of the last, with what is listed of them
abbrev pub entries_data : EntryIndex → ℕ → MemberList → Data
entries_data first last contents =
    object_of (block_member first.entries ++ (contents ++ (index_members first.index last ++ (length_member first.entries ++ (entries_member ∷ [])))))

abbrev pub IsEntriesData : Selection → Part → List EntryIndex → Data → Type 0
IsEntriesData s part [] d = d ≡ object_of (entries_member ∷ [])
IsEntriesData s part (e ∷ es) d =
    (contents : MemberList) × IsContentsMember s part (e ∷ es) contents × (d ≡ entries_data e (last_index (e ∷ es) e.index) contents)

-- ---- items and batches

-- what an item says
abbrev pub IsContentData : Selection → Part → Item → Content → Data → Type 0
IsContentData s part item (entries es) d = IsEntriesData s part es d
IsContentData s part item (command c) d = d ≡ command_data c
IsContentData s part item (pair p) d = IsChangeData s item p d

-- an item of the batch at a byte of a part
abbrev pub item_data : Part → ℕ → ℕ → Data → Data
item_data part at region said =
    object_of ((codes "file", count part.id.seq) ∷ (codes "item", said) ∷ (codes "offset", count (part.offset + at)) ∷ (codes "queue", queue_data part.id.queue) ∷ (codes "region", count region) ∷ [])

-- its line
abbrev pub IsItemLine : Selection → Part → ℕ → Item → List ℕ → Type 0
IsItemLine s part at item text =
    (said : Data) × IsContentData s part item item.content said × (text ≡ json_line (item_data part at item.raft_group_id said))

-- its line, if it is selected
abbrev pub IsSelectedItemLine : Selection → Part → ℕ → Item → List ℕ → Type 0
IsSelectedItemLine s part at item text = MatchBool (is_selected s item) (IsItemLine s part at item text) (text ≡ [])

-- the lines of those items that are selected
abbrev pub AreItemLines : Selection → Part → ℕ → List Item → List ℕ → Type 0
AreItemLines s part at [] text = text ≡ []
AreItemLines s part at (item ∷ items) text =
    (first rest : List ℕ) × (text ≡ first ++ rest) × IsSelectedItemLine s part at item first × AreItemLines s part at items rest

-- a byte of a part at which no batch can be read, and why
abbrev pub place_data : Part → ℕ → Error → Data
place_data part at e =
    object_of ((codes "file", count part.id.seq) ∷ (codes "offset", count (part.offset + at)) ∷ (codes "queue", queue_data part.id.queue) ∷ (codes "what", string (codes "unreadable")) ∷ (codes "why", string (reason_text e)) ∷ [])

-- what is printed of what is met at a byte: the lines of those items of a batch that are selected; or why no batch can be read
abbrev pub IsMetJson : Selection → Part → ℕ → Met → List ℕ → Type 0
IsMetJson s part at (batch items next) text = AreItemLines s part at items text
IsMetJson s part at (damage next e) text = text ≡ json_line (place_data part at e)
