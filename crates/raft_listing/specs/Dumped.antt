-- The text of a dump: a line for each batch, below it one for each of its items, and below that, where it is asked for, one for each entry.
use Rattle.std.specs.Prelude.{◌≡◌, ◌≢◌, ◌⊎◌, ℕ, ◌+◌, ◌-◌, ◌^◌, ◌≤◌, min, nat_eq, nat_le, nat_lt, Bool, true, false, ◌&&◌, ◌||◌, List, [], ◌∷◌, ◌++◌, length, take, drop, codes, Option, Some, None}
use Rattle.std.specs.Bool.{MatchBool}
use Rattle.std.specs.List.{AllByRecursion}
use Rattle.std.specs.Fmt.{decimal}
use Rattle.std.specs.Io.KnownBytes.{Appends}
use Rattle.hex.specs.Hex.{encode_lower}
use Rattle.raft_base.specs.declared.entry_index.EntryIndex.{EntryIndex}
use Rattle.raft_base.specs.declared.pipe_log.FileBlockHandle.{FileBlockHandle}
use Rattle.raft_base.specs.declared.errors.Error.{Error}
use Rattle.raft_records.specs.declared.atomic_group.AtomicGroupStatus.{AtomicGroupStatus}
use Rattle.raft_records.specs.declared.atomic_group.AtomicGroupStatus.TheVariants.{Begin, Middle, End}
use Rattle.raft_records.specs.declared.key_value.OpType.{OpType}
use Rattle.raft_records.specs.declared.key_value.OpType.TheVariants.{Put, Del}
use Rattle.raft_records.specs.EntryBlock.{HasEntryBlock}
use Rattle.raft_records.specs.FilePart.{Part}
use Rattle.raft_records.specs.Group.{marker_byte, status_byte}
use Rattle.raft_records.specs.Item.{Item, Content, Pair, entries, command, pair}
use Rattle.raft_records.specs.Lines.{command_text}
use Rattle.raft_replay.specs.Stops.{queue_text}
use Rattle.raft_listing.specs.SoundParts.{CanBeRead, IsLossOf}
use Rattle.raft_listing.specs.Walks.{Met, batch, damage}
use Rattle.raft_listing.specs.LossWords.{loss_words}
use Rattle.raft_listing.specs.Reasons.{reason_text}
use Rattle.raft_listing.specs.declared.damage.Loss.{Loss}
use Rattle.raft_listing.specs.declared.selection.Selection.{Selection}

-- some text of this kind comes behind the old one
pub record Adds (IsText : List ℕ → Type 0) (old new : List ℕ) : Type 0 where
  pub text : List ℕ
  pub is_text : IsText text
  pub behind : new ≡ old ++ text

-- ---- what is selected

-- items of a region
abbrev pub is_only : Option ℕ → ℕ → Bool
is_only None region = true
is_only (Some only) region = nat_eq region only

abbrev pub is_of_region : Selection → ℕ → Bool
is_of_region s region = is_only s.region region

-- an entry
abbrev pub has_index : Selection → EntryIndex → Bool
has_index s e = nat_le s.from e.index && nat_lt e.index s.to

-- one of some entries
abbrev pub has_one : Selection → List EntryIndex → Bool
has_one s [] = false
has_one s (e ∷ es) = has_index s e || has_one s es

-- what an item says: where it is of entries, one of them, or there are none
abbrev pub has_any : Selection → List EntryIndex → Bool
has_any s [] = true
has_any s (e ∷ es) = has_one s (e ∷ es)

abbrev pub has_content : Selection → Content → Bool
has_content s (entries es) = has_any s es
has_content s (command c) = true
has_content s (pair p) = true

-- an item
abbrev pub is_selected : Selection → Item → Bool
is_selected s item = is_of_region s item.raft_group_id && has_content s item.content

-- ---- bytes

-- printable ASCII characters but the quote
abbrev pub IsPrintable : ℕ → Type 0
IsPrintable byte = (32 ≤ byte) × (byte ≤ 126) × (byte ≢ 34)

-- bytes as text: in quotes, where all are printable; else in base 16
abbrev pub IsShown : List ℕ → List ℕ → Type 0
IsShown bytes text =
    (AllByRecursion IsPrintable bytes × (text ≡ codes "\"" ++ (bytes ++ codes "\""))) ⊎ (¬ (AllByRecursion IsPrintable bytes) × (text ≡ codes "0x" ++ encode_lower bytes))

-- ---- a change of a key

-- an item marks so the place of its batch in an atomic group, if it does
abbrev pub MarksGroup : Item → Option AtomicGroupStatus → Type 0
MarksGroup item (Some status) = marker_byte item.content ≡ Some (status_byte status)
MarksGroup item None = (status : AtomicGroupStatus) → marker_byte item.content ≡ Some (status_byte status) → ⊥

-- the words for it
abbrev pub status_words : Option AtomicGroupStatus → List ℕ
status_words None = []
status_words (Some Begin) = codes ", an atomic group begins"
status_words (Some Middle) = codes ", an atomic group goes on"
status_words (Some End) = codes ", an atomic group ends"

-- a value: its bytes where they are asked for, else how many there are
abbrev pub IsValueText : Selection → Option (List ℕ) → List ℕ → Type 0
IsValueText s None text = text ≡ []
IsValueText s (Some value) text =
    MatchBool s.values (Adds (IsShown value) (codes " = ") text) (text ≡ codes " " ++ (decimal (length value) ++ codes " bytes"))

-- what is done to a key
abbrev pub op_words : OpType → List ℕ
op_words Put = codes "put "
op_words Del = codes "delete "

-- the rest of the line of a change of a key
pub record IsPairText (s : Selection) (item : Item) (p : Pair) (text : List ℕ) : Type 0 where
  pub key : List ℕ
  pub key_shown : IsShown p.key key
  pub value : List ℕ
  pub value_shown : IsValueText s p.value value
  pub status : Option AtomicGroupStatus
  pub marks : MarksGroup item status
  pub words : text ≡ op_words p.op_type ++ (key ++ (value ++ (status_words status ++ codes "\n")))

-- ---- entries

-- the bytes of an entry stand in its entry block
pub record HasBytes (part : Part) (entry : EntryIndex) (bytes : List ℕ) : Type 0 where
  pub place : FileBlockHandle
  pub placed : entry.entries ≡ Some place
  pub block : List ℕ
  pub stands : HasEntryBlock part place block
  pub inside : entry.entry_offset + entry.entry_len ≤ length block
  pub are : bytes ≡ take entry.entry_len (drop entry.entry_offset block)

-- that they can't be read, and why
abbrev pub lost_text : Loss → List ℕ
lost_text loss = codes "unreadable: " ++ loss_words loss

-- what is shown of an entry are its bytes; or why they can't be read
abbrev pub IsEntryShown : Part → EntryIndex → List ℕ → Type 0
IsEntryShown part entry text =
    ((bytes : List ℕ) × HasBytes part entry bytes × IsShown bytes text)
    ⊎ ((loss : Loss) × ¬ (CanBeRead part entry) × IsLossOf part entry loss × (text ≡ lost_text loss))

-- the line of an entry
abbrev pub IsEntryLine : Part → EntryIndex → List ℕ → Type 0
IsEntryLine part entry text =
    (shown : List ℕ) × IsEntryShown part entry shown × (text ≡ codes "    " ++ (decimal entry.index ++ (codes " " ++ (shown ++ codes "\n"))))

-- its line, if it is selected
abbrev pub IsSelectedLine : Selection → Part → EntryIndex → List ℕ → Type 0
IsSelectedLine s part entry text = MatchBool (has_index s entry) (IsEntryLine part entry text) (text ≡ [])

-- the lines of those that are selected
abbrev pub AreEntryLines : Selection → Part → List EntryIndex → List ℕ → Type 0
AreEntryLines s part [] text = text ≡ []
AreEntryLines s part (e ∷ es) text =
    (first rest : List ℕ) × (text ≡ first ++ rest) × IsSelectedLine s part e first × AreEntryLines s part es rest

-- they are printed where that is asked for
abbrev pub AreContents : Selection → Part → List EntryIndex → List ℕ → Type 0
AreContents s part es text = MatchBool s.values (AreEntryLines s part es text) (text ≡ [])

-- where an entry block stands
abbrev pub place_words : Option FileBlockHandle → List ℕ
place_words None = []
place_words (Some place) = codes " block at " ++ (decimal place.offset ++ (codes " length " ++ decimal place.len))

-- the rest of the line of so many entries, of which this one is the first: its index, the one past the last, and where their block stands
abbrev pub entries_line : EntryIndex → ℕ → List ℕ
entries_line e count =
    codes "entries " ++ (decimal e.index ++ (codes ".." ++ (decimal (min (e.index + count) (2 ^ 64 - 1)) ++ (place_words e.entries ++ codes "\n"))))

-- the rest of the line of entries, and the lines below it
abbrev pub IsEntriesText : Selection → Part → List EntryIndex → List ℕ → Type 0
IsEntriesText s part [] text = text ≡ codes "entries -\n"
IsEntriesText s part (e ∷ es) text =
    (contents : List ℕ) × AreContents s part (e ∷ es) contents × (text ≡ entries_line e (length (e ∷ es)) ++ contents)

-- ---- items and batches

-- what an item says
abbrev pub IsContentText : Selection → Part → Item → Content → List ℕ → Type 0
IsContentText s part item (entries es) text = IsEntriesText s part es text
IsContentText s part item (command c) text = text ≡ command_text c ++ codes "\n"
IsContentText s part item (pair p) text = IsPairText s item p text

-- the lines of an item
abbrev pub IsItemText : Selection → Part → Item → List ℕ → Type 0
IsItemText s part item text =
    (said : List ℕ) × IsContentText s part item item.content said
    × (text ≡ codes "  region " ++ (decimal item.raft_group_id ++ (codes " " ++ said)))

-- its lines, if it is selected
abbrev pub IsSelectedText : Selection → Part → Item → List ℕ → Type 0
IsSelectedText s part item text = MatchBool (is_selected s item) (IsItemText s part item text) (text ≡ [])

-- the lines of those items that are selected
abbrev pub AreItemTexts : Selection → Part → List Item → List ℕ → Type 0
AreItemTexts s part [] text = text ≡ []
AreItemTexts s part (item ∷ items) text =
    (first rest : List ℕ) × (text ≡ first ++ rest) × IsSelectedText s part item first × AreItemTexts s part items rest

-- the file and the offset in it, in front of a line
abbrev pub file_words : Part → ℕ → List ℕ
file_words part at =
    queue_text part.id.queue ++ (codes " file " ++ (decimal part.id.seq ++ (codes " offset " ++ decimal (part.offset + at))))

-- the line of a batch
abbrev pub batch_line : Part → ℕ → ℕ → ℕ → List ℕ
batch_line part at next count =
    file_words part at ++ (codes " length " ++ (decimal (next - at) ++ (codes " items " ++ (decimal count ++ codes "\n"))))

-- the line of a byte at which no batch can be read
abbrev pub damage_line : Part → ℕ → Error → List ℕ
damage_line part at e =
    file_words part at ++ (codes " unreadable: " ++ (reason_text e ++ codes "\n"))

-- what is printed of what is met at a byte: the line of a batch and those of its items, if some are selected; or why no batch can be read
abbrev pub IsMetText : Selection → Part → ℕ → Met → List ℕ → Type 0
IsMetText s part at (batch items next) text =
    (lines : List ℕ) × AreItemTexts s part items lines × (((lines ≡ []) × (text ≡ [])) ⊎ ((lines ≢ []) × (text ≡ batch_line part at next (length items) ++ lines)))
IsMetText s part at (damage next e) text = text ≡ damage_line part at e

-- a text that says what is met comes behind what was written, where that is known
abbrev pub IsDumped : (Selection → Part → ℕ → Met → List ℕ → Type 0) → Selection → Part → ℕ → Met → Option (List ℕ) → Option (List ℕ) → Type 0
IsDumped Says s part at met old new = (text : List ℕ) × Says s part at met text × Appends old new text

-- whether a batch couldn't be read so far
abbrev pub is_damaged_after : Met → Bool → Bool
is_damaged_after (batch items next) so_far = so_far
is_damaged_after (damage next e) so_far = true
