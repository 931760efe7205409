-- Item batches as text: a line for each item, and a last line of counts.
use Rattle.std.specs.Prelude.{◌≡◌, ◌≢◌, ◌⊎◌, ℕ, List, [], ◌∷◌, ◌++◌, length, codes, Option, Some, None, IfSome}
use Rattle.std.specs.Fmt.{decimal}
use Rattle.std.specs.Io.KnownBytes.{Appends, IsAtEnd}
use Rattle.std.specs.List.{flat_map}
use Rattle.hex.specs.Hex.{encode_lower}
use Rattle.raft_base.specs.declared.entry_index.EntryIndex.{EntryIndex}
use Rattle.raft_records.specs.declared.command.Command.{Command}
use Rattle.raft_records.specs.declared.command.Command.TheVariants.{Clean, Compact, Truncate}
use Rattle.raft_records.specs.declared.key_value.OpType.{OpType}
use Rattle.raft_records.specs.declared.key_value.OpType.TheVariants.{Put, Del}
use Rattle.raft_base.specs.declared.errors.Error.{Error}
use Rattle.raft_base.specs.declared.errors.Error.TheVariants.{Io}
use Rattle.raft_records.specs.Item.{Item, Content, entries, command, pair}
use Rattle.raft_records.specs.Grammar.{end_behind}
use Rattle.raft_records.specs.ItemBatch.{IsItemBatch, IsItemBatchFault}
use Rattle.raft_records.specs.Faults.{IsMemory}

-- the bytes of a key or a value in base 16, `-` where there are none
abbrev pub bytes_text : List ℕ → List ℕ
bytes_text [] = codes "-"
bytes_text (byte ∷ bytes) = encode_lower (byte ∷ bytes)

-- a missing value is shown as one without bytes
abbrev pub value_text : Option (List ℕ) → List ℕ
value_text None = bytes_text []
value_text (Some value) = bytes_text value

-- how many entries, the index of the first and the tail offset of the last
abbrev pub entries_text : List EntryIndex → List ℕ
entries_text [] = codes "entries 0"
entries_text (e ∷ es) =
    codes "entries " ++ decimal (length (e ∷ es)) ++ codes " first " ++ decimal e.index ++ codes " tail " ++ decimal (end_behind 0 (e ∷ es))

-- a command, and the index of a compaction or a truncation
abbrev pub command_text : Command → List ℕ
command_text Clean = codes "clean"
command_text (Compact index) = codes "compact " ++ decimal index
command_text (Truncate index) = codes "truncate " ++ decimal index

-- a Put shows its key and its value, a Del its key
abbrev pub pair_text : OpType → List ℕ → Option (List ℕ) → List ℕ
pair_text Put key value = codes "put " ++ bytes_text key ++ codes " " ++ value_text value
pair_text Del key value = codes "del " ++ bytes_text key

-- what an item changes
abbrev pub content_text : Content → List ℕ
content_text (entries es) = entries_text es
content_text (command c) = command_text c
content_text (pair p) = pair_text p.op_type p.key p.value

-- the line of an item: its region, and what it changes
abbrev pub line_of : Item → List ℕ
line_of item = decimal item.raft_group_id ++ codes " " ++ content_text item.content ++ codes "\n"

-- the last line: how many items there were, and how many bytes are left unread
abbrev pub last_line : ℕ → ℕ → List ℕ
last_line items rest = codes "items " ++ decimal items ++ codes " rest " ++ decimal rest ++ codes "\n"

-- the text of items with so many bytes left unread after them
abbrev pub text_of : List Item → ℕ → List ℕ
text_of items rest = flat_map line_of items ++ last_line (length items) rest

-- the text of the item batch that these bytes are
pub record IsTextOf (bytes : List ℕ) (signature : Option ℕ) (text : List ℕ) : Type 0 where
  pub items : List Item
  pub rest : List ℕ
  pub item_batch : IsItemBatch bytes signature items rest
  pub lines : text ≡ text_of items (length rest)

-- the text of an item batch was written after the old bytes, where those are known
pub record Prints (input : List ℕ) (signature : Option ℕ) (old new : Option (List ℕ)) : Type 0 where
  pub text : List ℕ
  pub of_input : IsTextOf input signature text
  pub written : Appends old new text

-- no item batch
abbrev pub IsNoItemBatch : List ℕ → Option ℕ → Type 0
IsNoItemBatch bytes signature = (items : List Item) (rest : List ℕ) → IsItemBatch bytes signature items rest → ⊥

-- why bytes are not printed: they are no item batch, or there is no memory
abbrev pub IsPrintFault : List ℕ → Option ℕ → Error → Type 0
IsPrintFault bytes signature e = IsMemory e ⊎ IsItemBatchFault signature bytes e

-- a reader or a writer failed, or an item ends before its type
abbrev pub IsIoError : Error → Type 0
IsIoError (Io _) = Unit {0}
IsIoError _ = ⊥

-- a front of the text, and not all of it, was written after the old bytes, where those are known
pub record AppendsFront (old new : Option (List ℕ)) (text : List ℕ) : Type 0 where
  pub front : List ℕ
  pub rest : List ℕ
  pub split : text ≡ front ++ rest
  pub unfinished : rest ≢ []
  pub written : Appends old new front

-- the writer failed once the whole input was read and was an item batch: a front of its text, not all, was written
pub record IsWriteFailure (input left : Option (List ℕ)) (signature : Option ℕ) (old new : Option (List ℕ)) (e : Error) : Type 0 where
  pub io : IsIoError e
  pub all_read : IsAtEnd left
  pub text : List ℕ
  pub of_input : IfSome input (λ bytes. IsTextOf bytes signature text)
  pub cut_short : AppendsFront old new text
