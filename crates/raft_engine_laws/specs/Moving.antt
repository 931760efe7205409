-- Records that move to the rewrite queue, or from one of its files to another.
use Rattle.std.specs.Prelude.{◌≡◌, ◌⊎◌, ℕ, true, List, [], ◌∷◌, ◌++◌, map, flat_map, false, Option, Some}
use Rattle.std.specs.FinMap as finite
use Rattle.std.specs.List.{AllByRecursion}
use Rattle.raft_base.specs.declared.entry_index.EntryIndex.{EntryIndex}
use Rattle.raft_base.specs.declared.pipe_log.FileId.{FileId}
use Rattle.raft_base.specs.declared.pipe_log.LogQueue.TheVariants.{Append, Rewrite}
use Rattle.raft_records.specs.declared.key_value.OpType.TheVariants as operations
use Rattle.raft_records.specs.Group.{is_reserved}
use Rattle.raft_records.specs.Item.{Item, Content, Pair, entries, command, pair}
use Rattle.raft_table.specs.KeyValues.{Keys, Stored}
use Rattle.raft_table.specs.Rewriting.{may_move}
use Rattle.raft_table.specs.Steps.{Step, Run, table_of}
use Rattle.raft_table.specs.Table.{Table, passes_gate}
use Rattle.raft_table.specs.TableEntries.{placed_in, is_placed_in}
use Rattle.raft_history.specs.Batches.{Event}
use Rattle.raft_history.specs.RegionSteps.{Tables, steps_on, steps_of_items}

-- as many entries of the rewrite queue, each with the index and the contents of one of these
abbrev pub AreCopies : (EntryIndex → List ℕ) → List EntryIndex → List EntryIndex → Type 0
AreCopies content [] [] = Unit {0}
AreCopies content (g ∷ copies) (e ∷ es) = ((g.index ≡ e.index) × (is_placed_in Rewrite g ≡ true) × (content g ≡ content e)) × AreCopies content copies es
AreCopies content [] (e ∷ es) = ⊥
AreCopies content (g ∷ copies) [] = ⊥

-- under a key all stays as it is, in the table and in what the rewrite files give; or the table's pair moves to this file, and is put into what the rewrite files give
abbrev pub IsPairMoved : FileId → Keys → Keys → Keys → Keys → List ℕ → Type 0
IsPairMoved file keys moved rewritten put key =
    ((finite.get moved key ≡ finite.get keys key) × (finite.get put key ≡ finite.get rewritten key))
    ⊎ ((s : Stored) × (finite.get keys key ≡ Some s) × (finite.get moved key ≡ Some (record s { file = file })) × (finite.get put key ≡ Some (record s { file = file })))

-- records of a table move to a file: of its entries some in the middle, with rewritten ones alone in front and none behind, become copies, which the rewrite files give behind the prefix; and pairs move
pub record AreRecordsMoved (content : EntryIndex → List ℕ) (file : FileId) (t moved rewritten put : Table) : Type 0 where
  pub of_queue : file.queue ≡ Rewrite
  pub front : List EntryIndex
  pub middle : List EntryIndex
  pub back : List EntryIndex
  pub split : t.entries ≡ front ++ (middle ++ back)
  pub in_front : placed_in Rewrite front ≡ front
  pub behind : placed_in Rewrite back ≡ []
  pub copies : List EntryIndex
  pub copied : AreCopies content copies middle
  pub moves : moved.entries ≡ front ++ (copies ++ back)
  pub puts : put.entries ≡ front ++ copies
  pub pairs : (key : List ℕ) → IsPairMoved file t.keys moved.keys rewritten.keys put.keys key

-- ---- the batch of one region

-- a key with a value, as it was fetched: it has that value, in an append file at or below the gate
pub record IsFetched (gate : Option ℕ) (keys : Keys) (p : List ℕ × List ℕ) : Type 0 where
  pub stored : Stored
  pub there : finite.get keys p.0 ≡ Some stored
  pub value : stored.value ≡ p.1
  pub queue : stored.file.queue ≡ Append
  pub gated : passes_gate gate stored.file.seq ≡ true

-- a key put with a value in a file
abbrev pub put_item : ℕ → FileId → List ℕ × List ℕ → Item
put_item id file p = record { raft_group_id = id; content = pair (record { op_type = operations.Put; key = p.0; value = Some p.1; file_id = Some file }) }

-- keys put, one after another
abbrev pub put_items : ℕ → FileId → List (List ℕ × List ℕ) → List Item
put_items id file ps = map (put_item id file) ps

-- entries, if there are any, and keys put
abbrev pub moving_items : ℕ → FileId → List EntryIndex → List (List ℕ × List ℕ) → List Item
moving_items id file [] ps = put_items id file ps
moving_items id file (e ∷ es) ps = record { raft_group_id = id; content = entries (e ∷ es) } ∷ put_items id file ps

-- no key is that of group markers
abbrev pub AreOrdinary : List (List ℕ × List ℕ) → Type 0
AreOrdinary ps = AllByRecursion (λ (p : List ℕ × List ℕ). is_reserved p.0 ≡ false) ps

-- a batch moves records of a region's table: it has copies of the first of its appended entries, all of them in files at or below the gate, and keys with their values as they were fetched
pub record IsMovingBatch (content : EntryIndex → List ℕ) (gate id : ℕ) (t : Table) (e : Event) : Type 0 where
  pub middle : List EntryIndex
  pub back : List EntryIndex
  pub split : placed_in Append t.entries ≡ middle ++ back
  pub gated : AllByRecursion (λ (x : EntryIndex). may_move (Some gate) x ≡ true) middle
  pub copies : List EntryIndex
  pub copied : AreCopies content copies middle
  pub pairs : List (List ℕ × List ℕ)
  pub fetched : AllByRecursion (IsFetched (Some gate) t.keys) pairs
  pub ordinary : AreOrdinary pairs
  pub items : e.items ≡ moving_items id e.file copies pairs

-- ---- within the rewrite queue

-- the entries that a step puts
abbrev pub run_of : Step → List EntryIndex
run_of (Run es) = es
run_of _ = []

-- the entries on a region in items, in order
abbrev pub entries_on : ℕ → List Item → List EntryIndex
entries_on r items = flat_map run_of (steps_on r (steps_of_items items))

-- a key is put again in a file, with the value that the table has in the rewrite queue
pub record IsPutAgain (file : FileId) (keys : Keys) (p : Pair) : Type 0 where
  pub stored : Stored
  pub there : finite.get keys p.key ≡ Some stored
  pub queue : stored.file.queue ≡ Rewrite
  pub put : p.op_type ≡ operations.Put
  pub value : p.value ≡ Some stored.value
  pub in_file : p.file_id ≡ Some file

-- a content that moves records within the rewrite queue: some entries, a key put again, or a change of the reserved key, which is skipped
abbrev pub MovesAgain : FileId → Keys → Content → Type 0
MovesAgain file keys (entries []) = ⊥
MovesAgain file keys (entries (e ∷ es)) = Unit {0}
MovesAgain file keys (command c) = ⊥
MovesAgain file keys (pair p) = (is_reserved p.key ≡ true) ⊎ IsPutAgain file keys p

-- items move records of tables to a file within the rewrite queue: on each region they have no entry, or copies of all rewritten entries of its table, in order; and they put keys again
pub record MoveAgain (content : EntryIndex → List ℕ) (tables : Tables) (file : FileId) (items : List Item) : Type 0 where
  pub contents : AllByRecursion (λ (item : Item). MovesAgain file (table_of item.raft_group_id (finite.get tables item.raft_group_id)).keys item.content) items
  pub copied : (r : ℕ) → (entries_on r items ≡ []) ⊎ AreCopies content (entries_on r items) (placed_in Rewrite (table_of r (finite.get tables r)).entries)
