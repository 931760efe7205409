-- The batches of an atomic group that move a region's rewritten records to the last rewrite file.
use Rattle.std.specs.Prelude.{◌≡◌, ℕ, ◌+◌, List, [], ◌∷◌, ◌++◌, flat_map, None}
use Rattle.raft_base.specs.declared.entry_index.EntryIndex.{EntryIndex}
use Rattle.raft_base.specs.declared.pipe_log.FileId.{FileId}
use Rattle.raft_base.specs.declared.pipe_log.LogFileContext.{LogFileContext}
use Rattle.raft_records.specs.Group.{group_marker_item}
use Rattle.raft_records.specs.Item.{Item}
use Rattle.raft_records.specs.LogBatch.{Batch, empty_batch, encoded_length, with_entries_added, with_item}
use Rattle.raft_records.specs.declared.atomic_group.AtomicGroupStatus.{AtomicGroupStatus}
use Rattle.raft_records.specs.declared.atomic_group.AtomicGroupStatus.TheVariants.{Begin, Middle, End}
use Rattle.raft_table.specs.Table.{Table}
use Rattle.raft_files.specs.Asks.{Ask, Put, ask}
use Rattle.raft_engine_laws.specs.Moving.{AreOrdinary}
use Rattle.raft_engine.specs.BatchBytes.{bytes_for, placed_at}
use Rattle.raft_engine.specs.Reads.{AreReadByBlocks}
use Rattle.raft_engine.specs.Rewriting.{moving_entries, moving_pairs, with_puts}

-- some entries, with the bytes of each
abbrev pub EntriesPart : Type 0
EntriesPart = List EntryIndex × List (List ℕ)

-- a batch of a group with its group marker alone
abbrev pub marker_batch : ℕ → AtomicGroupStatus → Batch
marker_batch group status = with_item empty_batch (group_marker_item group status)

-- a batch that goes on with a group: it has some entries of a region
abbrev pub part_batch : ℕ → ℕ → EntriesPart → Batch
part_batch group id part = with_entries_added (marker_batch group Middle) id part.0 part.1

-- the batches behind the Begin: one for each part of the entries, and the End, in which keys are put
abbrev pub batches_behind : ℕ → ℕ → List EntriesPart → List (List ℕ × List ℕ) → List Batch
batches_behind group id [] pairs = with_puts (marker_batch group End) id pairs ∷ []
batches_behind group id (part ∷ parts) pairs = part_batch group id part ∷ batches_behind group id parts pairs

-- the batches of a group: a Begin that has nothing else, and those behind it
abbrev pub group_batches : ℕ → ℕ → List EntriesPart → List (List ℕ × List ℕ) → List Batch
group_batches group id parts pairs = marker_batch group Begin ∷ batches_behind group id parts pairs

-- the entries of parts are read, one part after another: the blocks of each part, each once for all neighbors in it, and nothing else is asked
abbrev pub ArePartsRead : List EntriesPart → List Ask → List Ask → Type 0
ArePartsRead [] old new = new ≡ old
ArePartsRead (part ∷ parts) old new = (between : List Ask) × AreReadByBlocks part.0 part.1 old between × ArePartsRead parts between new

-- batches have what of a table is in rewrite files: its entries, part by part, with their bytes as they were read, and its keys
pub record IsGroupMoving (t : Table) (old new : List Ask) (group : ℕ) (batches : List Batch) : Type 0 where
  pub parts : List EntriesPart
  pub entries : flat_map (λ (part : EntriesPart). part.0) parts ≡ moving_entries None t.entries
  pub read : ArePartsRead parts old new
  pub ordinary : AreOrdinary (moving_pairs None t.keys)
  pub are : batches ≡ group_batches group t.region_id parts (moving_pairs None t.keys)

-- newest first: batches are put behind the bytes of a file, one after another
abbrev pub puts_asks : LogFileContext → List Batch → List Ask → List Ask
puts_asks file [] asks = asks
puts_asks file (batch ∷ batches) asks = puts_asks file batches (ask file.id.queue (Put (bytes_for file batch)) ∷ asks)

-- the items of batches that are put from an offset on, with their places there
abbrev pub placed_from : FileId → ℕ → List Batch → List Item
placed_from file offset [] = []
placed_from file offset (batch ∷ batches) = placed_at file offset batch ++ placed_from file (offset + encoded_length batch.items batch.entry_bytes) batches
