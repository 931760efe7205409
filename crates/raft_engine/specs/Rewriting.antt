-- What is read and put where records of a region move to the rewrite queue.
use Rattle.std.specs.Prelude.{◌≡◌, ℕ, List, [], ◌∷◌, ◌++◌, length, map, Option, Some, None}
use Rattle.raft_base.specs.declared.entry_index.EntryIndex.{EntryIndex}
use Rattle.raft_base.specs.declared.pipe_log.LogQueue.TheVariants.{Append, Rewrite}
use Rattle.raft_records.specs.Item.{Item, pair_item}
use Rattle.raft_records.specs.declared.key_value.OpType.TheVariants.{Put}
use Rattle.raft_records.specs.LogBatch.{Batch, empty_batch, with_entries_added}
use Rattle.raft_table.specs.Fetches.{appended_before}
use Rattle.raft_table.specs.KeyValues.{Keys, pairs_up_to}
use Rattle.raft_table.specs.Table.{Table}
use Rattle.raft_table.specs.TableEntries.{placed_in}
use Rattle.raft_files.specs.Asks.{Ask}
use Rattle.raft_engine_laws.specs.Moving.{AreOrdinary}
use Rattle.raft_engine.specs.Parts.{IsFirstPart}
use Rattle.raft_engine.specs.Reads.{AreReadByBlocks}

-- keys of a region put, one after another
abbrev pub puts_of : ℕ → List (List ℕ × List ℕ) → List Item
puts_of id ps = map (λ (p : List ℕ × List ℕ). pair_item id Put p.0 (Some p.1)) ps

-- keys of a region put in a batch, one after another
abbrev pub with_puts : Batch → ℕ → List (List ℕ × List ℕ) → Batch
with_puts batch id ps = record batch { items = batch.items ++ puts_of id ps }

-- a batch of these entries of a region, whose bytes are these strings, and of these keys with their values
abbrev pub batch_of : ℕ → List EntryIndex → List (List ℕ) → List (List ℕ × List ℕ) → Batch
batch_of id es strings ps = with_puts (with_entries_added empty_batch id es strings) id ps

-- the entries that move past a gate: the appended ones from the first on while their file is at or below it; without a gate the rewritten ones
abbrev pub moving_entries : Option ℕ → List EntryIndex → List EntryIndex
moving_entries None es = placed_in Rewrite es
moving_entries (Some gate) es = appended_before gate es

-- the keys, with their values, whose pairs move past a gate: those in append files at or below it; without a gate those in rewrite files
abbrev pub moving_pairs : Option ℕ → Keys → List (List ℕ × List ℕ)
moving_pairs None keys = pairs_up_to Rewrite None keys
moving_pairs (Some gate) keys = pairs_up_to Append (Some gate) keys

-- how many of the entries that move are in a batch: past a gate the first part, without a gate all, so that none are left
abbrev pub IsPartOfBatch : Option ℕ → List EntryIndex → List EntryIndex → List EntryIndex → Type 0
IsPartOfBatch None es part left = left ≡ []
IsPartOfBatch (Some gate) es part left = IsFirstPart es (length part)

-- of the entries that move, the next batch has these, and those are left
pub record IsNextPart (gate : Option ℕ) (es part left : List EntryIndex) : Type 0 where
  pub split : es ≡ part ++ left
  pub first : IsPartOfBatch gate es part left

-- the keys are in the batch that leaves no entries
abbrev pub pairs_with : List EntryIndex → List (List ℕ × List ℕ) → List (List ℕ × List ℕ)
pairs_with [] ps = ps
pairs_with (e ∷ left) ps = []

-- a batch has of what of a table moves past a gate, or without one, the next entries, with their bytes as they were read by their blocks, and the keys where no entries are left
pub record IsBatchMoving (gate : Option ℕ) (left : List EntryIndex) (t : Table) (old new : List Ask) (batch : Batch) : Type 0 where
  pub part : List EntryIndex
  pub next : IsNextPart gate (moving_entries gate t.entries) part left
  pub strings : List (List ℕ)
  pub read : AreReadByBlocks part strings old new
  pub ordinary : AreOrdinary (pairs_with left (moving_pairs gate t.keys))
  pub is : batch ≡ batch_of t.region_id part strings (pairs_with left (moving_pairs gate t.keys))
