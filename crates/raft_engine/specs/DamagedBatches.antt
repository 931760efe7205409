-- Batches of the last append file whose entries are damaged, which an opening keeps and names.
use Rattle.std.specs.Prelude.{◌≡◌, ◌≢◌, ◌⊎◌, ℕ, ◌+◌, List, [], ◌∷◌, ◌++◌, Contains, map}
use Rattle.std.specs.List.{AllByRecursion}
use Rattle.raft_base.specs.Corruption.{IsCorruption}
use Rattle.raft_base.specs.declared.errors.Error.TheVariants as errors
use Rattle.raft_base.specs.declared.pipe_log.LogQueue.TheVariants.{Append}
use Rattle.raft_base.specs.declared.pipe_log.Version.{Version}
use Rattle.raft_records.specs.FilePart.{Part, AreBatchesUpTo, IsBatchAt}
use Rattle.raft_records.specs.Item.{Item}
use Rattle.raft_files.specs.Asks.{NumberedBytes}
use Rattle.raft_recover.specs.Files.{whole_file}
use Rattle.raft_engine_prefixes.specs.Done.{AreRisingFrom}
use Rattle.raft_engine.specs.SoundBlocks.{HasSoundBlock, IsUnsoundAt, damaged_entries_text}
use Rattle.raft_engine.specs.declared.recovered.DamagedBatch.{DamagedBatch}

-- this is a batch of a part whose entries are damaged: its file, its offset there, and the refusal that says so
pub record IsDamagedBatch (part : Part) (batch : DamagedBatch) : Type 0 where
  pub at : ℕ
  pub unsound : IsUnsoundAt part at
  pub file : batch.file ≡ part.id.seq
  pub offset : batch.offset ≡ part.offset + at
  pub why : IsCorruption (damaged_entries_text part.id batch.offset) batch.error
  pub not_memory : batch.error ≢ errors.Memory

-- where in their file batches begin
abbrev pub offsets : List DamagedBatch → List ℕ
offsets batches = map (λ (batch : DamagedBatch). batch.offset) batches

-- these are the batches of a part whose entries are damaged, from first to last: those of each other batch that reading reaches are sound
pub record AreDamagedBatches (part : Part) (batches : List DamagedBatch) : Type 0 where
  pub are : AllByRecursion (IsDamagedBatch part) batches
  pub others : (at next : ℕ) (items : List Item) → AreBatchesUpTo part at → (b : IsBatchAt part at items next) → HasSoundBlock b ⊎ Contains (offsets batches) (part.offset + at)
  pub in_order : AreRisingFrom part.offset (offsets batches)

-- these are those of the last append file; none where there is no file
abbrev pub AreDamagedTold : Version → List NumberedBytes → List DamagedBatch → Type 0
AreDamagedTold version files batches =
    (files ≡ [] → batches ≡ [])
    × ((closed : List NumberedBytes) (last : NumberedBytes) → files ≡ closed ++ last ∷ [] → AreDamagedBatches (whole_file Append version last) batches)
