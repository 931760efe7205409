-- The names of batches whose entries are damaged.
use Rattle.std.specs.Prelude.{◌≡◌, ◌≢◌, ℕ, List}
use Rattle.std.specs.List.{AllZip}
use Rattle.raft_base.specs.Corruption.{IsCorruption}
use Rattle.raft_base.specs.declared.errors.Error.TheVariants as errors
use Rattle.raft_base.specs.declared.pipe_log.FileId.{FileId}
use Rattle.raft_engine.specs.SoundBlocks.{damaged_entries_text}
use Rattle.raft_engine.specs.declared.recovered.DamagedBatch.{DamagedBatch}

-- this names the batch of a file that begins at this offset, and the refusal says that its entries are damaged
pub record IsDamageNamed (id : FileId) (at : ℕ) (batch : DamagedBatch) : Type 0 where
  pub file : batch.file ≡ id.seq
  pub offset : batch.offset ≡ at
  pub why : IsCorruption (damaged_entries_text id at) batch.error
  pub not_memory : batch.error ≢ errors.Memory

-- so it is of each of these, in order
abbrev pub AreNamed : FileId → List ℕ → List DamagedBatch → Type 0
AreNamed id offsets batches = AllZip (IsDamageNamed id) offsets batches
