-- What contracts of private functions say: the batches between two bytes of a part whose entries are damaged.
use Rattle.std.specs.Prelude.{◌≡◌, ◌⊎◌, ℕ, ◌+◌, ◌<◌, ◌≤◌, List, [], ◌∷◌, ◌++◌, Contains}
use Rattle.std.specs.List.{AllByRecursion}
use Rattle.raft_records.specs.FilePart.{Part, AreBatchesUpTo, IsBatchAt, StandBetween}
use Rattle.raft_records.specs.Item.{Item}
use Rattle.raft_engine_prefixes.specs.Done.{AreRisingFrom}
use Rattle.raft_engine.specs.DamagedBatches.{IsDamagedBatch, offsets}
use Rattle.raft_engine.specs.SoundBlocks.{HasSoundBlock}
use Rattle.raft_engine.specs.declared.recovered.DamagedBatch.{DamagedBatch}

-- reading reaches the first of these bytes, and batches stand from there up to the second
abbrev pub AreReached : Part → ℕ → ℕ → Type 0
AreReached part from end = AreBatchesUpTo part from × ((batches : List (List Item)) × StandBetween part from end batches)

-- reading reaches this byte, and a batch stands there
abbrev pub IsReachedAt : Part → ℕ → Type 0
IsReachedAt part at = AreBatchesUpTo part at × ((items : List Item) × (next : ℕ) × IsBatchAt part at items next)

-- these are the batches between two bytes whose entries are damaged, from first to last
pub record AreDamagedBetween (part : Part) (from end : ℕ) (batches : List DamagedBatch) : Type 0 where
  pub are : AllByRecursion (IsDamagedBatch part) batches
  pub others : (at next : ℕ) (items : List Item) → AreBatchesUpTo part at → (b : IsBatchAt part at items next) → from ≤ at → at < end → HasSoundBlock b ⊎ Contains (offsets batches) (part.offset + at)
  pub in_order : AreRisingFrom (part.offset + from) (offsets batches)
  pub before : AllByRecursion (λ (offset : ℕ). offset < part.offset + end) (offsets batches)

-- the batch at a byte is one more of them, if its entries are damaged
abbrev pub IsGathered : Part → ℕ → List DamagedBatch → List DamagedBatch → Type 0
IsGathered part at old new =
    (((items : List Item) (next : ℕ) (b : IsBatchAt part at items next) → HasSoundBlock b) × (new ≡ old))
    ⊎ ((batch : DamagedBatch) × IsDamagedBatch part batch × (batch.offset ≡ part.offset + at) × (new ≡ old ++ batch ∷ []))
