-- Where the batches of a group are put, one after another.
use Rattle.std.specs.Prelude.{◌≡◌, ◌⊎◌, ℕ, ◌+◌, ◌<◌, ◌≤◌, ◌^◌, List, [], ◌∷◌, ◌++◌, flat_map, length, take}
use Rattle.raft_base.specs.declared.pipe_log.LogFileContext.{LogFileContext}
use Rattle.raft_records.specs.Item.{Item}
use Rattle.raft_records.specs.LogBatch.{Batch, encoded, encoded_length}
use Rattle.raft_files.specs.Asks.{Ask}
use Rattle.raft_engine.specs.GroupBatches.{puts_asks}

-- where batches end that are put from an offset on
abbrev pub end_from : ℕ → List Batch → ℕ
end_from offset [] = offset
end_from offset (batch ∷ batches) = end_from (offset + encoded_length batch.items batch.entry_bytes) batches

-- each of them begins at 2^63 at most
abbrev pub BeginInTime : ℕ → List Batch → Type 0
BeginInTime offset [] = Unit {0}
BeginInTime offset (batch ∷ batches) = (offset ≤ 2 ^ 63) × BeginInTime (offset + encoded_length batch.items batch.entry_bytes) batches

-- one of them would begin past 2^63, or has 2^56 bytes or more
pub record IsOneTooLong (offset : ℕ) (batches : List Batch) : Type 0 where
  pub front : List Batch
  pub batch : Batch
  pub back : List Batch
  pub split : batches ≡ front ++ batch ∷ back
  pub long : (2 ^ 63 < end_from offset front) ⊎ (2 ^ 56 ≤ encoded_length batch.items batch.entry_bytes)

-- a batch whose bytes are made
abbrev pub as_encoded : Batch → Batch
as_encoded batch = record batch { stage = encoded }

-- the items of batches, in order
abbrev pub items_of_batches : List Batch → List Item
items_of_batches batches = flat_map (λ (batch : Batch). batch.items) batches

-- of batches the first ones are put, and nothing else is asked
pub record AreFirstPut (file : LogFileContext) (batches : List Batch) (old new : List Ask) : Type 0 where
  pub count : ℕ
  pub at_most : count ≤ length batches
  pub asked : new ≡ puts_asks file (take count batches) old
