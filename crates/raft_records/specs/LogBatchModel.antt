-- A log batch as its items, its entry bytes and its stage.
use Rattle.raft_records.specs.declared.log_batch.BufState.{BufState}
use Rattle.raft_records.specs.declared.log_batch.BufState.TheVariants as states
use Rattle.raft_records.specs.declared.log_batch.LogBatch.TheInside.{Inside}
use Rattle.raft_records.specs.LogBatch.{Stage, is_open, encoded, sealed, Batch}
use Rattle.raft_records.specs.Buffer.{entry_bytes_in, IsHeld}

-- the stage that a buffer is kept at
abbrev pub stage_of : BufState → Stage
stage_of states.Open = is_open
stage_of states.Encoded = encoded
stage_of (states.Sealed signature) = sealed signature

-- the batch: its items, the entry bytes in its buffer, and its stage
abbrev pub batch_in : Inside → Batch
batch_in b = record { items = b.item_batch; entry_bytes = entry_bytes_in b.item_batch b.buf.items; stage = stage_of b.state }

-- what the buffer holds is the batch
abbrev pub IsWellHeld : Inside → Type 0
IsWellHeld b = IsHeld (stage_of b.state) b.item_batch (entry_bytes_in b.item_batch b.buf.items) b.buf.items
