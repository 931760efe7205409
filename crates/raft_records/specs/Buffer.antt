-- How a log batch is held: its buffer has sixteen bytes for the header and the entry bytes, or the batch's bytes.
use Rattle.std.specs.Prelude.{◌≡◌, ℕ, ◌-◌, ◌^◌, ◌<◌, List, [], ◌∷◌, ◌++◌, length, take, drop}
use Rattle.raft_records.specs.Item.{Item}
use Rattle.raft_records.specs.ItemBatch.{entry_bytes_of}
use Rattle.raft_records.specs.LogBatch.{Stage, is_open, encoded, sealed, unsealed_bytes, encoded_length, log_batch_bytes}

-- the entry bytes in a buffer: after the header, as many as the items' entries have
abbrev pub entry_bytes_in : List Item → List ℕ → List ℕ
entry_bytes_in items buf = take (entry_bytes_of items) (drop 16 buf)

-- all bytes of a batch but for the checksum, in whose place any four stand
pub record IsUnsealed (items : List Item) (entry_bytes bytes : List ℕ) : Type 0 where
  pub seal : List ℕ
  pub four : length seal ≡ 4
  pub split : bytes ≡ unsealed_bytes (encoded_length items entry_bytes) items entry_bytes ++ seal

-- the bytes of an encoded batch: none without items, else all but the checksum
abbrev pub IsEncodedAs : List Item → List ℕ → List ℕ → Type 0
IsEncodedAs [] entry_bytes bytes = bytes ≡ []
IsEncodedAs (item ∷ items) entry_bytes bytes = IsUnsealed (item ∷ items) entry_bytes bytes

-- what the buffer holds at each stage
abbrev pub IsHeldAt : Stage → List Item → List ℕ → List ℕ → Type 0
IsHeldAt is_open items entry_bytes buf = length buf - 16 ≡ entry_bytes_of items
IsHeldAt encoded items entry_bytes buf = IsEncodedAs items entry_bytes buf
IsHeldAt (sealed signature) items entry_bytes buf = buf ≡ log_batch_bytes signature items entry_bytes

-- once its bytes are made, a batch has fewer than 2^56
abbrev pub IsShortAt : Stage → List ℕ → Type 0
IsShortAt is_open buf = Unit {0}
IsShortAt encoded buf = length buf < 2 ^ 56
IsShortAt (sealed signature) buf = length buf < 2 ^ 56

-- what is kept beside a batch is its own; its items' entry bytes are those that it holds; both are within their limits
pub record IsHeld (stage : Stage) (items : List Item) (entry_bytes buf : List ℕ) : Type 0 where
  pub whole : length entry_bytes ≡ entry_bytes_of items
  pub fits : length entry_bytes < 2 ^ 31
  pub held : IsHeldAt stage items entry_bytes buf
  pub short : IsShortAt stage buf
