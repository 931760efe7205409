-- Parts of a region's entries, each for one batch.
use Rattle.std.specs.Prelude.{◌≡◌, ◌≢◌, ◌⊎◌, ℕ, ◌+◌, ◌<◌, ◌≤◌, List, [], ◌∷◌, length, take, drop}
use Rattle.raft_base.specs.declared.entry_index.EntryIndex.{EntryIndex}
use Rattle.raft_table.specs.Fetches.{block_count}

-- how many bytes entries have together
abbrev pub bytes_of_entries : List EntryIndex → ℕ
bytes_of_entries [] = 0
bytes_of_entries (e ∷ es) = e.entry_len + bytes_of_entries es

-- entries of one part: they have 4 KiB together at most, or stand in one block
abbrev pub AreOnePart : List EntryIndex → Type 0
AreOnePart es = (bytes_of_entries es ≤ 4096) ⊎ (block_count es ≤ 1)

-- so many entries are the first part of all: one at least, if there are any, and no block is in two parts; with the first ones of the next block they would be too many for a part
pub record IsFirstPart (es : List EntryIndex) (count : ℕ) : Type 0 where
  pub at_most : count ≤ length es
  pub some : es ≢ [] → 0 < count
  pub part : AreOnePart (take count es)
  pub whole : block_count (take count es) + block_count (drop count es) ≡ block_count es
  pub longest : count < length es → (more : ℕ) × (count < more) × (block_count (drop count (take more es)) ≤ 1) × ¬ (AreOnePart (take more es))

-- ---- how a part is found

-- this number is how many bytes entries have, or both are more than a part has
abbrev pub IsCapped : ℕ → List EntryIndex → Type 0
IsCapped bytes es = (bytes ≡ bytes_of_entries es) ⊎ ((4096 < bytes) × (4096 < bytes_of_entries es))

-- so many entries are those of the first block, up to the first entry that stands in another one
pub record IsFirstBlock (es : List EntryIndex) (count : ℕ) : Type 0 where
  pub at_most : count ≤ length es
  pub some : es ≢ [] → 0 < count
  pub one : block_count (take count es) ≤ 1
  pub whole : block_count (take count es) + block_count (drop count es) ≡ block_count es
