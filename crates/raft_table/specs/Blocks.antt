-- Entries kept as blocks: one place, and for each entry a span of bytes.
use Rattle.std.specs.Prelude.{◌≢◌, ℕ, ◌+◌, ◌<◌, List, [], ◌∷◌, ◌++◌, length, map}
use Rattle.raft_base.specs.declared.pipe_log.FileBlockHandle.{FileBlockHandle}
use Rattle.raft_base.specs.declared.entry_index.EntryIndex.{EntryIndex}
use Rattle.raft_base.specs.Runs.{entries_of_block}
use Rattle.raft_table.specs.declared.memtable.block.Block.{Block}

-- a block as the place of its entries, and the offset and the length of each of its entries in order
pub record BlockSpans : Type 0 where
  pub handle : FileBlockHandle
  pub spans : List (ℕ × ℕ)

-- what a block holds
abbrev pub block_spans : Block → BlockSpans
block_spans b = record { handle = b.handle; spans = b.spans.items }

-- what each of some blocks holds
abbrev pub blocks_shown : List Block → List BlockSpans
blocks_shown bs = map block_spans bs

-- the entries of blocks in order, from an index on
abbrev pub entries_in_blocks : ℕ → List BlockSpans → List EntryIndex
entries_in_blocks i [] = []
entries_in_blocks i (b ∷ bs) = entries_of_block i b.handle b.spans ++ entries_in_blocks (i + length b.spans) bs

-- whether a block's place differs from that of the next one, if there is one
abbrev pub Differs : BlockSpans → List BlockSpans → Type 0
Differs b [] = Unit {0}
Differs b (c ∷ bs) = b.handle ≢ c.handle

-- no block is empty, and neighbors differ in their place
abbrev pub AreDistinctBlocks : List BlockSpans → Type 0
AreDistinctBlocks [] = Unit {0}
AreDistinctBlocks (b ∷ bs) = (0 < length b.spans) × Differs b bs × AreDistinctBlocks bs
