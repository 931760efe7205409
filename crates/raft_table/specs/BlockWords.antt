-- How a table keeps its blocks, and what its own calls do to them.
use Rattle.std.specs.Prelude.{◌≡◌, ◌⊎◌, ℕ, ◌+◌, ◌<◌, ◌≤◌, List, [], ◌∷◌, ◌++◌, length, take, drop, map, slice_index_or, if◌then◌else◌}
use Rattle.raft_base.specs.declared.pipe_log.LogQueue.TheVariants.{Rewrite}
use Rattle.raft_base.specs.declared.entry_index.EntryIndex.{EntryIndex}
use Rattle.std.specs.declared.collections.VecDeque.{VecDeque}
use Rattle.raft_table.specs.declared.memtable.block.Block.{Block}
use Rattle.raft_table.specs.Blocks.{BlockSpans, blocks_shown, entries_in_blocks, AreDistinctBlocks}
use Rattle.raft_table.specs.TableEntries.{AreTableEntries, entry_count}
use Rattle.raft_table.specs.Fetches.{is_same_place}

-- what each block of a deque holds
abbrev pub shown : {Z : Type 0} → VecDeque Block Z → List BlockSpans
shown q = blocks_shown q.items

-- how many entries blocks have
abbrev pub count : List BlockSpans → ℕ
count [] = 0
count (b ∷ bs) = length b.spans + count bs

-- the spans of entries
abbrev pub spans_of : List EntryIndex → List (ℕ × ℕ)
spans_of es = map (λ e. (e.entry_offset, e.entry_len)) es

-- an entry without its span
abbrev pub without_span : EntryIndex → EntryIndex
without_span e = record e { entry_offset = 0; entry_len = 0 }

-- entries, the first of which get these spans
abbrev pub with_spans : List (ℕ × ℕ) → List EntryIndex → List EntryIndex
with_spans [] es = es
with_spans (s ∷ ss) [] = []
with_spans (s ∷ ss) (e ∷ es) = record e { entry_offset = s.0; entry_len = s.1 } ∷ with_spans ss es

-- the first index of each block
abbrev pub starts_of : ℕ → List BlockSpans → List ℕ
starts_of i [] = []
starts_of i (b ∷ bs) = i ∷ starts_of (i + length b.spans) bs

-- the first index of each block, or none at all
abbrev pub AreStarts : ℕ → List BlockSpans → List ℕ → Type 0
AreStarts i bs ss = (ss ≡ []) ⊎ (ss ≡ starts_of i bs)

-- what a table keeps: its entries in longest blocks, the first index of each block, how many entries there are, and how many of them are rewritten
pub record AreKept (i n : ℕ) (bs : List BlockSpans) (ss : List ℕ) (r : ℕ) : Type 0 where
  pub table_entries : AreTableEntries (entries_in_blocks i bs)
  pub distinct : AreDistinctBlocks bs
  pub starts : ss ≡ starts_of i bs
  pub len : n ≡ count bs
  pub rewritten : r ≡ entry_count Rewrite (entries_in_blocks i bs)

-- the first entries of a block
abbrev pub first_spans : ℕ → BlockSpans → BlockSpans
first_spans m b = record b { spans = take m b.spans }

-- a block without its first entries
abbrev pub without_first_spans : ℕ → BlockSpans → BlockSpans
without_first_spans m b = record b { spans = drop m b.spans }

-- a block with more entries after its own
abbrev pub with_spans_behind : BlockSpans → List (ℕ × ℕ) → BlockSpans
with_spans_behind b more = record b { spans = b.spans ++ more }

-- blocks, of the last of which so many entries
abbrev pub first_of_last : ℕ → List BlockSpans → List BlockSpans
first_of_last m [] = []
first_of_last m (b ∷ []) = first_spans m b ∷ []
first_of_last m (b ∷ c ∷ bs) = b ∷ first_of_last m (c ∷ bs)

-- blocks, the first of which without so many entries
abbrev pub without_first_of_first : ℕ → List BlockSpans → List BlockSpans
without_first_of_first m [] = []
without_first_of_first m (b ∷ bs) = without_first_spans m b ∷ bs

-- blocks after others: the two at the seam are one where they have the same place
abbrev pub joined_blocks : List BlockSpans → List BlockSpans → List BlockSpans
joined_blocks [] cs = cs
joined_blocks (b ∷ []) [] = b ∷ []
joined_blocks (b ∷ []) (c ∷ cs) = if is_same_place b.handle c.handle then with_spans_behind b c.spans ∷ cs else b ∷ c ∷ cs
joined_blocks (b ∷ d ∷ bs) cs = b ∷ joined_blocks (d ∷ bs) cs

-- how many blocks fewer that are
abbrev pub seam : List BlockSpans → List BlockSpans → ℕ
seam [] cs = 0
seam (b ∷ []) [] = 0
seam (b ∷ []) (c ∷ cs) = if is_same_place b.handle c.handle then 1 else 0
seam (b ∷ d ∷ bs) cs = seam (d ∷ bs) cs

-- an index at which the blocks with these first indexes have an entry
abbrev pub IsIndexOf : List ℕ → ℕ → Type 0
IsIndexOf ss x = (i : ℕ) × (bs : List BlockSpans) × (ss ≡ starts_of i bs) × (i ≤ x) × (x < i + count bs)

-- the entry after the first p ones stands in the block after the first k ones, after so many of its entries
pub record IsAt (p : ℕ) (bs : List BlockSpans) (k o : ℕ) : Type 0 where
  pub block : k < length bs
  pub spot : count (take k bs) + o ≡ p
  pub inside : (d : BlockSpans) → o < length (slice_index_or bs k d).spans

-- the entries after the first `start`, among the first `end`: the first of them stands at this spot
pub record IsPart (bs : List BlockSpans) (at : ℕ × ℕ) (start end : ℕ) : Type 0 where
  pub first : IsAt start bs at.0 at.1
  pub distinct : AreDistinctBlocks bs
  pub order : start ≤ end
  pub within : end ≤ count bs
