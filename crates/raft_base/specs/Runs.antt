-- Entries of a region's log whose indexes have no gaps.
use Rattle.std.specs.Prelude.{◌≡◌, ℕ, ◌<◌, ◌-◌, ◌^◌, suc, max, List, [], ◌∷◌, Some}
use Rattle.std.specs.List.{AllByRecursion}
use Rattle.raft_base.specs.declared.pipe_log.FileBlockHandle.{FileBlockHandle}
use Rattle.raft_base.specs.declared.compression_type.CompressionType.TheVariants as compression
use Rattle.raft_base.specs.declared.entry_index.EntryIndex.{EntryIndex}

-- the indexes rise by one from this one
abbrev pub RisesFrom : ℕ → List EntryIndex → Type 0
RisesFrom start [] = Unit {0}
RisesFrom start (e ∷ es) = (e.index ≡ start) × RisesFrom (suc start) es

-- indexes without gaps
abbrev pub IsRun : List EntryIndex → Type 0
IsRun [] = Unit {0}
IsRun (e ∷ es) = RisesFrom (suc e.index) es

-- the greatest index plus one, 0 without entries
unfoldable pub end_of : List EntryIndex → ℕ
end_of [] = 0
end_of (e ∷ es) = max (suc e.index) (end_of es)

-- a run without the index 2^64 - 1
pub record IsConsecutive (es : List EntryIndex) : Type 0 where
  pub run : IsRun es
  pub bounded : AllByRecursion (λ (e : EntryIndex). e.index < 2 ^ 64 - 1) es

-- the entries of one block, from an index on
abbrev pub entries_of_block : ℕ → FileBlockHandle → List (ℕ × ℕ) → List EntryIndex
entries_of_block i handle [] = []
entries_of_block i handle (s ∷ ss) = record { index = i; entries = Some handle; compression_type = compression.None; entry_offset = s.0; entry_len = s.1 } ∷ entries_of_block (suc i) handle ss
