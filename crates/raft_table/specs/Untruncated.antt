-- Steps that truncate nothing, over which the overlay asks for less.
use Rattle.std.specs.Prelude.{ℕ, List, [], ◌∷◌, nat_lt, Option, Some, None, if◌then◌else◌}
use Rattle.raft_base.specs.declared.entry_index.EntryIndex.{EntryIndex}
use Rattle.raft_base.specs.Runs.{end_of}
use Rattle.raft_table.specs.Marks.{entries_within}
use Rattle.raft_table.specs.Steps.{Step, Truncate}

-- no step truncates
abbrev pub AreUntruncated : List Step → Type 0
AreUntruncated [] = Unit {0}
AreUntruncated (Truncate i ∷ ss) = ⊥
AreUntruncated (_ ∷ ss) = AreUntruncated ss

-- the entries from an index on and, if there is a cut, below it, and only where they reach it
abbrev pub reaching_within : ℕ → Option ℕ → List EntryIndex → List EntryIndex
reaching_within floor None es = entries_within floor None es
reaching_within floor (Some cut) es = if nat_lt (end_of es) cut then [] else entries_within floor (Some cut) es
