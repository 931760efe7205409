-- Entries that are handed over as their first index, the length of each, and the bytes of all.
use Rattle.std.specs.Prelude.{ℕ, ◌+◌, ◌≤◌, List, [], ◌∷◌, length, take, drop}
use Rattle.raft_base.specs.declared.entry_index.EntryIndex.{EntryIndex}
use Rattle.raft_records.specs.Entries.{entry_with_index}

-- as many entries as there are lengths, their indexes rising by one from the first on
abbrev pub entries_from : ℕ → List ℕ → List EntryIndex
entries_from first [] = []
entries_from first (len ∷ lens) = entry_with_index first ∷ entries_from (first + 1) lens

-- the same ones, of these lengths
abbrev pub sized_entries : ℕ → List ℕ → List EntryIndex
sized_entries first [] = []
sized_entries first (len ∷ lens) = record (entry_with_index first) { entry_len = len } ∷ sized_entries (first + 1) lens

-- the bytes cut into strings of these lengths, in turn
abbrev pub strings_of : List ℕ → List ℕ → List (List ℕ)
strings_of [] bytes = []
strings_of (len ∷ lens) bytes = take len bytes ∷ strings_of lens (drop len bytes)

-- there are bytes enough for strings of these lengths
abbrev pub HasStrings : List ℕ → List ℕ → Type 0
HasStrings [] bytes = Unit {0}
HasStrings (len ∷ lens) bytes = (len ≤ length bytes) × HasStrings lens (drop len bytes)
