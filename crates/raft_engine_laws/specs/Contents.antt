-- The bytes of entries in the entry bytes of their batch.
use Rattle.std.specs.Prelude.{◌≡◌, ℕ, List, [], ◌∷◌, take, drop}
use Rattle.raft_base.specs.declared.entry_index.EntryIndex.{EntryIndex}

-- the bytes of an entry: those at its offset, of its length
abbrev pub bytes_of : List ℕ → EntryIndex → List ℕ
bytes_of block e = take e.entry_len (drop e.entry_offset block)

-- each entry has the byte string that was added for it
abbrev pub HaveBytes : List ℕ → List EntryIndex → List (List ℕ) → Type 0
HaveBytes block [] strings = Unit {0}
HaveBytes block (e ∷ es) [] = ⊥
HaveBytes block (e ∷ es) (bytes ∷ strings) = (bytes_of block e ≡ bytes) × HaveBytes block es strings
