-- Lists of entries of one region.
use Rattle.std.specs.Prelude.{◌≡◌, ℕ, ◌+◌, ◌-◌, ◌^◌, ◌<◌, List, [], ◌∷◌, length, take, drop}
use Rattle.raft_base.specs.declared.entry_index.EntryIndex.{EntryIndex}
use Rattle.raft_base.specs.NoEntry.{no_entry}
use Rattle.raft_base.specs.Runs.{IsConsecutive}

-- this index, without bytes and without a place
abbrev pub entry_with_index : ℕ → EntryIndex
entry_with_index index = record no_entry { index = index }

-- an entry without a place, whose bytes stand from this offset up to this tail offset
abbrev pub entry_between : ℕ → ℕ → ℕ → EntryIndex
entry_between index offset tail = record no_entry { index = index; entry_offset = offset; entry_len = tail - offset }

-- entries with the lengths of these byte strings
abbrev pub with_lengths : List EntryIndex → List (List ℕ) → List EntryIndex
with_lengths [] strings = []
with_lengths (e ∷ es) [] = []
with_lengths (e ∷ es) (bytes ∷ strings) = record e { entry_len = length bytes } ∷ with_lengths es strings

-- of bytes that stand one behind another, those of each entry: as many as its length says
abbrev pub strings_in : List EntryIndex → List ℕ → List (List ℕ)
strings_in [] bytes = []
strings_in (e ∷ es) bytes = take e.entry_len bytes ∷ strings_in es (drop e.entry_len bytes)

-- each entry's bytes begin where those before it end, here at s, and end below 2^32
abbrev pub Tile : ℕ → List EntryIndex → Type 0
Tile s [] = Unit {0}
Tile s (e ∷ es) = (e.entry_offset ≡ s) × (s + e.entry_len < 2 ^ 32) × Tile (s + e.entry_len) es

-- entries whose bytes run on from the first one's offset
abbrev pub RunOn : List EntryIndex → Type 0
RunOn [] = Unit {0}
RunOn (e ∷ es) = Tile e.entry_offset (e ∷ es)

-- what an entries item may hold to be written
pub record AreWritable (es : List EntryIndex) : Type 0 where
  pub consecutive : IsConsecutive es
  pub run_on : RunOn es
