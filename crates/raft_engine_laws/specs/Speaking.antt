-- What steps speak of, and what they leave of older records: those that they don't speak of.
use Rattle.std.specs.Prelude.{◌≡◌, ℕ, Bool, true, false, not, List, ◌++◌, [], filter, Option, None, if◌then◌else◌}
use Rattle.std.specs.List.{list_any}
use Rattle.raft_base.specs.declared.entry_index.EntryIndex.{EntryIndex}
use Rattle.raft_table.specs.KeyValues.{Stored}
use Rattle.raft_table.specs.LastWord.{speaks_of_index, speaks_of_key, is_same_key}
use Rattle.raft_table.specs.Steps.{Step, Del, Clean}

-- ---- entries

-- whether some step speaks of an index
abbrev pub is_index_spoken : List Step → ℕ → Bool
is_index_spoken ss i = list_any (speaks_of_index i) ss

-- the entries whose index no step speaks of
unfoldable pub unspoken : List Step → List EntryIndex → List EntryIndex
unspoken ss es = filter (λ e. not (is_index_spoken ss e.index)) es

-- entries are what steps leave of them, and behind it the own entries of these steps, which speak of each of these
pub record IsOver (ss : List Step) (own es : List EntryIndex) : Type 0 where
  pub split : es ≡ unspoken ss es ++ own
  pub spoken : unspoken ss own ≡ []

-- each index that some steps speak of, others speak of too
abbrev pub AreCovered : List Step → List Step → Type 0
AreCovered some others = (i : ℕ) → is_index_spoken some i ≡ true → is_index_spoken others i ≡ true

-- ---- key values

-- whether some step speaks of a key
abbrev pub is_key_spoken : List Step → List ℕ → Bool
is_key_spoken ss key = list_any (speaks_of_key key) ss

-- whether a step takes a key away: a Del of it, or a Clean
abbrev pub drops_key : List ℕ → Step → Bool
drops_key key (Del k) = is_same_key key k
drops_key key Clean = true
drops_key key _ = false

-- whether some step takes a key away
abbrev pub is_key_dropped : List Step → List ℕ → Bool
is_key_dropped ss key = list_any (drops_key key) ss

-- what steps leave under a key of what stood there before, if they take away and put nothing
abbrev pub pair_left : List Step → List ℕ → Option Stored → Option Stored
pair_left ss key o = if is_key_dropped ss key then None else o
