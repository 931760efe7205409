-- Entries of a region's log, in order of index: the words of tables, steps and queries.
use Rattle.std.specs.Prelude.{◌≡◌, ℕ, ◌+◌, ◌≤◌, Bool, true, false, List, [], ◌∷◌, ◌++◌, length, filter, find, nat_lt, nat_le, ◌==◌, Option, if◌then◌else◌}
use Rattle.std.specs.List.{AllByRecursion}
use Rattle.std.specs.Option.{option_map_or}
use Rattle.raft_base.specs.declared.pipe_log.LogQueue.{LogQueue}
use Rattle.raft_base.specs.declared.pipe_log.LogQueue.TheVariants.{Append, Rewrite}
use Rattle.raft_base.specs.declared.entry_index.EntryIndex.{EntryIndex}
use Rattle.raft_base.specs.Runs.{IsConsecutive}
use Rattle.raft_table.specs.Counts.{Counts, live}
use Rattle.raft_table.specs.Queues.{is_same}

-- the first index, 0 without entries
abbrev pub start_of : List EntryIndex → ℕ
start_of [] = 0
start_of (e ∷ es) = e.index

-- the entries below an index
unfoldable pub below : ℕ → List EntryIndex → List EntryIndex
below i es = filter (λ e. nat_lt e.index i) es

-- the entries from an index on
unfoldable pub from : ℕ → List EntryIndex → List EntryIndex
from i es = filter (λ e. nat_le i e.index) es

-- the entries from one index on and below another
unfoldable pub entries_between : ℕ → ℕ → List EntryIndex → List EntryIndex
entries_between begin end es = from begin (below end es)

-- whether an entry has a place, and it is in this queue
unfoldable pub is_placed_in : LogQueue → EntryIndex → Bool
is_placed_in queue e = option_map_or (λ place. is_same place.id.queue queue) e.entries false

-- the entries whose place is in a queue
unfoldable pub placed_in : LogQueue → List EntryIndex → List EntryIndex
placed_in queue es = filter (is_placed_in queue) es

-- every entry has a place, and the rewritten stand in front of the appended
abbrev pub RewrittenInFront : List EntryIndex → Type 0
RewrittenInFront es = es ≡ placed_in Rewrite es ++ placed_in Append es

-- consecutive entries, each of which has a place in this queue
pub record IsRunIn (queue : LogQueue) (es : List EntryIndex) : Type 0 where
  pub consecutive : IsConsecutive es
  pub placed : AllByRecursion (λ (e : EntryIndex). is_placed_in queue e ≡ true) es

-- what every table's entries are: consecutive, rewritten places in front
pub record AreTableEntries (es : List EntryIndex) : Type 0 where
  pub consecutive : IsConsecutive es
  pub in_front : RewrittenInFront es

-- the entry with this index
abbrev pub entry_at : ℕ → List EntryIndex → Option EntryIndex
entry_at i es = find (λ e. e.index == i) es

-- what stands after a run: below its first index the old entries, from it on the run's
abbrev pub StandsBehind : List EntryIndex → List EntryIndex → List EntryIndex → Type 0
StandsBehind old run new = (i : ℕ) → entry_at i new ≡ (if nat_lt i (start_of run) then entry_at i old else entry_at i run)

-- how many entries have their place in a queue
abbrev pub entry_count : LogQueue → List EntryIndex → ℕ
entry_count queue es = length (placed_in queue es)

-- the live counts count at least these entries
abbrev pub AreCounted : List EntryIndex → Counts → Type 0
AreCounted es counts = (q : LogQueue) → entry_count q es ≤ live q counts

-- the live counts changed by as much as the entries
abbrev pub AreRecounted : List EntryIndex → List EntryIndex → Counts → Counts → Type 0
AreRecounted before after old new = (q : LogQueue) → live q new + entry_count q before ≡ live q old + entry_count q after
