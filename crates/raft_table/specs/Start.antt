-- The start rule: what stays where a run is put, and when it is refused.
use Rattle.std.specs.Prelude.{ℕ, ◌+◌, ◌≤◌, ◌^◌, Bool, false, ◌||◌, List, [], ◌∷◌, ◌++◌, length, nat_lt, Option, Some, None, if◌then◌else◌}
use Rattle.raft_base.specs.declared.errors.Error.{Error}
use Rattle.raft_base.specs.declared.errors.Error.TheVariants as errors
use Rattle.raft_base.specs.declared.pipe_log.LogQueue.{LogQueue}
use Rattle.raft_base.specs.declared.pipe_log.LogQueue.TheVariants.{Append, Rewrite}
use Rattle.raft_base.specs.declared.entry_index.EntryIndex.{EntryIndex}
use Rattle.raft_base.specs.Runs.{end_of}
use Rattle.raft_table.specs.Counts.{Counts, live, with_added, with_deleted}
use Rattle.raft_table.specs.TableEntries.{below, from, entry_count}

-- whether a start is above the end of some entries, so that indexes between are missing; never where there are none
abbrev pub leaves_hole : List EntryIndex → ℕ → Bool
leaves_hole [] start = false
leaves_hole (e ∷ es) start = nat_lt (end_of (e ∷ es)) start

-- whether a start lies below the first of some entries
abbrev pub starts_in_front : List EntryIndex → ℕ → Bool
starts_in_front [] start = false
starts_in_front (e ∷ es) start = nat_lt start e.index

-- a new run: the entries below its start stay; none where it is refused, in front of all entries or after a hole
abbrev pub entries_after_append : List EntryIndex → List EntryIndex → Option (List EntryIndex)
entries_after_append es [] = Some es
entries_after_append es (e ∷ run) =
    if starts_in_front es e.index || leaves_hole es e.index then None else Some (below e.index es ++ e ∷ run)

-- the entries after a run is read again: those below its start, then the run; where it leaves a hole: in the append
-- queue it is refused, in the rewrite queue the run alone
abbrev pub entries_after_replay : LogQueue → List EntryIndex → List EntryIndex → Option (List EntryIndex)
entries_after_replay queue es [] = Some es
entries_after_replay Append es (e ∷ run) =
    if leaves_hole es e.index then None else Some (below e.index es ++ e ∷ run)
entries_after_replay Rewrite es (e ∷ run) =
    Some (if leaves_hole es e.index then e ∷ run else below e.index es ++ e ∷ run)

-- the entries that a run takes away: those from its first index on, and all after a hole
abbrev pub replaced_by : List EntryIndex → List EntryIndex → List EntryIndex
replaced_by es [] = []
replaced_by es (e ∷ run) = if leaves_hole es e.index then es else from e.index es

-- the counts without some entries
abbrev pub counts_without : List EntryIndex → Counts → Counts
counts_without es counts = with_deleted Rewrite (entry_count Rewrite es) (with_deleted Append (entry_count Append es) counts)

-- the counts with the entries of a run of a queue in place of those that it takes away; one without entries changes nothing
abbrev pub counts_with_run : LogQueue → List EntryIndex → List EntryIndex → Counts → Counts
counts_with_run queue es [] counts = counts
counts_with_run queue es (e ∷ run) counts = with_added queue (length (e ∷ run)) (counts_without (replaced_by es (e ∷ run)) counts)

-- why a run with this outcome is refused: by the start rule, since the live count of its queue would pass 2^64 - 1, or for want of memory
abbrev pub IsTableRunFault : LogQueue → Counts → List EntryIndex → Option (List EntryIndex) → Error → Type 0
IsTableRunFault queue counts es None (errors.Corruption text) = Unit {0}
IsTableRunFault queue counts es None errors.Memory = Unit {0}
IsTableRunFault queue counts es (Some after) errors.Full = 2 ^ 64 + entry_count queue es ≤ live queue counts + entry_count queue after
IsTableRunFault queue counts es (Some after) errors.Memory = Unit {0}
IsTableRunFault queue counts es outcome _ = ⊥
