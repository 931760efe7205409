-- Merges of two tables of one region.
use Rattle.std.specs.Prelude.{◌≡◌, ℕ, ◌+◌, ◌-◌, ◌≤◌, ◌^◌, Bool, ◌||◌, Option, Some, None, nat_lt, nat_le, is_some, option_map, if◌then◌else◌}
use Rattle.raft_base.specs.declared.errors.Error.{Error}
use Rattle.raft_base.specs.declared.errors.Error.TheVariants as errors
use Rattle.raft_base.specs.declared.pipe_log.LogQueue.{LogQueue}
use Rattle.raft_base.specs.declared.pipe_log.LogQueue.TheVariants.{Append, Rewrite}
use Rattle.raft_table.specs.Counts.{Counts, live, with_added, with_deleted}
use Rattle.raft_table.specs.KeyValues.{Keys, pairs_over, pair_count}
use Rattle.raft_table.specs.Start.{entries_after_replay, counts_with_run}
use Rattle.raft_table.specs.Table.{Table, live_of}

-- a table with the run of a newer one, by the start rule of the replays into a queue, and its pairs over the own ones; none where that rule refuses the run
abbrev pub after_merge : LogQueue → Table → Table → Option Table
after_merge rule older newer = option_map (λ es. record older { entries = es; keys = pairs_over newer.keys older.keys }) (entries_after_replay rule older.entries newer.entries)

-- the newer of two atomic groups, if there is one
abbrev pub newer_atomic_group : Option (ℕ × ℕ) → Option (ℕ × ℕ) → Option (ℕ × ℕ)
newer_atomic_group None older = older
newer_atomic_group (Some atomic_group) older = Some atomic_group

-- a table with the atomic group of a newer one, if that has one
abbrev pub with_newer_atomic_group : Table → Table → Table
with_newer_atomic_group newer t = record t { atomic_group = newer_atomic_group newer.atomic_group t.atomic_group }

-- whether one of two tables has records in a queue
abbrev pub has_records : LogQueue → Table → Table → Bool
has_records queue a b = nat_lt 0 (live_of queue a) || nat_lt 0 (live_of queue b)

-- the one queue of two tables' records, the append queue where they have none; none where they are in both
abbrev pub joint_queue : Table → Table → Option LogQueue
joint_queue a b = if has_records Rewrite a b then (if has_records Append a b then None else Some Rewrite) else Some Append

-- a table after the merge with its newer neighbor in a queue, if they have one
abbrev pub after_newer : Table → Table → Option LogQueue → Option Table
after_newer older newer None = None
after_newer older newer (Some queue) = option_map (with_newer_atomic_group newer) (after_merge queue older newer)

-- the start rule by which an append table joins a rewritten one: a hole drops all entries; none unless the first is rewritten alone, and the second appended alone and without an atomic group
abbrev pub append_rule : Table → Table → Option LogQueue
append_rule older newer = if nat_lt 0 (live_of Append older) || nat_lt 0 (live_of Rewrite newer) || is_some newer.atomic_group then None else Some Rewrite

-- a table after the merge with an append table, where that may join it
abbrev pub after_appended : Table → Table → Option LogQueue → Option Table
after_appended older newer None = None
after_appended older newer (Some rule) = after_merge rule older newer

-- the counts with so many records of a queue in place of others
abbrev pub counts_with_others : LogQueue → ℕ → ℕ → Counts → Counts
counts_with_others queue before after counts = if nat_le after before then with_deleted queue (before - after) counts else with_added queue (after - before) counts

-- the counts with pairs in place of others
abbrev pub counts_with_keys : Keys → Keys → Counts → Counts
counts_with_keys before after counts =
    counts_with_others Rewrite (pair_count Rewrite before) (pair_count Rewrite after) (counts_with_others Append (pair_count Append before) (pair_count Append after) counts)

-- the counts after a merge of a newer table's records, which are in one queue
abbrev pub counts_after_merge : Option LogQueue → Table → Table → Counts → Counts
counts_after_merge None older newer counts = counts
counts_after_merge (Some queue) older newer counts =
    counts_with_keys older.keys (pairs_over newer.keys older.keys) (counts_with_run queue older.entries newer.entries counts)

-- why a merge by this start rule is refused: there is none, it refuses the run, the live count of a queue and the newer records there would pass 2^64 - 1, or want of memory
abbrev pub IsTableMergeFault : Counts → Table → Table → Option LogQueue → Error → Type 0
IsTableMergeFault counts older newer None (errors.InvalidArgument text) = Unit {0}
IsTableMergeFault counts older newer None errors.Memory = Unit {0}
IsTableMergeFault counts older newer (Some rule) (errors.Corruption text) = after_merge rule older newer ≡ None
IsTableMergeFault counts older newer (Some rule) errors.Full = (q : LogQueue) × (2 ^ 64 ≤ live q counts + live_of q newer)
IsTableMergeFault counts older newer (Some rule) errors.Memory = Unit {0}
IsTableMergeFault counts older newer rule _ = ⊥
