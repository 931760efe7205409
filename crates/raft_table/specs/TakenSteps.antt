-- What steps ask for, how they are counted, and why they are refused.
use Rattle.std.specs.Prelude.{◌≡◌, ◌<◌, List}
use Rattle.raft_base.specs.declared.entry_index.EntryIndex.{EntryIndex}
use Rattle.raft_base.specs.declared.errors.Error.{Error}
use Rattle.raft_base.specs.declared.errors.Error.TheVariants as errors
use Rattle.raft_base.specs.declared.pipe_log.LogQueue.{LogQueue}
use Rattle.raft_table.specs.Counts.{Counts, with_added}
use Rattle.raft_table.specs.KeyValues.{file_at}
use Rattle.raft_table.specs.Queues.{other}
use Rattle.raft_table.specs.Start.{entries_after_replay, counts_with_run, counts_without, IsTableRunFault}
use Rattle.raft_table.specs.Steps.{Step, Run, Compact, Truncate, Put, Del, AtomicGroup, Clean}
use Rattle.raft_table.specs.Table.{Table, live_of, with_pair_deleted, with_table_deleted, IsTablePutFault}
use Rattle.raft_table.specs.TableEntries.{IsRunIn, below, from}

-- a step as a replay into a table of this queue asks for it
abbrev pub IsStepOfQueue : LogQueue → Step → Type 0
IsStepOfQueue queue (Run run) = IsRunIn queue run
IsStepOfQueue queue (Put key value file) = file.queue ≡ queue
IsStepOfQueue queue _ = Unit {0}

-- a region has a table after the step: after any but a Clean
abbrev pub LeavesTable : Step → Type 0
LeavesTable Clean = ⊥
LeavesTable _ = Unit {0}

-- a run comes into a table that has no record of the other queue
abbrev pub IsUnmixed : LogQueue → Table → Step → Type 0
IsUnmixed queue t (Run run) = live_of (other queue) t ≡ 0
IsUnmixed queue t _ = Unit {0}

-- the counts after a step on a region's table: what the step puts is added to its queue, and what it takes away is deleted
abbrev pub counts_after_step : LogQueue → Table → Step → Counts → Counts
counts_after_step queue t (Run run) counts = counts_with_run queue t.entries run counts
counts_after_step queue t (Compact index) counts = counts_without (below index t.entries) counts
counts_after_step queue t (Truncate index) counts = counts_without (from index t.entries) counts
counts_after_step queue t (Put key value file) counts = with_added file.queue 1 (with_pair_deleted (file_at t.keys key) counts)
counts_after_step queue t (Del key) counts = with_pair_deleted (file_at t.keys key) counts
counts_after_step queue t (AtomicGroup first_seq last_seq) counts = counts
counts_after_step queue t Clean counts = with_table_deleted t counts

-- why a run that is read again is refused: its table has records of the other queue, or by the start rule
abbrev pub IsReplayFault : LogQueue → List EntryIndex → Table → Counts → Error → Type 0
IsReplayFault queue run t counts (errors.InvalidArgument text) = 0 < live_of (other queue) t
IsReplayFault queue run t counts errors.Memory = Unit {0}
IsReplayFault queue run t counts e = IsTableRunFault queue counts t.entries (entries_after_replay queue t.entries run) e

-- why a step is refused: a run or a put as its call on the table is
abbrev pub IsStepFault : LogQueue → Table → Counts → Step → Error → Type 0
IsStepFault queue t counts (Run run) e = IsReplayFault queue run t counts e
IsStepFault queue t counts (Put key value file) e = IsTablePutFault file.queue counts (file_at t.keys key) e
IsStepFault queue t counts _ e = ⊥
