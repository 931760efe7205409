-- Joins of two tables of one region under the newer one's region mark.
use Rattle.std.specs.Prelude.{◌≡◌, ◌+◌, ◌≤◌, ◌^◌, Bool, true, List, [], Some, None, if◌then◌else◌}
use Rattle.std.specs.FinMap as finite
use Rattle.raft_base.specs.declared.errors.Error.{Error}
use Rattle.raft_base.specs.declared.errors.Error.TheVariants as errors
use Rattle.raft_base.specs.declared.pipe_log.LogQueue.{LogQueue}
use Rattle.raft_base.specs.declared.entry_index.EntryIndex.{EntryIndex}
use Rattle.raft_base.specs.Runs.{IsRun}
use Rattle.raft_table.specs.Counts.{Counts, live}
use Rattle.raft_table.specs.Marks.{Mark, entries_within, is_refused_over, entries_over}
use Rattle.raft_table.specs.KeySets.{without}
use Rattle.raft_table.specs.Table.{Table, live_of}

-- why a newer region mark is refused: its steps are, or want of memory for the refusal's text
abbrev pub IsMarkFault : Bool → Error → Type 0
IsMarkFault refused (errors.Corruption text) = refused ≡ true
IsMarkFault refused errors.Memory = refused ≡ true
IsMarkFault refused _ = ⊥

-- why a table is refused over an older one: its steps are, the live count of a queue and its records there would pass 2^64 - 1, or want of memory
abbrev pub IsFaultUnder : LogQueue → Counts → Mark → Table → Table → Error → Type 0
IsFaultUnder queue counts m own older (errors.Corruption text) = is_refused_over queue m older.entries ≡ true
IsFaultUnder queue counts m own older errors.Full = (q : LogQueue) × (2 ^ 64 ≤ live q counts + live_of q own)
IsFaultUnder queue counts m own older errors.Memory = Unit {0}
IsFaultUnder queue counts m own older _ = ⊥

-- what the region mark makes of both tables' entries is a run, as it is where it stands for steps
abbrev pub IsRunOver : LogQueue → Mark → Table → Table → Type 0
IsRunOver queue m own older = (es : List EntryIndex) → entries_over queue m own.entries older.entries ≡ Some es → IsRun es

-- what a newer region mark leaves of an older table, or of one whose entries are all gone
abbrev pub left_by : Bool → Mark → Table → Table
left_by gone m t = record t {
  entries = if m.cleaned then [] else (if gone then [] else entries_within m.floor m.cut t.entries);
  keys = if m.cleaned then finite.empty else without m.deleted t.keys;
  atomic_group = if m.cleaned then None else t.atomic_group;
}
