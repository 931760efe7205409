-- A run as a table is given it, as the entries that it is.
use Rattle.std.specs.Prelude.{List}
use Rattle.raft_base.specs.declared.entry_index.EntryIndex.{EntryIndex}
use Rattle.raft_base.specs.Runs.{entries_of_block}
use Rattle.raft_table.specs.declared.memtable.run.Run.{Run}
use Rattle.raft_table.specs.declared.memtable.run.Run.TheVariants as runs

-- a run by its cases
abbrev pub run_shown : Run → List EntryIndex
run_shown (runs.Entries run) = run.now
run_shown (runs.Block first handle spans) = entries_of_block first handle spans.now
