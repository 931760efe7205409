use Rattle.raft_table.proofs.Facts.{appended_stands, replayed_stands, rewritten_stands, entry_with_index-below, entry_with_index-from}
use Rattle.raft_table.proofs.memtable.change.entries_stand_by_index.Goals as goal

pub returns-clause-appended : goal.returns-clause-appended
returns-clause-appended c = appended_stands

pub returns-clause-replayed : goal.returns-clause-replayed
returns-clause-replayed c = replayed_stands

pub returns-clause-rewritten : goal.returns-clause-rewritten
returns-clause-rewritten c = rewritten_stands

pub returns-clause-compacted : goal.returns-clause-compacted
returns-clause-compacted c = λ index i es. entry_with_index-from i index es

pub returns-clause-truncated : goal.returns-clause-truncated
returns-clause-truncated c = λ index i es. entry_with_index-below i index es
