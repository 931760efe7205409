use Rattle.raft_contexts.proofs.TakenAwayLemmas.{has_entry, has_pair}
use Rattle.raft_contexts.proofs.taken_away.has_records.Goals as goal

pub returns-then-entries_count-gt0 : goal.returns-then-entries_count-gt0
returns-then-entries_count-gt0 c = has_entry c.args.table.now c.entries_count.result c.entries_count.ensures c.if-entries_count-gt0.true

pub returns-else-entries_count-gt0 : goal.returns-else-entries_count-gt0
returns-else-entries_count-gt0 c = has_pair c.args.table.now c.entries_count.result c.key_count.result c.entries_count.ensures c.if-entries_count-gt0.false c.key_count.ensures
