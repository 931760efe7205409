use Rattle.raft_contexts.proofs.Common.{drop}
use Rattle.raft_contexts.proofs.ReadTakenLemmas.{IsMidway}
use Rattle.raft_contexts.proofs.marked_tables.MarkedTables.apply_read_batch.Given as goal

abbrev pub invariant-loop-item : goal.invariant-loop-item
invariant-loop-item l = IsMidway l.file.queue l.place l.items l.initial.rest l.fn.self (drop l.item-index l.items) l.rest l.self
