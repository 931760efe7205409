use Rattle.raft_records.proofs.Common.{◌↔◌, drop, map, IsConsecutive, IsConsecutiveFrom, entry_with_index}
use Rattle.raft_records.proofs.log_batch.entries.have_consecutive_indexes.Given as goal

-- what is left to see decides
abbrev pub invariant-loop-entry : goal.invariant-loop-entry
invariant-loop-entry g l =
    IsConsecutive (map (λ e. entry_with_index (g.M.MessageExt.index_of e)) l.entries)
    ↔ IsConsecutiveFrom l.index (map (λ e. entry_with_index (g.M.MessageExt.index_of e)) (drop l.entry-index l.entries))
