use Rattle.raft_records.proofs.Common.{◌↔◌, drop, Tile, RunOn}
use Rattle.raft_records.proofs.entry_indexes.is_contiguous.Given as goal

-- what is left to see decides
abbrev pub invariant-loop-entry : goal.invariant-loop-entry
invariant-loop-entry l = RunOn l.entries ↔ Tile l.offset (drop l.entry-index l.entries)
