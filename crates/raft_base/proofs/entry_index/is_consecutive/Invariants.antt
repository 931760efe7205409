use Rattle.std.proofs.Common.{◌↔◌, drop}
use Rattle.raft_base.specs.Runs.{IsConsecutive}
use Rattle.raft_base.proofs.ConsecutiveLemmas.{IsConsecutiveFrom}
use Rattle.raft_base.proofs.entry_index.is_consecutive.Given as goal

-- what is left to see decides
abbrev pub invariant-loop-entry : goal.invariant-loop-entry
invariant-loop-entry l = IsConsecutive l.entries ↔ IsConsecutiveFrom l.index (drop l.entry-index l.entries)
