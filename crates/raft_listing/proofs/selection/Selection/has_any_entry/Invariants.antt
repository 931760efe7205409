use Rattle.raft_listing.proofs.Common.{◌≡◌, drop, has_one}
use Rattle.raft_listing.proofs.selection.Selection.has_any_entry.Given as goal

-- one of those that are left, where one of all is
abbrev pub invariant-loop-entry : goal.invariant-loop-entry
invariant-loop-entry l = has_one l.self (drop l.entry-index l.entries) ≡ has_one l.self l.entries
