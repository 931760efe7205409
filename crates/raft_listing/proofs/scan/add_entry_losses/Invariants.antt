use Rattle.raft_listing.proofs.Common.{drop}
use Rattle.raft_listing.proofs.LossLemmas.{AreSaying}
use Rattle.raft_listing.proofs.scan.add_entry_losses.Given as goal

abbrev pub invariant-loop-entry : goal.invariant-loop-entry
invariant-loop-entry l = AreSaying l.part l.offset l.region l.entries l.fn.damages.items l.stretch (drop l.entry-index l.entries) l.damages.items
