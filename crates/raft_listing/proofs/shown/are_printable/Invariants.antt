use Rattle.raft_listing.proofs.Common.{◌↔◌, drop, AllByRecursion, IsPrintable}
use Rattle.raft_listing.proofs.shown.are_printable.Given as goal

-- where those that are left are printable all are, and the other way round
abbrev pub invariant-loop-byte : goal.invariant-loop-byte
invariant-loop-byte l = AllByRecursion IsPrintable (drop l.byte-index l.bytes) ↔ AllByRecursion IsPrintable l.bytes
