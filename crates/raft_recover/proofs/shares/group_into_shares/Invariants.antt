use Rattle.raft_recover.proofs.ShareLemmas.{AreShared}
use Rattle.raft_recover.proofs.shares.group_into_shares.Given as goal

abbrev pub invariant-loop-part : goal.invariant-loop-part
invariant-loop-part l = AreShared l.count l.fn.parts.items l.part-iterator.rest.items l.last.items l.shares.items
