use Rattle.raft_shared.proofs.Common.{◌≡◌, [], length, HaveShares}
use Rattle.raft_shared.proofs.SharedLemmas.{AreLeft}
use Rattle.raft_shared.proofs.shared_accessor.divide_tables.Given as goal

abbrev pub invariant-loop-number : goal.invariant-loop-number
invariant-loop-number l =
    HaveShares l.fn.core.tables [] 0 l.slots.items × (length l.slots.items ≡ l.number) × AreLeft l.number l.fn.core.tables l.core.tables × (l.core.cleaned ≡ l.fn.core.cleaned)
