use Rattle.raft_shared.proofs.Common.{◌≡◌, ℕ, List, ◌++◌, drop, length, HaveShares}
use Rattle.raft_shared.proofs.shared_accessor.divide_among_slots.Given as goal

-- the regions that are listed and those that are left make up the whole
abbrev pub invariant-loop-id : goal.invariant-loop-id
invariant-loop-id l = (done : List ℕ) × (done ++ drop l.id-index l.ids ≡ l.fn.core.cleaned) × HaveShares l.fn.core.tables done 0 l.slots.items × (length l.slots.items ≡ 128)
