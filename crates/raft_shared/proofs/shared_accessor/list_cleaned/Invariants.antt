use Rattle.raft_shared.proofs.Common.{◌≡◌, ◌≢◌, ℕ, ◌++◌, drop, None, AllByRecursion, slot_of}
use Rattle.std.specs.FinMap as finite
use Rattle.raft_shared.proofs.shared_accessor.list_cleaned.Given as goal

-- the regions that are listed and those that are left make up the whole, and the latter are of the slot
abbrev pub invariant-loop-id : goal.invariant-loop-id
invariant-loop-id l =
    (l.core.cleaned ++ drop l.id-index l.ids ≡ l.fn.core.cleaned ++ l.ids) × AllByRecursion (λ id. slot_of id ≡ l.number) (drop l.id-index l.ids)
    × ((id : ℕ) → finite.get l.fn.core.tables id ≡ None → finite.get l.core.tables id ≡ None) × ((id : ℕ) → slot_of id ≢ l.number → finite.get l.core.tables id ≡ finite.get l.fn.core.tables id)
