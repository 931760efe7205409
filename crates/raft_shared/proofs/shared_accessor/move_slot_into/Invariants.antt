use Rattle.std.proofs.Common.{◌≡◌, ℕ, ◌++◌, drop}
use Rattle.raft_shared.proofs.SharedLemmas.{HasOnly, either}
use Rattle.raft_shared.proofs.shared_accessor.move_slot_into.Given as goal

abbrev pub invariant-loop-id : goal.invariant-loop-id
invariant-loop-id l =
    (l.core.cleaned ≡ l.fn.core.cleaned ++ l.fn.slot.content.cleaned) × HasOnly (drop l.id-index l.id-items) l.slot.content.tables
    × ((q : ℕ) → either l.slot.content.tables l.core.tables q ≡ either l.initial.slot.content.tables l.initial.core.tables q)
