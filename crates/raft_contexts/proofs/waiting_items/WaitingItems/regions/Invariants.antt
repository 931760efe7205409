use Rattle.raft_contexts.proofs.Common.{◌≡◌, ℕ, ◌==◌, ◌||◌, drop, list_any}
use Rattle.raft_contexts.proofs.WaitingItemLemmas.{are_on}
use Rattle.raft_contexts.proofs.waiting_items.WaitingItems.regions.Given as goal

abbrev pub invariant-loop-step : goal.invariant-loop-step
invariant-loop-step l = (r : ℕ) → (list_any (λ i. r == i) l.ids.items || are_on r (drop l.step-index l.step-items)) ≡ are_on r l.step-items
