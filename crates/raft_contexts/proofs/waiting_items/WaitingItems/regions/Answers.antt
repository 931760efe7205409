use Rattle.raft_contexts.proofs.Common.{◌==◌, ◌||◌, sym, ap, ◌∙◌, list_any, drop_of_length-le, names, or-false}
use Rattle.raft_contexts.proofs.WaitingItemLemmas.{are_on, steps_named}
use Rattle.raft_contexts.proofs.waiting_items.WaitingItems.regions.Goals as goal

pub returns : goal.returns
returns c = λ r.
    let any = list_any (λ id. r == id) c.loop-step.ids.items in
    sym (ap (λ l. any || are_on r l) (drop_of_length-le c.deref-step-items.result.now c.loop-step-test.false) ∙ or-false any)
    ∙ c.loop-step.invariant r ∙ ap (are_on r) c.deref-step-items.ensures.value ∙ steps_named r c.self.inside.steps.items ∙ ap (names r) c.self.view_is
