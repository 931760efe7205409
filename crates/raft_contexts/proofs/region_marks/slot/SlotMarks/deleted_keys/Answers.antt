use Rattle.raft_contexts.proofs.Common.{◌≡◌, ℕ, length, map, ap, ◌∙◌, arith, length-map, total, Mark, added, total-from}
use Rattle.std.specs.FinSet as finset
use Rattle.raft_contexts.proofs.region_marks.slot.SlotMarks.deleted_keys.Goals as goal

pub returns-clause-value : goal.returns-clause-value
returns-clause-value c =
    let all : c.into_iter-mark-iterator.result ≡ map (λ e. e.1) c.self.inside.marks.entries = c.into_iter-mark-iterator.ensures.into_iter_gives ∙ c.values-mark-items.ensures.rest in
    omega (
      arith,
      c.loop-mark.invariant.0,
      ap (added (λ (m : Mark). finset.len m.deleted)) c.in-None.ensures.steps.0,
      ap (added (λ (m : Mark). finset.len m.deleted)) all,
      total-from (λ (m : Mark). finset.len m.deleted) c.self.inside.marks.entries
          c.values-mark-items.ensures.unique,
      ap (total (λ (m : Mark). finset.len m.deleted)) c.self.view_is,
    )

pub returns-clause-few : goal.returns-clause-few
returns-clause-few c =
    let all : c.into_iter-mark-iterator.result ≡ map (λ e. e.1) c.self.inside.marks.entries = c.into_iter-mark-iterator.ensures.into_iter_gives ∙ c.values-mark-items.ensures.rest in
    omega (arith, c.loop-mark.invariant.1, c.self.invariant, ap length all, length-map c.self.inside.marks.entries (λ (e : ℕ × Mark). e.1))
