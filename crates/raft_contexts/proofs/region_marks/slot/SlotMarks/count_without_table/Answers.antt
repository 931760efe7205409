use Rattle.raft_contexts.proofs.Common.{◌≡◌, ℕ, length, ap, ◌∙◌, arith, keys_of, length-map, Mark, count_absent, once-distinct}
use Rattle.std.specs.FinMap as finite
use Rattle.raft_contexts.proofs.CountLemmas.{absent_next, absent_one, absent_permuted}
use Rattle.raft_contexts.proofs.region_marks.slot.SlotMarks.count_without_table.Goals as goal

pub loop-id-preserved : goal.loop-id-preserved
loop-id-preserved c = (
  omega (arith, c.loop-id.invariant.0, ap (count_absent c.args.tables.now.tables) c.in-Some.ensures.steps ∙ absent_next c.args.tables.now.tables c.in-Some.id.now _, c.one_if_absent-count.ensures),
  omega (arith, c.loop-id.invariant.1, ap length c.in-Some.ensures.steps, c.one_if_absent-count.ensures, absent_one c.args.tables.now.tables c.in-Some.id.now),
)

pub returns-clause-value : goal.returns-clause-value
returns-clause-value c =
    let all : c.into_iter-id-iterator.result ≡ keys_of c.self.inside.marks.entries = c.into_iter-id-iterator.ensures.into_iter_gives ∙ c.keys-id-items.ensures.rest in
    omega (
      arith,
      c.loop-id.invariant.0,
      ap (count_absent c.args.tables.now.tables) c.in-None.ensures.steps.0,
      ap (count_absent c.args.tables.now.tables) all,
      absent_permuted c.args.tables.now.tables c.self.inside.marks.entries (once-distinct _ c.keys-id-items.ensures.unique),
      ap (λ m. count_absent c.args.tables.now.tables (keys_of (finite.entries m))) c.self.view_is,
    )

pub returns-clause-few : goal.returns-clause-few
returns-clause-few c =
    let all : c.into_iter-id-iterator.result ≡ keys_of c.self.inside.marks.entries = c.into_iter-id-iterator.ensures.into_iter_gives ∙ c.keys-id-items.ensures.rest in
    omega (arith, c.loop-id.invariant.1, c.self.invariant, ap length all, length-map c.self.inside.marks.entries (λ (e : ℕ × Mark). e.0))
