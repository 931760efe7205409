use Rattle.raft_contexts.proofs.Common.{refl, sym, ap, subst, ◌∙◌, nat_eq, IsDistinct, keys_of, err_from_is_err_and, regions_in}
use Rattle.std.specs.FinMap as finite
use Rattle.raft_contexts.proofs.JoiningLemmas.{all_joined, joining_none, region_alone, region_fault, region_step}
use Rattle.raft_contexts.proofs.PartLemmas.{all_taken, entry_parts, none_of, once_behind}
use Rattle.raft_contexts.proofs.marked_tables.MarkedTables.join_marked_slot.Goals as goal

pub loop-id-init : goal.loop-id-init
loop-id-init c =
    let gives = c.into_iter-id-iterator.ensures.into_iter_gives in (
      joining_none c.args.queue c.args.tables.now.tables (regions_in c.args.self.now) c.args.marks _ (ap (λ es. finite.from_entries es) gives ∙ c.into_entries-id-items.ensures.entries) c.requires.older c.requires.newer,
      subst (λ es. IsDistinct nat_eq (keys_of es)) (sym gives) c.into_entries-id-items.ensures.once,
      refl,
      refl,
    )

pub join_region-requires-clause-own : goal.join_region-requires-clause-own
join_region-requires-clause-own c =
    let at = c.loop-id.invariant in
    region_alone _ _ _ _ _ _ _ at.0 c.in-Some.id c.in-Some.mark _ (entry_parts _ _ _ _ c.in-Some.ensures.steps at.1) c.take-table.result c.take-table.ensures.taken.removed

pub loop-id-preserved : goal.loop-id-preserved
loop-id-preserved c =
    let at = c.loop-id.invariant in
    let is = c.in-Some.ensures.steps in (
      region_step _ _ _ _ _ _ _ at.0 c.in-Some.id c.in-Some.mark _ (entry_parts _ _ _ _ is at.1) c.take-table.result c.take-table.ensures.taken.removed
          (regions_in c.join_region.new.self) c.take-table.new.self.tables c.in_ok-join_region.ensures.ok (λ _. c.in_ok-join_region.ensures.others) c.in_ok-join_region.ensures.few c.take-table.ensures.taken.tables,
      once_behind _ _ _ _ is at.1,
      c.join_region.ensures.cleaned ∙ at.2,
      c.take-table.ensures.taken.cleaned ∙ at.3,
    )

pub returns-in_err-join_region : goal.returns-in_err-join_region
returns-in_err-join_region c =
    let at = c.loop-id.invariant in
    let p = err_from_is_err_and c.from_residual.result c.from_residual.ensures.1 in
    rw (p.1, p.2) record {
      ok = λ _. tt;
      fault = region_fault _ _ _ _ _ _ _ at.0 c.in-Some.id c.in-Some.mark _ (entry_parts _ _ _ _ c.in-Some.ensures.steps at.1) c.take-table.result c.take-table.ensures.taken.removed
          c.loop-id.self.accessor.counts _ c.join_region.ensures.exact_counts c.in_err-join_region.ensures.fault;
      left = tt;
      few = tt;
      cleaned = (c.join_region.ensures.cleaned ∙ at.2, c.take-table.ensures.taken.cleaned ∙ at.3);
    }

pub returns : goal.returns
returns c =
    let at = c.loop-id.invariant in
    let none = none_of _ c.in-None.ensures.steps.0 in
    record { ok = all_joined _ _ _ _ _ _ _ at.0 none; fault = λ _. tt; left = all_taken _ _ _ _ at.0.taken none; few = at.0.few; cleaned = (at.2, at.3) }
