use Rattle.raft_plain.proofs.Common.{List, [], ℕ, Some, sym, ap, subst, ◌∙◌, map, overlaid_table, region_step_shown, steps_on, Region, table_shown, tables_in, tables_shown}
use Rattle.std.specs.FinMap as finite
use Rattle.raft_plain.proofs.KeyedLemmas.{Rises, none-of, rest_rises}
use Rattle.raft_plain.proofs.overlay.overlay_regions.Invariants.{wanted}
use Rattle.raft_plain.proofs.OverlayLemmas.{AreOverlaidSoFar, overlay_begins, rewritten_next, appended_next, appended_ends}
use Rattle.raft_plain.proofs.overlay.overlay_regions.Goals as goal

pub loop-id-init : goal.loop-id-init
loop-id-init c =
    let given = c.into_iter-id-iterator.ensures.into_iter_gives in
    record {
      rises = subst (Rises table_shown) (sym given.0) given.5;
      ordered = c.requires;
      both_ordered = c.new-both.ensures.ordered;
      far = overlay_begins (map region_step_shown c.args.steps.now) _ (tables_shown c.args.appended) (tables_in c.into_iter-id-iterator.result) (tables_shown c.new-both.result)
          (none-of table_shown c.new-both.result.entries c.new-both.ensures.empty)
          (λ r. ap (λ (l : List (ℕ × Region)). overlaid_table r (steps_on r (map region_step_shown c.args.steps.now)) (finite.get (tables_shown c.args.appended) r) (finite.get (tables_in l) r)) given.0);
    }

pub loop-id-preserved : goal.loop-id-preserved
loop-id-preserved c =
    let next = c.in-Some.ensures.steps in
    record {
      rises = rest_rises table_shown _ _ _ next c.loop-id.invariant.rises;
      ordered = c.take_region-newer.ensures.ordered;
      both_ordered = c.in_ok-both.ensures.ordered;
      far = rewritten_next (map region_step_shown c.args.steps.now) _ (c.in-Some.id, c.in-Some.older) _ _ (tables_shown c.loop-id.appended) (tables_shown c.take_region-newer.result.1)
          (tables_shown c.loop-id.both) _ _ c.loop-id.invariant.rises next c.take_region-newer.ensures.others
          (c.in_ok-region.ensures ∙ ap (λ o. overlaid_table c.in-Some.id (steps_on c.in-Some.id (map region_step_shown c.args.steps.now)) o (Some (table_shown c.in-Some.id c.in-Some.older))) c.take_region-newer.ensures.own)
          c.in_ok-both.ensures.ok c.loop-id.invariant.far;
    }

pub loop-id-2-init : goal.loop-id-2-init
loop-id-2-init c =
    let given = c.into_iter-id-iterator-2.ensures.into_iter_gives in
    let ss = map region_step_shown c.args.steps.now in
    let goes = wanted ss (tables_shown c.args.appended) (tables_shown c.args.rewritten) in
    record {
      rises = subst (Rises table_shown) (sym given.0) given.5;
      both_ordered = c.loop-id.invariant.both_ordered;
      far = subst (λ l. AreOverlaidSoFar ss goes (tables_in l) (tables_in []) (tables_shown c.loop-id.both)) (sym given.0)
          (subst (λ l. AreOverlaidSoFar ss goes (tables_shown c.loop-id.appended) (tables_in l) (tables_shown c.loop-id.both)) c.in-None.ensures.steps.0 c.loop-id.invariant.far);
    }

pub loop-id-2-preserved : goal.loop-id-2-preserved
loop-id-2-preserved c =
    let next = c.in-Some-2.ensures.steps in
    record {
      rises = rest_rises table_shown _ _ _ next c.loop-id-2.invariant.rises;
      both_ordered = c.in_ok-both-2.ensures.ordered;
      far = appended_next (map region_step_shown c.args.steps.now) _ (c.in-Some-2.id, c.in-Some-2.newer) _ _ (tables_shown c.loop-id-2.both) _ _ c.loop-id-2.invariant.rises next
          c.in_ok-region-2.ensures c.in_ok-both-2.ensures.ok c.loop-id-2.invariant.far;
    }

pub returns : goal.returns
returns c = appended_ends (map region_step_shown c.args.steps.now) _ _ (tables_shown c.loop-id-2.both) c.in-None-2.ensures.steps.0 c.loop-id-2.invariant.far
