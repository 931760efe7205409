use Rattle.raft_accessor.proofs.Common.{◌≤◌, length, ◌++◌, [], map, refl, sym, ap, subst, ◌∙◌, arith, Accessor, together, AreSlots, Collects}
use Rattle.raft_accessor.proofs.OrderLemmas.{all-met, drop-step, pushed}
use Rattle.raft_accessor.proofs.WalkLemmas.{folds-append}
use Rattle.raft_accessor.proofs.accessor.MemTableAccessor.collect.Goals as goal

pub loop-slot-preserved : goal.loop-slot-preserved
loop-slot-preserved g c =
    let w = c.loop-slot.invariant in
    let p = c.in_ok-push_matching.ensures.ok in (
      c.in_ok-push_matching.ensures.callable,
      w.1 ++ p.0,
      folds-append (Collects g.F.FnMut) (c.args.f, []) (c.loop-slot.f, map (λ t. t.now) c.loop-slot.kept.items) (c.push_matching.new.f, map (λ t. t.now) c.push_matching.new.tables.items) w.1 p.0 w.2 p.2,
      pushed w.1 (w.1 ++ p.0) p.0 _ _ _ _ refl p.1 (drop-step c.deref-slot-items.result.now c.loop-slot.slot-index _ c.slot-item.result refl (omega (arith, c.loop-slot-test.true)) c.slot-item.is) w.3,
    )

pub returns-clause-ok : goal.returns-clause-ok
returns-clause-ok g c =
    let w = c.loop-slot.invariant in
    let slots = c.deref-slot-items.ensures.value in
    let past : length c.deref-slot-items.result.now ≤ c.loop-slot.slot-index = omega (arith, c.loop-slot-test.false) in (
      w.1,
      c.loop-slot.f,
      all-met c.deref-slot-items.result.now c.loop-slot.slot-index w.1 c.args.self.now.tables (subst (AreSlots 0) (sym slots) c.self.invariant.slots) (ap together slots ∙ ap (λ (x : Accessor). x.tables) c.self.view_is) past w.3,
      w.2,
    )
