use Rattle.raft_accessor.proofs.Common.{◌≤◌, length, ◌++◌, refl, sym, ap, subst, ◌∙◌, arith, Accessor, together, AreSlots, Makes}
use Rattle.raft_accessor.proofs.OrderLemmas.{all-met, drop-step, pushed}
use Rattle.raft_accessor.proofs.WalkLemmas.{folds-append}
use Rattle.raft_accessor.proofs.accessor.MemTableAccessor.fold.Goals as goal

pub loop-slot-preserved : goal.loop-slot-preserved
loop-slot-preserved g c =
    let w = c.loop-slot.invariant in
    let p = c.fold-answer.ensures in (
      w.0 ++ p.0,
      folds-append (Makes g.F.FnMut) (c.args.f, c.args.init) (c.loop-slot.f, c.loop-slot.answer) (c.fold-answer.new.f, c.fold-answer.result) w.0 p.0 w.1 p.2,
      pushed w.0 (w.0 ++ p.0) p.0 _ _ _ _ refl p.1 (drop-step c.deref-slot-items.result.now c.loop-slot.slot-index _ c.slot-item.result refl (omega (arith, c.loop-slot-test.true)) c.slot-item.is) w.2,
    )

pub returns : goal.returns
returns g c =
    let w = c.loop-slot.invariant in
    let slots = c.deref-slot-items.ensures.value in
    let past : length c.deref-slot-items.result.now ≤ c.loop-slot.slot-index = omega (arith, c.loop-slot-test.false) in (
      w.0,
      c.loop-slot.f,
      all-met c.deref-slot-items.result.now c.loop-slot.slot-index w.0 c.args.self.now.tables (subst (AreSlots 0) (sym slots) c.self.invariant.slots) (ap together slots ∙ ap (λ (x : Accessor). x.tables) c.self.view_is) past w.2,
      w.1,
    )
