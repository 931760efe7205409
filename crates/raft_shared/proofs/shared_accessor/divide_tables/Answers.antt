use Rattle.raft_shared.proofs.Common.{◌∷◌, [], length, sym, ap, subst, ◌∙◌, arith, length-append, HasShare, HaveShares}
use Rattle.raft_shared.proofs.SharedLemmas.{shares-more, share-taken, left-taken}
use Rattle.raft_shared.proofs.shared_accessor.divide_tables.Goals as goal

pub loop-number-preserved : goal.loop-number-preserved
loop-number-preserved c =
    let m = c.args.core.now.tables in
    let at = c.loop-number.invariant in
    let i = c.loop-number.number in
    let taken = c.take_tables.ensures in
    let share = share-taken m i c.new-slot.result c.take_tables.new.self c.loop-number.core c.take_tables.new.core c.new-slot.ensures.number c.new-slot.ensures.cleaned taken at.2 in (
      subst (HaveShares m [] 0) (sym c.in_ok-push.ensures.items) (shares-more m [] 0 c.loop-number.slots.items c.take_tables.new.self at.0 (subst (λ n. HasShare m [] n c.take_tables.new.self) (omega (arith, at.1)) share)),
      ap length c.in_ok-push.ensures.items ∙ length-append c.loop-number.slots.items (c.take_tables.new.self ∷ []) ∙ omega (arith, at.1),
      left-taken m i c.new-slot.result c.take_tables.new.self c.loop-number.core c.take_tables.new.core c.new-slot.ensures.number taken at.2,
      taken.rest_cleaned ∙ at.3,
    )
