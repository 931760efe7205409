use Rattle.raft_shared.proofs.Common.{◌++◌, [], KeepsId, folds-append}
use Rattle.raft_shared.proofs.shared_accessor.SharedAccessor.collect.Goals as goal

pub loop-slot-preserved : goal.loop-slot-preserved
loop-slot-preserved g c =
    let w = c.loop-slot.invariant in
    let p = c.in_ok-push_ids.ensures.ok in (
      w.0 ++ p.0,
      folds-append (KeepsId g.F.FnMut) (c.args.f, []) (c.loop-slot.f, c.loop-slot.ids.items) (c.push_ids.new.wanted, c.push_ids.new.ids.items) w.0 p.0 w.1 p.2,
    )
