use Rattle.raft_shared.proofs.Common.{◌++◌, Makes, folds-append}
use Rattle.raft_shared.proofs.shared_accessor.SharedAccessor.fold.Goals as goal

pub loop-slot-preserved : goal.loop-slot-preserved
loop-slot-preserved g c =
    let w = c.loop-slot.invariant in
    let p = c.fold-answer.ensures in (
      w.0 ++ p.0,
      folds-append (Makes g.F.FnMut) (c.args.f, c.args.init) (c.loop-slot.f, c.loop-slot.answer) (c.fold-answer.new.f, c.fold-answer.result) w.0 p.0 w.1 p.2,
    )

pub returns : goal.returns
returns g c = (c.loop-slot.invariant.0, c.loop-slot.f, c.loop-slot.invariant.1)
