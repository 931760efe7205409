use Rattle.raft_contexts.proofs.Common.{Ok, refl, sym, IfOk-weaker, ChangesMark}
use Rattle.raft_contexts.proofs.region_marks.small_mark.SmallMark.from_changed.Goals as goal

pub returns : goal.returns
returns g c =
    IfOk-weaker c.from_mark.result _ (ChangesMark g.F.FnOnce c.args.change c.args.mark (Ok tt))
    (λ kept is. record { mark = _; shows = refl; left = _; met = rw c.in_ok-change.was at c.change.ensures; leaves = sym is }) c.from_mark.ensures
