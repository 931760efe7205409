use Rattle.raft_ffi.proofs.Common.{List, Result, Ok, Err, OnOk, Error, Event, RecoverContext, HasReadExactly, IsOfBothExactly, IsOverlaidExactly}
use Rattle.raft_ffi.proofs.context_calls.overlay_append.Goals as goal

overlaid : {R : Type 0} (r : Result R Error) (append old new : RecoverContext)
    → ((rewrite appended : List Event) → HasReadExactly old rewrite → HasReadExactly append appended → OnOk r (IsOfBothExactly new rewrite appended))
    → OnOk r (IsOverlaidExactly append old new)
unfolding IsOverlaidExactly
overlaid (Ok x) append old new exact = exact
overlaid (Err e) append old new exact = tt

pub returns-clause-exact : goal.returns-clause-exact
returns-clause-exact c = overlaid c.merge_append_context.result c.args.append c.args.context.now c.merge_append_context.new.self c.merge_append_context.ensures.exact

pub returns-clause-memory : goal.returns-clause-memory
returns-clause-memory c = λ two. c.merge_append_context.ensures.memory two.rewritten two.appended two.small.0 two.small.1 two.queues.0 two.queues.1 two.read.0 two.read.1
