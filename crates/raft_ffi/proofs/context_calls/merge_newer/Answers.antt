use Rattle.raft_ffi.proofs.Common.{on_ok, on_err, merge_stands, merge_exact, merge_unsound, AreUnsound, StandsForBoth, StandsForBothExactly}
use Rattle.raft_ffi.proofs.context_calls.merge_newer.Goals as goal

pub returns-clause-stands : goal.returns-clause-stands
unfolding StandsForBoth
returns-clause-stands c = on_ok c.merge.result (λ t h g small a b. merge_stands c.args.queue c.args.context.now c.args.newer c.merge.new.self h g t a b) c.merge.ensures.ok

pub returns-clause-exact : goal.returns-clause-exact
unfolding StandsForBothExactly
returns-clause-exact c = on_ok c.merge.result (λ t h g small apart a b. merge_exact c.args.queue c.args.context.now c.args.newer c.merge.new.self h g apart t a b) c.merge.ensures.ok

pub returns-clause-refused : goal.returns-clause-refused
unfolding AreUnsound
returns-clause-refused c = on_err c.merge.result (λ e f ne h g small o a b. merge_unsound c.args.queue c.args.context.now c.args.newer h g small o a b e ne f) c.merge.ensures.fault
