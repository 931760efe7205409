use Rattle.raft_table.proofs.Facts.{filter, length, map, CalledAtTwo, option_copied, is_between, VisitsUntilFalse}
use Rattle.raft_table.proofs.memtable.key_values.scan.visit_forward.Given as goal

abbrev pub invariant-loop-key : goal.invariant-loop-key
invariant-loop-key g l =
    goal.F-IsAlwaysCallable g l.f
    × ((last : _) → VisitsUntilFalse (CalledAtTwo g.F.FnMut) l.f
    (map (λ e. (e.0.items, e.1.value.items)) (filter (λ e. is_between (option_copied l.start) (option_copied l.end) e.0.items) l.pairs)) last →
    VisitsUntilFalse (CalledAtTwo g.F.FnMut) l.fn.f
    (map (λ e. (e.0.items, e.1.value.items)) (filter (λ e. is_between (option_copied l.start) (option_copied l.end) e.0.items) l.initial.pairs))
    last)

abbrev pub decreases-loop-key : goal.decreases-loop-key
decreases-loop-key g l = length l.pairs
