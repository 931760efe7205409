use Rattle.raft_table.proofs.Facts.{◌≡◌, ◌+◌, ◌≤◌, LogQueue, pairs_over, pair_count, IsFrontPut}
use Rattle.std.specs.FinMap as finite
use Rattle.raft_table.proofs.memtable.key_values.KeyValues.absorb.Given as goal

abbrev pub invariant-loop-key : goal.invariant-loop-key
invariant-loop-key l =
    (pairs_over l.rhs l.self ≡ pairs_over l.initial.rhs l.initial.self)
    × ((q : LogQueue) → pair_count q l.self + pair_count q l.rhs ≤ pair_count q l.initial.self + pair_count q l.initial.rhs)
    × IsFrontPut l.initial.rhs l.initial.self l.self l.rhs

abbrev pub decreases-loop-key : goal.decreases-loop-key
decreases-loop-key l = finite.len l.rhs
