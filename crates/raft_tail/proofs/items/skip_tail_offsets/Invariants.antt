use Rattle.raft_tail.proofs.PassingLemmas.{AreTailsSoFar}
use Rattle.raft_tail.proofs.items.skip_tail_offsets.Given as goal

-- one tail offset for each turn, and behind them come the index and the offset
abbrev pub invariant-loop : goal.invariant-loop
invariant-loop l = AreTailsSoFar l.first l.start l.bytes l.rest l.index l.offset l.counter
