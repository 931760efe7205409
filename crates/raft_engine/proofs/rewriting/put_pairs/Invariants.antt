use Rattle.raft_engine.proofs.Common.{pairs_shown}
use Rattle.raft_engine.proofs.PutLemmas.{ArePutSo}
use Rattle.raft_engine.proofs.rewriting.put_pairs.Given as goal

abbrev pub invariant-loop-key : goal.invariant-loop-key
invariant-loop-key l = ArePutSo l.fn.batch l.batch l.region (pairs_shown l.fn.pairs.items) (pairs_shown l.key-iterator.rest.items)
