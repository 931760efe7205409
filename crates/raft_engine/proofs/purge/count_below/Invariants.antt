use Rattle.raft_engine.proofs.Common.{◌≡◌, ◌+◌, drop, front_below}
use Rattle.raft_engine.proofs.purge.count_below.Given as goal

-- all so far are below, and those that are left decide
abbrev pub invariant-loop-seq : goal.invariant-loop-seq
invariant-loop-seq l = (l.count ≡ l.seq-index) × (l.count + front_below l.least (drop l.seq-index l.seqs) ≡ front_below l.least l.seqs)
