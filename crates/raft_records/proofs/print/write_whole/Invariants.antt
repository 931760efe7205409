use Rattle.raft_records.proofs.PrintLemmas.{IsHalfWritten}
use Rattle.raft_records.proofs.print.write_whole.Given as goal

-- what was written and what is left make up the whole
abbrev pub invariant-loop : goal.invariant-loop
invariant-loop g l = IsHalfWritten (g.W.Write.contents l.fn.writer) (g.W.Write.contents l.writer) l.fn.bytes l.rest
