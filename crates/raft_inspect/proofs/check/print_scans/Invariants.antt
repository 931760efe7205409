use Rattle.raft_inspect.proofs.Common.{drop}
use Rattle.raft_inspect.proofs.PrintedLemmas.{IsPrinting}
use Rattle.raft_inspect.proofs.check.print_scans.Given as goal

abbrev pub invariant-loop-size : goal.invariant-loop-size
invariant-loop-size g l =
    IsPrinting (g.S.ReadFiles.gives l.source) l.queue l.version l.form l.sizes (drop l.size-index l.sizes) l.are_undamaged l.last (g.W.Write.contents l.fn.out) (g.W.Write.contents l.out)
