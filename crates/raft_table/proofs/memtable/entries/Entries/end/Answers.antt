use Rattle.raft_table.proofs.Facts.{ap, sym, ◌∙◌, arith, end_of, end_bounded, end_of-nil}
use Rattle.raft_table.proofs.memtable.entries.Entries.end.Goals as goal

pub overflow_add-result : goal.overflow_add-result
overflow_add-result c = omega (arith, c.in-Some.ensures, end_bounded c.args.self.now c.holds_one_run.ensures.consecutive.bounded)

pub returns-in-None : goal.returns-in-None
returns-in-None c = sym (ap end_of c.in-None.ensures ∙ end_of-nil)
