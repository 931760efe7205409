use Rattle.raft_accessor.proofs.AppendCheckLemmas.{extent_table}
use Rattle.raft_accessor.proofs.append_check.Extent.of_table.Goals as goal

pub returns-in-Some-first_index : goal.returns-in-Some-first_index
returns-in-Some-first_index c = λ id.
    rw c.in-Some.is (extent_table _ c.in-Some.table.now.entries c.holds_one_run.ensures c.in-Some-first_index.ensures.1 c.end.ensures)
