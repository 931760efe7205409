use Rattle.raft_engine.proofs.Common.{map, subst, sym, IsLeastNeeded}
use Rattle.raft_engine.proofs.NeededLemmas.{least_needed}
use Rattle.raft_engine.proofs.purge.least_needed_file.Goals as goal

pub returns-clause-ok : goal.returns-clause-ok
returns-clause-ok c =
    let tables = map (λ t. t.now) c.in_ok-tables.tables.items in
    let is = rw (c.as_slice.ensures.value) at c.least_file_among.ensures in
    subst (IsLeastNeeded c.args.queue c.args.accessor.now.tables c.args.last) (sym is) (least_needed c.args.queue c.args.accessor.now.tables c.args.last tables c.in_ok-tables.ensures.tables)
