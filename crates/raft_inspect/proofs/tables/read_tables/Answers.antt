use Rattle.raft_inspect.proofs.Common.{on_passed}
use Rattle.raft_inspect.proofs.OpeningLemmas.{tables_so}
use Rattle.raft_inspect.proofs.tables.read_tables.Goals as goal

pub returns-clause-ok : goal.returns-clause-ok
returns-clause-ok g c =
    let sizes = c.args.sizes.now in
    tables_so (g.S.ReadFiles.gives c.args.source.now) (g.S.ReadFiles.may_fail c.args.source.now) c.args.version sizes.append.items sizes.rewrite.items c.in_ok-reading.reading c.in_ok-reading.ensures.ok

pub returns-in_err-reading-clause-refused : goal.returns-in_err-reading-clause-refused
returns-in_err-reading-clause-refused g c = on_passed _ _ c.from_residual.ensures.1 c.in_err-reading.ensures.refused
