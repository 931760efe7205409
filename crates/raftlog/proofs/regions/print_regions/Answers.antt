use Rattle.std.proofs.Common.{inl}
use Rattle.std.proofs.lemmas.Result.{on_err_weaker, on_ok_weaker}
use Rattle.raft_inspect.proofs.PrintedLemmas.{keeps_same}
use Rattle.raftlog.proofs.RegionLemmas.{on_any_error, tables_cut}
use Rattle.raftlog.proofs.regions.print_regions.Goals as goal

-- the tables that were read are those that were printed
pub returns-clause-printed : goal.returns-clause-printed
returns-clause-printed g c = on_ok_weaker c.print_all_regions.result (λ written. record { tables = c.in_ok-tables.tables; read = c.in_ok-tables.ensures.ok; written = written }) c.print_all_regions.ensures.printed

pub returns-clause-cut_short : goal.returns-clause-cut_short
returns-clause-cut_short g c = on_err_weaker c.print_all_regions.result (tables_cut c.in_ok-tables.tables c.in_ok-tables.ensures.ok) c.print_all_regions.ensures.cut_short

pub returns-in_err-tables-clause-cut_short : goal.returns-in_err-tables-clause-cut_short
returns-in_err-tables-clause-cut_short g c = on_any_error _ (inl (keeps_same _))
