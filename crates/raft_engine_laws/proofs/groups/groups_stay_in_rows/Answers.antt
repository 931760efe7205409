use Rattle.raft_engine_laws.proofs.InRows.{rows_alone, rows_apart, rows_begun, rows_files, rows_gone_on, rows_left}
use Rattle.raft_engine_laws.proofs.groups.groups_stay_in_rows.Goals as goal

pub returns-clause-none : goal.returns-clause-none
returns-clause-none c = tt

pub returns-clause-apart : goal.returns-clause-apart
returns-clause-apart c = rows_apart

pub returns-clause-files : goal.returns-clause-files
returns-clause-files c = rows_files

pub returns-clause-left : goal.returns-clause-left
returns-clause-left c = rows_left

pub returns-clause-alone : goal.returns-clause-alone
returns-clause-alone c = rows_alone

pub returns-clause-begun : goal.returns-clause-begun
returns-clause-begun c = rows_begun

pub returns-clause-goes_on : goal.returns-clause-goes_on
returns-clause-goes_on c = rows_gone_on
