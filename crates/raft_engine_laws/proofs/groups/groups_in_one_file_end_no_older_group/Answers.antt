use Rattle.raft_engine_laws.proofs.GroupFronts.{ends_none-none, ends_none-alone, ends_none-open, ends_none-group, ends_none-append}
use Rattle.raft_engine_laws.proofs.groups.groups_in_one_file_end_no_older_group.Goals as goal

pub returns-clause-none : goal.returns-clause-none
returns-clause-none c = ends_none-none

pub returns-clause-alone : goal.returns-clause-alone
returns-clause-alone c = ends_none-alone

pub returns-clause-open : goal.returns-clause-open
returns-clause-open c = ends_none-open

pub returns-clause-whole : goal.returns-clause-whole
returns-clause-whole c = ends_none-group

pub returns-clause-both : goal.returns-clause-both
returns-clause-both c = ends_none-append
