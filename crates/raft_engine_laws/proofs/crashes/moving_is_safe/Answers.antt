use Rattle.raft_engine_laws.proofs.SafeGroups.{again_safe, group_safe}
use Rattle.raft_engine_laws.proofs.SafeRewrites.{moved_safe, moving_safe}
use Rattle.raft_engine_laws.proofs.crashes.moving_is_safe.Goals as goal

pub returns-clause-records : goal.returns-clause-records
returns-clause-records c = moved_safe

pub returns-clause-items : goal.returns-clause-items
returns-clause-items c = moving_safe

pub returns-clause-again : goal.returns-clause-again
returns-clause-again c = again_safe

pub returns-clause-group : goal.returns-clause-group
returns-clause-group c = λ content base appended rewritten tables new e h next synced earlier middles g begin all group in_file moves is. group_safe
    content base appended rewritten tables new e h next synced earlier middles g begin all group in_file moves is
