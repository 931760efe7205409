use Rattle.raft_engine_laws.proofs.GroupRows.{alone_apart, open_apart, open_adds, group_apart, group_steps}
use Rattle.raft_engine_laws.proofs.RewriteReadings.{plain_more}
use Rattle.raft_engine_laws.proofs.groups.effects_stay_apart_with_more_batches.Goals as goal

pub returns-clause-alone : goal.returns-clause-alone
returns-clause-alone c = alone_apart

pub returns-clause-alone_steps : goal.returns-clause-alone_steps
returns-clause-alone_steps c = λ h e plain r. plain_more r h e plain

pub returns-clause-open : goal.returns-clause-open
returns-clause-open c = open_apart

pub returns-clause-open_steps : goal.returns-clause-open_steps
returns-clause-open_steps c = open_adds

pub returns-clause-whole : goal.returns-clause-whole
returns-clause-whole c = group_apart

pub returns-clause-whole_steps : goal.returns-clause-whole_steps
returns-clause-whole_steps c = group_steps
