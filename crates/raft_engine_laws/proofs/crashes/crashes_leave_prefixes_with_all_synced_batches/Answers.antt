use Rattle.raft_engine_laws.proofs.StandingPrefixes.{prefix_may_stand, stands_as_prefix}
use Rattle.raft_engine_laws.proofs.crashes.crashes_leave_prefixes_with_all_synced_batches.Goals as goal

pub returns-clause-front : goal.returns-clause-front
returns-clause-front c = prefix_may_stand

pub returns-clause-only : goal.returns-clause-only
returns-clause-only c = stands_as_prefix
