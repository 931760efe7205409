use Rattle.raft_engine_laws.proofs.SafeWrites.{append_synced, rewrite_synced}
use Rattle.raft_engine_laws.proofs.crashes.syncing_is_safe.Goals as goal

pub returns-clause-append : goal.returns-clause-append
returns-clause-append c = append_synced

pub returns-clause-rewrite : goal.returns-clause-rewrite
returns-clause-rewrite c = rewrite_synced
