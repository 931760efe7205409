use Rattle.raft_engine_laws.proofs.SafeDeletions.{append_deleted, rewrite_deleted}
use Rattle.raft_engine_laws.proofs.crashes.deleting_is_safe.Goals as goal

pub returns-clause-append : goal.returns-clause-append
returns-clause-append c = append_deleted

pub returns-clause-rewrite : goal.returns-clause-rewrite
returns-clause-rewrite c = rewrite_deleted
