use Rattle.raft_engine_laws.proofs.QuietWrites.{taking_safe}
use Rattle.raft_engine_laws.proofs.SafeWrites.{written_safe}
use Rattle.raft_engine_laws.proofs.crashes.writing_is_safe.Goals as goal

pub returns-clause-all : goal.returns-clause-all
returns-clause-all c = λ content base appended rewritten untold tables new e h next taken. written_safe content base appended rewritten untold tables h new e next taken

pub returns-clause-taking : goal.returns-clause-taking
returns-clause-taking c = taking_safe
