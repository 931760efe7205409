use Rattle.raft_engine_laws.proofs.Common.{[], refl}
use Rattle.raft_engine_laws.proofs.NeededFiles.{append_needs, rewrite_needs}
use Rattle.raft_engine_laws.proofs.kept.kept_tables_need_no_files_below_their_least.Goals as goal

pub returns-clause-append : goal.returns-clause-append
returns-clause-append c = λ content append rewrite untold tables h n low r. append_needs content append rewrite untold tables h r n low

pub returns-clause-rewrite : goal.returns-clause-rewrite
returns-clause-rewrite c = λ content append rewrite tables h n low r. rewrite_needs content append rewrite [] tables h r refl n low
