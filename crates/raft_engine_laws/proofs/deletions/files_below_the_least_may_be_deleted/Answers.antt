use Rattle.raft_engine_laws.proofs.Common.{[], ◌++◌, refl}
use Rattle.raft_engine_laws.proofs.AppendDeletions.{shorter}
use Rattle.raft_engine_laws.proofs.GroupFronts.{none_across}
use Rattle.raft_engine_laws.proofs.NeededFiles.{append_needs, rewrite_needs}
use Rattle.raft_engine_laws.proofs.RewriteDeletions.{purged}
use Rattle.raft_engine_laws.proofs.deletions.files_below_the_least_may_be_deleted.Goals as goal

pub returns-clause-append : goal.returns-clause-append
returns-clause-append c = λ content n gone append rewrite tables h below low. shorter content n gone append rewrite tables h below (λ r. append_needs content (gone ++ append) rewrite [] tables h r n low)

pub returns-clause-rewrite : goal.returns-clause-rewrite
returns-clause-rewrite c = λ content n append gone rewrite tables h below low ends_none. purged content n append gone rewrite tables h
    (none_across gone rewrite ends_none) below (λ r. rewrite_needs content append (gone ++ rewrite) [] tables h r refl n low)
