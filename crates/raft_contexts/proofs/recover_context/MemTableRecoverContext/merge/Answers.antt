use Rattle.raft_contexts.proofs.Common.{refl, err_from_is_err_and}
use Rattle.raft_contexts.proofs.ContextShownLemmas.{neighbor_taken, neighbor_refused}
use Rattle.raft_contexts.proofs.recover_context.MemTableRecoverContext.merge.Goals as goal

pub returns-in_err-merge-clause-fault : goal.returns-in_err-merge-clause-fault
returns-in_err-merge-clause-fault c =
    let p = err_from_is_err_and c.from_residual-in_err-merge.result c.from_residual-in_err-merge.ensures.1 in
    rw (p.1, p.2) (neighbor_refused c.args.queue c.self.inside c.rhs.inside c.args.self.now c.args.rhs _ c.self.view_is c.in_ok-begin.ensures.ok.0 c.rhs.view_is c.in_ok-begin-2.ensures.ok.0 c.in_err-merge.ensures.fault)

pub returns-clause-ok : goal.returns-clause-ok
returns-clause-ok c = neighbor_taken c.args.queue c.self.inside c.rhs.inside c.args.rhs c.args.self.now _ c.self.view_is c.in_ok-begin.ensures.ok.0 c.rhs.view_is c.in_ok-begin-2.ensures.ok.0
    c.in_ok-merge.ensures.neighbors c.in_ok-merge.ensures.regions c.in_ok-merge.ensures.merged refl
