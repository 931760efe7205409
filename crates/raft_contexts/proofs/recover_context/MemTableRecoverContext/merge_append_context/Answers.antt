use Rattle.raft_contexts.proofs.Common.{refl, err_from_is_err_and}
use Rattle.raft_contexts.proofs.ReadOverlayLemmas.{of_both}
use Rattle.raft_contexts.proofs.ContextShownLemmas.{append_taken, append_refused}
use Rattle.raft_contexts.proofs.recover_context.MemTableRecoverContext.merge_append_context.Goals as goal

pub returns-clause-ok : goal.returns-clause-ok
returns-clause-ok c = append_taken c.self.inside c.append.inside c.args.append c.args.self.now _ c.self.view_is c.in_ok-begin.ensures.ok.0 c.append.view_is c.in_ok-begin-2.ensures.ok.0
    c.in_ok-overlay.ensures.queues c.in_ok-overlay.ensures.tables c.in_ok-overlay.ensures.overlaid refl

pub returns-clause-exact : goal.returns-clause-exact
returns-clause-exact c = λ h g a b. of_both c.args.self.now c.args.append _ h g
    (append_taken c.self.inside c.append.inside c.args.append c.args.self.now _ c.self.view_is c.in_ok-begin.ensures.ok.0 c.append.view_is c.in_ok-begin-2.ensures.ok.0
    c.in_ok-overlay.ensures.queues c.in_ok-overlay.ensures.tables c.in_ok-overlay.ensures.overlaid refl) a b

pub returns-in_err-overlay-clause-fault : goal.returns-in_err-overlay-clause-fault
returns-in_err-overlay-clause-fault c =
    let p = err_from_is_err_and c.from_residual-in_err-overlay.result c.from_residual-in_err-overlay.ensures.1 in
    rw (p.1, p.2) (append_refused c.self.inside c.append.inside c.args.self.now c.args.append _ c.self.view_is c.in_ok-begin.ensures.ok.0 c.append.view_is c.in_ok-begin-2.ensures.ok.0 c.in_err-overlay.ensures.fault)
