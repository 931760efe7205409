use Rattle.raft_contexts.proofs.Common.{sym, ap, subst, ◌∙◌, kept_of, kept_by, IsAtMost, RecoverContext}
use Rattle.raft_contexts.proofs.RecoverContextLemmas.{keeps_little}
use Rattle.raft_contexts.proofs.ReadOverlayLemmas.{nothing_kept}
use Rattle.raft_contexts.proofs.ContextShownLemmas.{reading, overlaid}
use Rattle.raft_contexts.proofs.recover_context.MemTableRecoverContext.kept.Goals as goal

pub returns-in-Reading-clause-ok : goal.returns-in-Reading-clause-ok
returns-in-Reading-clause-ok c = c.count_kept.ensures ∙ ap (λ (s : RecoverContext). kept_of s.context) (reading c.self.inside c.args.self.now c.self.view_is c.in-Reading.is)

pub returns-in-Reading-clause-little : goal.returns-in-Reading-clause-little
returns-in-Reading-clause-little c = λ queue h tables cleaned r u one.
    subst (λ x. IsAtMost x (kept_by queue h tables)) (sym (c.count_kept.ensures ∙ ap (λ (s : RecoverContext). kept_of s.context) (reading c.self.inside c.args.self.now c.self.view_is c.in-Reading.is)))
    (keeps_little queue c.args.self.now h tables cleaned r u one)

pub returns-in-Reading-clause-overlaid : goal.returns-in-Reading-clause-overlaid
returns-in-Reading-clause-overlaid c = λ h g b. nothing_kept c.args.self.now h g c.count_kept.result (c.count_kept.ensures ∙ ap (λ (s : RecoverContext). kept_of s.context) (reading c.self.inside c.args.self.now c.self.view_is c.in-Reading.is)) b

pub returns-in-Overlaid-clause-ok : goal.returns-in-Overlaid-clause-ok
returns-in-Overlaid-clause-ok c = c.count_kept_overlaid.ensures ∙ ap (λ (s : RecoverContext). kept_of s.context) (overlaid c.self.inside c.args.self.now c.self.view_is c.in-Overlaid.is)

pub returns-in-Overlaid-clause-little : goal.returns-in-Overlaid-clause-little
returns-in-Overlaid-clause-little c = λ queue h tables cleaned r u one.
    subst (λ x. IsAtMost x (kept_by queue h tables)) (sym (c.count_kept_overlaid.ensures ∙ ap (λ (s : RecoverContext). kept_of s.context) (overlaid c.self.inside c.args.self.now c.self.view_is c.in-Overlaid.is)))
    (keeps_little queue c.args.self.now h tables cleaned r u one)

pub returns-in-Overlaid-clause-overlaid : goal.returns-in-Overlaid-clause-overlaid
returns-in-Overlaid-clause-overlaid c = λ h g b. nothing_kept c.args.self.now h g c.count_kept_overlaid.result
    (c.count_kept_overlaid.ensures ∙ ap (λ (s : RecoverContext). kept_of s.context) (overlaid c.self.inside c.args.self.now c.self.view_is c.in-Overlaid.is)) b
