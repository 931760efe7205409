use Rattle.raft_engine.proofs.Common.{err_from_is_err_and, ◌≡◌, true, false, inl, inr, subst, ap, ◌∙◌, List, Rewrite, Ask, KeptEngine, IsRewriteRotated, IsRewriteRotationRefusal, refl, next_asks, IsHalfRotated}
use Rattle.raft_engine.proofs.BrokenLemmas.{broken_kept}
use Rattle.raft_engine.proofs.KeptLemmas.{rotated_ever}
use Rattle.raft_engine.proofs.RotatedRewrites.{is_rotated, kept_rotated, last_rewrite, refusal, rewrites_listed}
use Rattle.raft_engine.proofs.engine.Engine.rotate_rewrite.Goals as goal

pub invariant_of-self : goal.invariant_of-self
invariant_of-self g c =
    let e = c.self.inside in
    rewrites_listed e.version (g.F.EngineFiles.asked e.files) e.append e.rewrite e.untold e.accessor e.intact c.self.invariant
    c.close_last.new.self c.in_err-close_last.ensures.err c.close_last.ensures.seq c.close_last.ensures.len

pub invariant_of-self-in_err-begin_next : goal.invariant_of-self-in_err-begin_next
invariant_of-self-in_err-begin_next g c =
    let e = c.self.inside in
    let old : List Ask = g.F.EngineFiles.asked e.files in
    let new : List Ask = g.F.EngineFiles.asked c.begin_next.new.files in
    let intact : e.intact ≡ true = ap (λ (o : KeptEngine). o.intact) c.self.view_is ∙ c.requires in
    let last = last_rewrite e.version old e.append e.rewrite e.untold e.accessor e.intact c.self.invariant intact in
    broken_kept c.asks_are_stored.ensures.unsynced e.version new e.append c.begin_next.new.self e.untold e.accessor (g.F.EngineFiles.may_fail) (next_asks Rewrite e.rewrite.seq) old c.in_err-begin_next.field-0.0
    (rotated_ever e.version old e.append e.rewrite e.untold e.accessor e.intact c.self.invariant c.asks_are_stored.ensures.synced c.asks_are_stored.ensures.begun intact Rewrite e.rewrite.seq _ last)
    (rw (c.close_last.ensures.seq) at c.in_err-begin_next.ensures.fault)

pub invariant_of-self-2 : goal.invariant_of-self-2
invariant_of-self-2 g c =
    let e = c.self.inside in
    let intact : e.intact ≡ true = ap (λ (o : KeptEngine). o.intact) c.self.view_is ∙ c.requires in
    kept_rotated e.version (g.F.EngineFiles.asked e.files) e.append e.rewrite e.untold e.accessor e.intact c.self.invariant intact
    (g.F.EngineFiles.asked c.begin_next.new.files) (rw (c.close_last.ensures.seq) at c.in_ok-begin_next.ensures.ok)
    c.asks_are_stored.ensures.synced c.asks_are_stored.ensures.begun c.begin_next.new.self
    (rw (c.begin_next.ensures.closed) c.in_ok-close_last.ensures.ok) (rw (c.close_last.ensures.seq) at c.in_ok-begin_next.ensures.seq) c.in_ok-begin_next.ensures.len

pub returns-clause-ok : goal.returns-clause-ok
returns-clause-ok g c =
    let e = c.self.inside in
    let new : List Ask = g.F.EngineFiles.asked c.begin_next.new.files in
    let intact : e.intact ≡ true = ap (λ (o : KeptEngine). o.intact) c.self.view_is ∙ c.requires in
    subst (λ (o : KeptEngine). IsRewriteRotated o (record { version = e.version; asks = new; untold = e.untold; accessor = e.accessor; intact = true })) c.self.view_is
    (is_rotated e.version (g.F.EngineFiles.asked e.files) e.append e.rewrite e.untold e.accessor e.intact c.self.invariant intact new (rw (c.close_last.ensures.seq) at c.in_ok-begin_next.ensures.ok))

pub returns-in_err-close_last-clause-err : goal.returns-in_err-close_last-clause-err
returns-in_err-close_last-clause-err g c =
    let e = c.self.inside in
    let intact : e.intact ≡ true = ap (λ (o : KeptEngine). o.intact) c.self.view_is ∙ c.requires in
    let p = err_from_is_err_and c.from_residual.result c.from_residual.ensures.1 in
    rw (p.1, p.2)
    (inl (
      c.self.view_is,
      subst (λ (o : KeptEngine). IsRewriteRotationRefusal o c.in_err-close_last.field-0.0) c.self.view_is
          (refusal e.version (g.F.EngineFiles.asked e.files) e.append e.rewrite e.untold e.accessor e.intact c.self.invariant intact _ c.in_err-close_last.ensures.fault),
    ))

pub returns-in_err-begin_next-clause-err : goal.returns-in_err-begin_next-clause-err
returns-in_err-begin_next-clause-err g c =
    let e = c.self.inside in
    let old : List Ask = g.F.EngineFiles.asked e.files in
    let new : List Ask = g.F.EngineFiles.asked c.begin_next.new.files in
    let intact : e.intact ≡ true = ap (λ (o : KeptEngine). o.intact) c.self.view_is ∙ c.requires in
    let last = last_rewrite e.version old e.append e.rewrite e.untold e.accessor e.intact c.self.invariant intact in
    let p = err_from_is_err_and c.from_residual-in_err-begin_next.result c.from_residual-in_err-begin_next.ensures.1 in
    rw (p.1, p.2)
    (inr (subst (λ (o : KeptEngine). IsHalfRotated (g.F.EngineFiles.may_fail) Rewrite o (record { version = e.version; asks = new; untold = e.untold; accessor = e.accessor; intact = false }) c.in_err-begin_next.field-0.0) c.self.view_is
    (record { seq = e.rewrite.seq; bytes = _; last = last; broken = record { was = intact; failed = rw (c.close_last.ensures.seq) at c.in_err-begin_next.ensures.fault; others = refl } })))
