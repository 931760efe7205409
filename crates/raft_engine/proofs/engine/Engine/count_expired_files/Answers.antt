use Rattle.raft_engine.proofs.Common.{ap, ◌∙◌, subst, KeptEngine, AreExpired, front_below}
use Rattle.raft_engine.proofs.KeptPurges.{its_expired}
use Rattle.raft_engine.proofs.engine.Engine.count_expired_files.Goals as goal

pub returns-clause-ok : goal.returns-clause-ok
returns-clause-ok g c =
    let e = c.self.inside in
    subst (λ (o : KeptEngine). AreExpired c.args.queue o c.count_below.result) c.self.view_is
    (its_expired c.args.queue e.version (g.F.EngineFiles.asked e.files) e.append e.rewrite e.untold e.accessor e.intact c.self.invariant (ap (λ (o : KeptEngine). o.intact) c.self.view_is ∙ c.requires)
    c.pick_queue_files-files.result.now c.pick_queue_files-files.ensures c.in_ok-least.least c.count_below.result c.in_ok-least.ensures.ok (c.count_below.ensures ∙ ap (front_below c.in_ok-least.least) c.deref.ensures.value))
