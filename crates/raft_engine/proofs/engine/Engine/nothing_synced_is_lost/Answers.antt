use Rattle.raft_engine.proofs.Common.{subst, AreBothTold, KeptEngine, engine_shown, IsLasting}
use Rattle.raft_engine.proofs.StoredLemmas.{stored_is_lasting}
use Rattle.raft_engine.proofs.engine.Engine.nothing_synced_is_lost.Goals as goal

pub returns : goal.returns
returns g c = λ content.
    let kept = c.self.invariant in
    subst (λ (e : KeptEngine). AreBothTold e.asks content → IsLasting content e) c.self.view_is
    (λ told. stored_is_lasting c.what_is_done_lasts.ensures c.nothing_is_lost.ensures c.told_contents_last.ensures.both content (engine_shown (g.F.EngineFiles.asked) c.self.inside) told kept.base kept.untold kept.tables kept.stored kept.trusted
    (λ intact. (kept.whole intact).unfailed) (λ intact. (kept.whole intact).are_tables))
