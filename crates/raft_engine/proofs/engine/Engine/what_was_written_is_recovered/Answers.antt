use Rattle.raft_engine.proofs.Common.{subst, synced, written, KeptEngine, engine_shown, HasAllAppended, IsRoundTrip}
use Rattle.raft_engine.proofs.engine.Engine.what_was_written_is_recovered.Goals as goal

pub returns : goal.returns
returns g c =
    let kept = c.self.invariant in
    subst (λ (e : KeptEngine). HasAllAppended e → IsRoundTrip e) c.self.view_is
    (λ has. c.what_is_read_back_is_recovered.ensures (engine_shown (g.F.EngineFiles.asked) c.self.inside) (synced kept.stored.now.appended) (written kept.stored.now.appended) has
    kept.stored.now.append_done.put ((kept.whole has.intact).read_back has.none_found) c.counts_are_exact.ensures)
