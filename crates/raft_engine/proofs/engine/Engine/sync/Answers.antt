use Rattle.raft_engine.proofs.Common.{err_from_is_err_and, rules, ◌≡◌, true, false, inr, refl, subst, [], ◌∷◌, Append, Ask, List, Sync, ask, IsUnsynced, KeptEngine}
use Rattle.raft_engine.proofs.AskedLemmas.{one_failed}
use Rattle.raft_engine.proofs.BrokenLemmas.{broken_kept}
use Rattle.raft_engine.proofs.KeptLemmas.{kept_synced, synced_ever}
use Rattle.raft_engine.proofs.engine.Engine.sync.Goals as goal

pub invariant_of-self : goal.invariant_of-self
invariant_of-self g c =
    let e = c.self.inside in
    let old : List Ask = g.F.EngineFiles.asked e.files in
    let new : List Ask = g.F.EngineFiles.asked c.sync.new.self in
    let intact : e.intact ≡ true = search rules in
    broken_kept c.asks_are_stored.ensures.unsynced e.version new e.append e.rewrite e.untold e.accessor (g.F.EngineFiles.may_fail) (ask Append Sync ∷ []) old c.in_err-sync.field-0.0
    (synced_ever e.version old e.append e.rewrite e.untold e.accessor e.intact c.self.invariant c.asks_are_stored.ensures.synced intact Append)
    (one_failed (g.F.EngineFiles.may_fail) (ask Append Sync) old new c.in_err-sync.field-0.0 c.in_err-sync.ensures.err c.in_err-sync.ensures.fault)

pub invariant_of-self-2 : goal.invariant_of-self-2
invariant_of-self-2 g c =
    let e = c.self.inside in
    let intact : e.intact ≡ true = search rules in
    kept_synced e.version (g.F.EngineFiles.asked e.files) e.append e.rewrite e.untold e.accessor e.intact c.self.invariant intact
    c.asks_are_stored.ensures.synced (g.F.EngineFiles.asked c.sync.new.self) c.in_ok-sync.ensures.ok

pub returns-in_err-sync-clause-err : goal.returns-in_err-sync-clause-err
returns-in_err-sync-clause-err g c =
    let e = c.self.inside in
    let old : List Ask = g.F.EngineFiles.asked e.files in
    let new : List Ask = g.F.EngineFiles.asked c.sync.new.self in
    let intact : e.intact ≡ true = search rules in
    let p = err_from_is_err_and c.from_residual.result c.from_residual.ensures.1 in
    rw (p.1, p.2)
    (subst (λ (o : KeptEngine). IsUnsynced (g.F.EngineFiles.may_fail) o (record { version = e.version; asks = new; untold = e.untold; accessor = e.accessor; intact = false }) c.in_err-sync.field-0.0) c.self.view_is
    (inr (record {
      was = intact;
      failed = one_failed (g.F.EngineFiles.may_fail) (ask Append Sync) old new c.in_err-sync.field-0.0 c.in_err-sync.ensures.err c.in_err-sync.ensures.fault;
      others = refl;
    })))
