use Rattle.raft_engine.proofs.Common.{true, false, List, sym, subst, arith, [], ◌∷◌, ◌++◌, Rewrite, Ask, Sync, ask, KeptEngine, IsReady, AreExpired, delete_asks, AreDeleted, files_known, err_from_is_err_and, refl, IsBroken}
use Rattle.raft_engine.proofs.BrokenLemmas.{broken_kept}
use Rattle.raft_engine.proofs.KeptPurges.{deleted_ever, few, is_deleted, kept_deleted}
use Rattle.raft_engine.proofs.FaultLemmas.{deletion_behind, sync_before}
use Rattle.raft_engine.proofs.engine.Engine.delete_expired_files.Goals as goal

pub delete_oldest-requires : goal.delete_oldest-requires
delete_oldest-requires g c =
    let e = c.self.inside in
    let old : List Ask = g.F.EngineFiles.asked e.files in
    let ready : IsReady (record { version = e.version; asks = old; untold = e.untold; accessor = e.accessor; intact = e.intact }) = subst IsReady (sym c.self.view_is) c.requires.ready in
    let x = subst (λ (o : KeptEngine). AreExpired c.args.queue o c.args.count) (sym c.self.view_is) c.requires.expired in
    let low = few c.args.queue c.asks_are_stored.ensures.synced c.asks_are_stored.ensures.deleted c.asks_are_stored.ensures.rewrite_deleted
    e.version old e.append e.rewrite e.untold e.accessor e.intact c.self.invariant ready c.args.count x in
    let long = (files_known c.args.queue e.append e.rewrite).closed.ok in
    omega (arith, low, long)

pub invariant_of-self : goal.invariant_of-self
invariant_of-self g c =
    let e = c.self.inside in
    let old : List Ask = g.F.EngineFiles.asked e.files in
    let ready : IsReady (record { version = e.version; asks = old; untold = e.untold; accessor = e.accessor; intact = e.intact }) = subst IsReady (sym c.self.view_is) c.requires.ready in
    let x = subst (λ (o : KeptEngine). AreExpired c.args.queue o c.args.count) (sym c.self.view_is) c.requires.expired in
    broken_kept c.asks_are_stored.ensures.unsynced e.version (g.F.EngineFiles.asked c.sync.new.self) _ _ _ _ (g.F.EngineFiles.may_fail) (delete_asks c.args.queue c.args.count ++ ask Rewrite Sync ∷ []) old c.in_err-sync.field-0.0
    (deleted_ever c.args.queue c.asks_are_stored.ensures.synced c.asks_are_stored.ensures.deleted c.asks_are_stored.ensures.rewrite_deleted e.version old e.append e.rewrite e.untold e.accessor e.intact c.self.invariant ready c.args.count x)
    (sync_before (g.F.EngineFiles.may_fail) c.args.queue c.args.count old (g.F.EngineFiles.asked c.sync.new.self) c.in_err-sync.field-0.0 c.in_err-sync.ensures.err c.in_err-sync.ensures.fault)

pub returns-in_err-sync-clause-err : goal.returns-in_err-sync-clause-err
returns-in_err-sync-clause-err g c =
    let e = c.self.inside in
    let old : List Ask = g.F.EngineFiles.asked e.files in
    let ready : IsReady (record { version = e.version; asks = old; untold = e.untold; accessor = e.accessor; intact = e.intact }) = subst IsReady (sym c.self.view_is) c.requires.ready in
    let p = err_from_is_err_and c.from_residual.result c.from_residual.ensures.1 in
    rw (p.1, p.2)
    (subst (λ (o : KeptEngine). IsBroken (g.F.EngineFiles.may_fail) (delete_asks c.args.queue c.args.count ++ ask Rewrite Sync ∷ []) o
    (record { version = e.version; asks = g.F.EngineFiles.asked c.sync.new.self; untold = e.untold; accessor = e.accessor; intact = false }) c.in_err-sync.field-0.0) c.self.view_is
    (record { was = ready.intact; failed = sync_before (g.F.EngineFiles.may_fail) c.args.queue c.args.count old (g.F.EngineFiles.asked c.sync.new.self) c.in_err-sync.field-0.0 c.in_err-sync.ensures.err c.in_err-sync.ensures.fault; others = refl }))

pub invariant_of-self-in_err-delete_oldest : goal.invariant_of-self-in_err-delete_oldest
invariant_of-self-in_err-delete_oldest g c =
    let e = c.self.inside in
    let old : List Ask = g.F.EngineFiles.asked e.files in
    let ready : IsReady (record { version = e.version; asks = old; untold = e.untold; accessor = e.accessor; intact = e.intact }) = subst IsReady (sym c.self.view_is) c.requires.ready in
    let x = subst (λ (o : KeptEngine). AreExpired c.args.queue o c.args.count) (sym c.self.view_is) c.requires.expired in
    broken_kept c.asks_are_stored.ensures.unsynced e.version (g.F.EngineFiles.asked c.delete_oldest.new.files) _ _ _ _ (g.F.EngineFiles.may_fail) (delete_asks c.args.queue c.args.count ++ ask Rewrite Sync ∷ []) old c.in_err-delete_oldest.field-0.0
    (deleted_ever c.args.queue c.asks_are_stored.ensures.synced c.asks_are_stored.ensures.deleted c.asks_are_stored.ensures.rewrite_deleted e.version old e.append e.rewrite e.untold e.accessor e.intact c.self.invariant ready c.args.count x)
    (deletion_behind (g.F.EngineFiles.may_fail) c.args.queue c.args.count old (g.F.EngineFiles.asked c.sync.new.self) (g.F.EngineFiles.asked c.delete_oldest.new.files) c.in_err-delete_oldest.field-0.0 c.in_ok-sync.ensures.ok c.in_err-delete_oldest.ensures.fault)

pub returns-in_err-delete_oldest-clause-err : goal.returns-in_err-delete_oldest-clause-err
returns-in_err-delete_oldest-clause-err g c =
    let e = c.self.inside in
    let old : List Ask = g.F.EngineFiles.asked e.files in
    let ready : IsReady (record { version = e.version; asks = old; untold = e.untold; accessor = e.accessor; intact = e.intact }) = subst IsReady (sym c.self.view_is) c.requires.ready in
    let p = err_from_is_err_and c.from_residual-in_err-delete_oldest.result c.from_residual-in_err-delete_oldest.ensures.1 in
    rw (p.1, p.2)
    (subst (λ (o : KeptEngine). IsBroken (g.F.EngineFiles.may_fail) (delete_asks c.args.queue c.args.count ++ ask Rewrite Sync ∷ []) o
    (record { version = e.version; asks = g.F.EngineFiles.asked c.delete_oldest.new.files; untold = e.untold; accessor = e.accessor; intact = false }) c.in_err-delete_oldest.field-0.0) c.self.view_is
    (record { was = ready.intact; failed = deletion_behind (g.F.EngineFiles.may_fail) c.args.queue c.args.count old (g.F.EngineFiles.asked c.sync.new.self) (g.F.EngineFiles.asked c.delete_oldest.new.files) c.in_err-delete_oldest.field-0.0 c.in_ok-sync.ensures.ok c.in_err-delete_oldest.ensures.fault; others = refl }))

pub invariant_of-self-2 : goal.invariant_of-self-2
invariant_of-self-2 g c =
    let e = c.self.inside in
    let old : List Ask = g.F.EngineFiles.asked e.files in
    let ready : IsReady (record { version = e.version; asks = old; untold = e.untold; accessor = e.accessor; intact = e.intact }) = subst IsReady (sym c.self.view_is) c.requires.ready in
    let x = subst (λ (o : KeptEngine). AreExpired c.args.queue o c.args.count) (sym c.self.view_is) c.requires.expired in
    kept_deleted c.args.queue c.asks_are_stored.ensures.synced c.asks_are_stored.ensures.deleted c.asks_are_stored.ensures.rewrite_deleted e.version old e.append e.rewrite e.untold e.accessor e.intact c.self.invariant ready c.args.count x
    (g.F.EngineFiles.asked c.sync.new.self) c.in_ok-sync.ensures.ok (g.F.EngineFiles.asked c.delete_oldest.new.files) c.in_ok-delete_oldest.ensures.asked _ _ c.in_ok-delete_oldest.ensures.taken

pub returns-clause-ok : goal.returns-clause-ok
returns-clause-ok g c =
    let e = c.self.inside in
    let old : List Ask = g.F.EngineFiles.asked e.files in
    let ready : IsReady (record { version = e.version; asks = old; untold = e.untold; accessor = e.accessor; intact = e.intact }) = subst IsReady (sym c.self.view_is) c.requires.ready in
    let x = subst (λ (o : KeptEngine). AreExpired c.args.queue o c.args.count) (sym c.self.view_is) c.requires.expired in
    subst (λ (o : KeptEngine). AreDeleted c.args.queue c.args.count o (record { version = e.version; asks = g.F.EngineFiles.asked c.delete_oldest.new.files; untold = e.untold; accessor = e.accessor; intact = true })) c.self.view_is
    (is_deleted c.args.queue c.asks_are_stored.ensures.synced c.asks_are_stored.ensures.deleted c.asks_are_stored.ensures.rewrite_deleted e.version old e.append e.rewrite e.untold e.accessor e.intact c.self.invariant ready c.args.count x
    (g.F.EngineFiles.asked c.sync.new.self) c.in_ok-sync.ensures.ok (g.F.EngineFiles.asked c.delete_oldest.new.files) c.in_ok-delete_oldest.ensures.asked)
