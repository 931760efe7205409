use Rattle.raft_engine.proofs.Common.{err_from_is_err_and, rules, ◌≡◌, ◌≢◌, ◌<◌, ◌^◌, true, false, List, [], inl, inr, refl, ap, ◌∙◌, subst, ◌∷◌, FileId, Ask, Sync, ask, Batch, encoded, encoded_length, KeptEngine, IsHalfTold, IsTold, IsUntold, IsPurgeRefusal, IsWritableBatch, Append}
use Rattle.raft_base.specs.declared.errors.Error.TheVariants as errors
use Rattle.raft_engine.proofs.BrokenLemmas.{broken_kept}
use Rattle.raft_engine.proofs.KeptTells.{half_told, is_told, kept_told, told_ever, told_tried, untold_tried}
use Rattle.raft_engine.proofs.RefusalLemmas.{rewrite_refusal}
use Rattle.raft_engine.proofs.AskedLemmas.{more_failed, one_failed, part_failed}
use Rattle.raft_engine.proofs.FaultLemmas.{put_made_fails, writable_of}
use Rattle.raft_engine.proofs.engine.Engine.tell_rewrite_queue.Goals as goal

pub returns-then-self-gt-LAST_OFFSET-clause-err : goal.returns-then-self-gt-LAST_OFFSET-clause-err
returns-then-self-gt-LAST_OFFSET-clause-err g c =
    let e = c.self.inside in
    let intact : e.intact ≡ true = search rules in
    let many : 2 ^ 63 < e.rewrite.len = search rules in
    inl (
      refl,
      subst (λ (o : KeptEngine). IsPurgeRefusal o errors.Full) c.self.view_is
          (rewrite_refusal e.version (g.F.EngineFiles.asked e.files) e.append e.rewrite e.untold e.accessor e.intact c.self.invariant intact many),
    )

pub invariant_of-self : goal.invariant_of-self
invariant_of-self g c =
    let e = c.self.inside in
    let old : List Ask = g.F.EngineFiles.asked e.files in
    let intact : e.intact ≡ true = search rules in
    let writable : e.untold.items ≢ [] → IsWritableBatch e.untold = λ some. writable_of c.is_read_again.ensures.tiled c.is_read_again.ensures.in_range c.is_read_again.ensures.in_bytes some
    (subst (λ (b : Batch). encoded_length b.items b.entry_bytes < 2 ^ 56) c.in_ok-telling.ensures.ok c.in_ok-len.ensures.accepted) in
    broken_kept c.asks_are_stored.ensures.unsynced e.version (g.F.EngineFiles.asked c.sync.new.self) _ e.rewrite e.untold e.accessor (g.F.EngineFiles.may_fail) _ old c.in_err-sync.field-0.0
    (told_ever c.asks_are_stored.ensures.synced c.asks_are_stored.ensures.told
    e.version old e.append e.rewrite e.untold e.accessor e.intact c.self.invariant intact writable)
    (part_failed (g.F.EngineFiles.may_fail) _ (ask Append Sync ∷ []) old (g.F.EngineFiles.asked c.sync.new.self) c.in_err-sync.field-0.0 (one_failed (g.F.EngineFiles.may_fail) (ask Append Sync) old (g.F.EngineFiles.asked c.sync.new.self) c.in_err-sync.field-0.0 c.in_err-sync.ensures.err c.in_err-sync.ensures.fault))

pub returns-in_err-sync-clause-err : goal.returns-in_err-sync-clause-err
returns-in_err-sync-clause-err g c =
    let e = c.self.inside in
    let old : List Ask = g.F.EngineFiles.asked e.files in
    let intact : e.intact ≡ true = search rules in
    let writable : e.untold.items ≢ [] → IsWritableBatch e.untold = λ some. writable_of c.is_read_again.ensures.tiled c.is_read_again.ensures.in_range c.is_read_again.ensures.in_bytes some
    (subst (λ (b : Batch). encoded_length b.items b.entry_bytes < 2 ^ 56) c.in_ok-telling.ensures.ok c.in_ok-len.ensures.accepted) in
    let p = err_from_is_err_and c.from_residual-in_err-sync.result c.from_residual-in_err-sync.ensures.1 in
    rw (p.1, p.2)
    (inr (inl (subst (λ (o : KeptEngine). IsHalfTold (g.F.EngineFiles.may_fail) o (record { version = e.version; asks = g.F.EngineFiles.asked c.sync.new.self; untold = e.untold; accessor = e.accessor; intact = false }) c.in_err-sync.field-0.0) c.self.view_is
    (half_told c.asks_are_stored.ensures.synced c.asks_are_stored.ensures.told
    e.version old e.append e.rewrite e.untold e.accessor e.intact c.self.invariant intact writable
    (g.F.EngineFiles.may_fail) (g.F.EngineFiles.asked c.sync.new.self) e.untold c.in_err-sync.field-0.0
    (part_failed (g.F.EngineFiles.may_fail) _ (ask Append Sync ∷ []) old (g.F.EngineFiles.asked c.sync.new.self) c.in_err-sync.field-0.0 (one_failed (g.F.EngineFiles.may_fail) (ask Append Sync) old (g.F.EngineFiles.asked c.sync.new.self) c.in_err-sync.field-0.0 c.in_err-sync.ensures.err c.in_err-sync.ensures.fault))))))

pub invariant_of-self-in_err-put_unless_empty : goal.invariant_of-self-in_err-put_unless_empty
invariant_of-self-in_err-put_unless_empty g c =
    let e = c.self.inside in
    let old : List Ask = g.F.EngineFiles.asked e.files in
    let intact : e.intact ≡ true = search rules in
    let writable : e.untold.items ≢ [] → IsWritableBatch e.untold = λ some. writable_of c.is_read_again.ensures.tiled c.is_read_again.ensures.in_range c.is_read_again.ensures.in_bytes some
    (subst (λ (b : Batch). encoded_length b.items b.entry_bytes < 2 ^ 56) c.in_ok-telling.ensures.ok c.in_ok-len.ensures.accepted) in
    let file = c.new-file.ensures ∙ ap (λ (id : FileId). record { id = id; version = e.version }) c.new.ensures in
    let made : c.finish_populate.new.self ≡ record e.untold { stage = encoded } = c.in_ok-len.ensures.ok ∙ ap (λ (b : Batch). record b { stage = encoded }) c.in_ok-telling.ensures.ok in
    told_tried c.asks_are_stored.ensures.synced c.asks_are_stored.ensures.told
    e.version old e.append e.rewrite e.untold e.accessor e.intact c.self.invariant intact writable
    c.new-file.result file c.finish_populate.new.self made (g.F.EngineFiles.asked c.sync.new.self) c.in_ok-sync.ensures.ok
    (g.F.EngineFiles.may_fail) (g.F.EngineFiles.asked c.put_unless_empty.new.files) c.in_err-put_unless_empty.field-0.0
    (more_failed (g.F.EngineFiles.may_fail) _ (ask Append Sync ∷ []) old (g.F.EngineFiles.asked c.sync.new.self) (g.F.EngineFiles.asked c.put_unless_empty.new.files) c.in_err-put_unless_empty.field-0.0 c.in_ok-sync.ensures.ok
    (put_made_fails (g.F.EngineFiles.may_fail) c.new-file.result _ c.finish_populate.new.self e.untold (g.F.EngineFiles.asked c.sync.new.self) (g.F.EngineFiles.asked c.put_unless_empty.new.files) c.in_err-put_unless_empty.field-0.0 file made c.in_err-put_unless_empty.ensures.fault))
    c.asks_are_stored.ensures.unsynced c.put_unless_empty.new.intact c.in_err-put_unless_empty.ensures.as_before

pub returns-in_err-put_unless_empty-clause-err : goal.returns-in_err-put_unless_empty-clause-err
returns-in_err-put_unless_empty-clause-err g c =
    let e = c.self.inside in
    let old : List Ask = g.F.EngineFiles.asked e.files in
    let intact : e.intact ≡ true = search rules in
    let writable : e.untold.items ≢ [] → IsWritableBatch e.untold = λ some. writable_of c.is_read_again.ensures.tiled c.is_read_again.ensures.in_range c.is_read_again.ensures.in_bytes some
    (subst (λ (b : Batch). encoded_length b.items b.entry_bytes < 2 ^ 56) c.in_ok-telling.ensures.ok c.in_ok-len.ensures.accepted) in
    let file = c.new-file.ensures ∙ ap (λ (id : FileId). record { id = id; version = e.version }) c.new.ensures in
    let made : c.finish_populate.new.self ≡ record e.untold { stage = encoded } = c.in_ok-len.ensures.ok ∙ ap (λ (b : Batch). record b { stage = encoded }) c.in_ok-telling.ensures.ok in
    let p = err_from_is_err_and c.from_residual-in_err-put_unless_empty.result c.from_residual-in_err-put_unless_empty.ensures.1 in
    rw (p.1, p.2)
    (subst (λ (o : KeptEngine). IsUntold (g.F.EngineFiles.may_fail) o
    (record { version = e.version; asks = g.F.EngineFiles.asked c.put_unless_empty.new.files; untold = e.untold; accessor = e.accessor; intact = c.put_unless_empty.new.intact }) c.in_err-put_unless_empty.field-0.0) c.self.view_is
    (untold_tried c.asks_are_stored.ensures.synced c.asks_are_stored.ensures.told
    e.version old e.append e.rewrite e.untold e.accessor e.intact c.self.invariant intact writable
    c.new-file.result file c.finish_populate.new.self made (g.F.EngineFiles.asked c.sync.new.self) c.in_ok-sync.ensures.ok
    (g.F.EngineFiles.may_fail) (g.F.EngineFiles.asked c.put_unless_empty.new.files) c.in_err-put_unless_empty.field-0.0
    (more_failed (g.F.EngineFiles.may_fail) _ (ask Append Sync ∷ []) old (g.F.EngineFiles.asked c.sync.new.self) (g.F.EngineFiles.asked c.put_unless_empty.new.files) c.in_err-put_unless_empty.field-0.0 c.in_ok-sync.ensures.ok
    (put_made_fails (g.F.EngineFiles.may_fail) c.new-file.result _ c.finish_populate.new.self e.untold (g.F.EngineFiles.asked c.sync.new.self) (g.F.EngineFiles.asked c.put_unless_empty.new.files) c.in_err-put_unless_empty.field-0.0 file made c.in_err-put_unless_empty.ensures.fault))
    c.put_unless_empty.new.intact c.in_err-put_unless_empty.ensures.as_before c.in_err-put_unless_empty.ensures.some c.in_err-put_unless_empty.ensures.why))

pub invariant_of-self-2 : goal.invariant_of-self-2
invariant_of-self-2 g c =
    let e = c.self.inside in
    let old : List Ask = g.F.EngineFiles.asked e.files in
    let intact : e.intact ≡ true = search rules in
    let writable : e.untold.items ≢ [] → IsWritableBatch e.untold = λ some. writable_of c.is_read_again.ensures.tiled c.is_read_again.ensures.in_range c.is_read_again.ensures.in_bytes some
    (subst (λ (b : Batch). encoded_length b.items b.entry_bytes < 2 ^ 56) c.in_ok-telling.ensures.ok c.in_ok-len.ensures.accepted) in
    let file = c.new-file.ensures ∙ ap (λ (id : FileId). record { id = id; version = e.version }) c.new.ensures in
    let made : c.finish_populate.new.self ≡ record e.untold { stage = encoded } = c.in_ok-len.ensures.ok ∙ ap (λ (b : Batch). record b { stage = encoded }) c.in_ok-telling.ensures.ok in
    kept_told c.asks_are_stored.ensures.synced c.asks_are_stored.ensures.told
    e.version old e.append e.rewrite e.untold e.accessor e.intact c.self.invariant intact writable
    c.new-file.result file c.finish_populate.new.self made (g.F.EngineFiles.asked c.sync.new.self) c.in_ok-sync.ensures.ok
    (g.F.EngineFiles.asked c.put_unless_empty.new.files) c.in_ok-put_unless_empty.ensures.ok c.drain-told.new.self c.drain-told.ensures.emptied
    _ c.in_ok-len.len (c.in_ok-len.ensures.len ∙ ap (λ (b : Batch). encoded_length b.items b.entry_bytes) c.in_ok-telling.ensures.ok) refl refl refl

pub returns-clause-ok : goal.returns-clause-ok
returns-clause-ok g c =
    let e = c.self.inside in
    let old : List Ask = g.F.EngineFiles.asked e.files in
    let intact : e.intact ≡ true = search rules in
    let writable : e.untold.items ≢ [] → IsWritableBatch e.untold = λ some. writable_of c.is_read_again.ensures.tiled c.is_read_again.ensures.in_range c.is_read_again.ensures.in_bytes some
    (subst (λ (b : Batch). encoded_length b.items b.entry_bytes < 2 ^ 56) c.in_ok-telling.ensures.ok c.in_ok-len.ensures.accepted) in
    let file = c.new-file.ensures ∙ ap (λ (id : FileId). record { id = id; version = e.version }) c.new.ensures in
    let made : c.finish_populate.new.self ≡ record e.untold { stage = encoded } = c.in_ok-len.ensures.ok ∙ ap (λ (b : Batch). record b { stage = encoded }) c.in_ok-telling.ensures.ok in
    subst (λ (o : KeptEngine). IsTold o (record { version = e.version; asks = g.F.EngineFiles.asked c.put_unless_empty.new.files; untold = c.drain-told.new.self; accessor = e.accessor; intact = true })) c.self.view_is
    (is_told c.asks_are_stored.ensures.synced c.asks_are_stored.ensures.told
    e.version old e.append e.rewrite e.untold e.accessor e.intact c.self.invariant intact writable
    c.new-file.result file c.finish_populate.new.self made (g.F.EngineFiles.asked c.sync.new.self) c.in_ok-sync.ensures.ok
    (g.F.EngineFiles.asked c.put_unless_empty.new.files) c.in_ok-put_unless_empty.ensures.ok c.drain-told.new.self c.drain-told.ensures.emptied)
