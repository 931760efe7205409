use Rattle.raft_engine.proofs.Common.{err_from_is_err_and, rules, ◌≡◌, ◌≢◌, ◌<◌, ◌^◌, true, false, List, [], ap, ◌∙◌, subst, inl, inr, refl, FileId, Append, AreAcceptedOncePlaced, IsAppendCheckFault, Ask, taking_items, IsLastFile, KeptEngine, IsHalfWritten, IsUnwritten, IsOneMore, IsRefusal}
use Rattle.raft_base.specs.declared.errors.Error.TheVariants as errors
use Rattle.raft_engine.proofs.KeptLemmas.{last_append}
use Rattle.raft_engine.proofs.RefusalLemmas.{bytes_refusal, file_refusal, test_refusal}
use Rattle.raft_engine.proofs.WriteLemmas.{IsReady, cut_written, kept_more, kept_put, kept_tried, kept_unsynced, merge_memory, merge_unnoted, none_tested, none_written, one_more, placed_accepted, tried_written, unsynced_written}
use Rattle.raft_engine.proofs.FaultLemmas.{writable_of}
use Rattle.raft_engine.proofs.engine.Engine.write.Goals as goal

pub returns-then-is_empty-clause-tested : goal.returns-then-is_empty-clause-tested
returns-then-is_empty-clause-tested g c =
    let none : c.args.batch.now.items ≡ [] = search rules in
    none_tested c.sync_if_wanted.result c.args.self.now.accessor.tables c.args.batch.now.items none

pub returns-then-is_empty-clause-err : goal.returns-then-is_empty-clause-err
returns-then-is_empty-clause-err g c =
    let e = c.self.inside in
    let none : c.args.batch.now.items ≡ [] = search rules in
    let intact : e.intact ≡ true = search rules in
    let kept = c.self.invariant in
    let last = subst (λ (o : KeptEngine). IsLastFile Append o.asks e.append.seq (kept.whole intact).append_files.bytes) c.self.view_is
    (last_append e.version (g.F.EngineFiles.asked e.files) e.append e.rewrite e.untold e.accessor e.intact kept intact) in
    let was : c.args.self.now.intact ≡ true = search rules in
    none_written (g.F.EngineFiles.may_fail) c.sync_if_wanted.result c.args.sync c.args.batch.now c.drain-none.new.self c.args.self.now c.sync_if_wanted.new.self e.append.seq (kept.whole intact).append_files.bytes last was none c.sync_if_wanted.ensures.err c.sync_if_wanted.ensures.wanted

pub invariant_of-self : goal.invariant_of-self
invariant_of-self g c =
    let e = c.self.inside in
    let old : List Ask = g.F.EngineFiles.asked e.files in
    let intact : e.intact ≡ true = search rules in
    let some : c.args.batch.now.items ≢ [] = search rules in
    let w = writable_of c.is_read_again.ensures.tiled c.is_read_again.ensures.in_range c.is_read_again.ensures.in_bytes some c.in_ok-len.ensures.accepted in
    let ready : IsReady e.accessor.tables c.args.batch.now = record { writable = w; accepted = rw (c.items.ensures) at c.in_ok-check_append_writes.ensures.ok } in
    let file = c.new-file.ensures ∙ ap (λ (id : FileId). record { id = id; version = e.version }) c.new.ensures in
    kept_tried c.asks_are_stored.ensures.written c.asks_are_stored.ensures.synced
    e.version old e.append e.rewrite e.untold e.accessor e.intact c.self.invariant intact c.args.batch.now ready c.new-file.result file c.make_bytes.new.batch c.in_ok-len.ensures.ok
    (g.F.EngineFiles.may_fail) c.args.sync (g.F.EngineFiles.asked c.try_put.new.files) c.in_err-try_put.field-0.0 c.in_err-try_put.ensures.err c.in_err-try_put.ensures.fault c.asks_are_stored.ensures.unsynced c.try_put.new.intact c.in_err-try_put.ensures.as_before

pub invariant_of-self-in_err-sync_append_if : goal.invariant_of-self-in_err-sync_append_if
invariant_of-self-in_err-sync_append_if g c =
    let e = c.self.inside in
    let old : List Ask = g.F.EngineFiles.asked e.files in
    let intact : e.intact ≡ true = search rules in
    let some : c.args.batch.now.items ≢ [] = search rules in
    let w = writable_of c.is_read_again.ensures.tiled c.is_read_again.ensures.in_range c.is_read_again.ensures.in_bytes some c.in_ok-len.ensures.accepted in
    let ready : IsReady e.accessor.tables c.args.batch.now = record { writable = w; accepted = rw (c.items.ensures) at c.in_ok-check_append_writes.ensures.ok } in
    let file = c.new-file.ensures ∙ ap (λ (id : FileId). record { id = id; version = e.version }) c.new.ensures in
    kept_unsynced c.asks_are_stored.ensures.written c.asks_are_stored.ensures.synced
    e.version old e.append e.rewrite e.untold e.accessor e.intact c.self.invariant intact c.args.batch.now ready c.new-file.result file c.make_bytes.new.batch c.in_ok-len.ensures.ok
    (g.F.EngineFiles.may_fail) c.args.sync (g.F.EngineFiles.asked c.sync_append_if.new.files) c.in_err-sync_append_if.field-0.0 (g.F.EngineFiles.asked c.try_put.new.files) c.in_ok-try_put.ensures.ok c.in_err-sync_append_if.ensures.fault c.asks_are_stored.ensures.unsynced e.append e.rewrite e.untold e.accessor

pub invariant_of-self-in_err-apply_batch : goal.invariant_of-self-in_err-apply_batch
invariant_of-self-in_err-apply_batch g c =
    let e = c.self.inside in
    let old : List Ask = g.F.EngineFiles.asked e.files in
    let intact : e.intact ≡ true = search rules in
    let some : c.args.batch.now.items ≢ [] = search rules in
    let w = writable_of c.is_read_again.ensures.tiled c.is_read_again.ensures.in_range c.is_read_again.ensures.in_bytes some c.in_ok-len.ensures.accepted in
    let ready : IsReady e.accessor.tables c.args.batch.now = record { writable = w; accepted = rw (c.items.ensures) at c.in_ok-check_append_writes.ensures.ok } in
    let file = c.new-file.ensures ∙ ap (λ (id : FileId). record { id = id; version = e.version }) c.new.ensures in
    kept_put c.asks_are_stored.ensures.written c.asks_are_stored.ensures.synced
    e.version old e.append e.rewrite e.untold e.accessor e.intact c.self.invariant intact c.args.batch.now ready c.new-file.result file c.make_bytes.new.batch c.in_ok-len.ensures.ok
    c.args.sync (g.F.EngineFiles.asked c.try_put.new.files) (g.F.EngineFiles.asked c.sync_append_if.new.files) c.in_ok-try_put.ensures.ok c.in_ok-sync_append_if.ensures.ok c.apply_batch.new.accessor
    e.append e.rewrite e.untold

pub invariant_of-self-in_err-merge : goal.invariant_of-self-in_err-merge
invariant_of-self-in_err-merge g c =
    let e = c.self.inside in
    let old : List Ask = g.F.EngineFiles.asked e.files in
    let intact : e.intact ≡ true = search rules in
    let some : c.args.batch.now.items ≢ [] = search rules in
    let w = writable_of c.is_read_again.ensures.tiled c.is_read_again.ensures.in_range c.is_read_again.ensures.in_bytes some c.in_ok-len.ensures.accepted in
    let ready : IsReady e.accessor.tables c.args.batch.now = record { writable = w; accepted = rw (c.items.ensures) at c.in_ok-check_append_writes.ensures.ok } in
    let file = c.new-file.ensures ∙ ap (λ (id : FileId). record { id = id; version = e.version }) c.new.ensures in
    kept_put c.asks_are_stored.ensures.written c.asks_are_stored.ensures.synced
    e.version old e.append e.rewrite e.untold e.accessor e.intact c.self.invariant intact c.args.batch.now ready c.new-file.result file c.make_bytes.new.batch c.in_ok-len.ensures.ok
    c.args.sync (g.F.EngineFiles.asked c.try_put.new.files) (g.F.EngineFiles.asked c.sync_append_if.new.files) c.in_ok-try_put.ensures.ok c.in_ok-sync_append_if.ensures.ok c.apply_batch.new.accessor
    e.append e.rewrite c.merge.new.self

pub invariant_of-self-2 : goal.invariant_of-self-2
invariant_of-self-2 g c =
    let e = c.self.inside in
    let old : List Ask = g.F.EngineFiles.asked e.files in
    let intact : e.intact ≡ true = search rules in
    let some : c.args.batch.now.items ≢ [] = search rules in
    let w = writable_of c.is_read_again.ensures.tiled c.is_read_again.ensures.in_range c.is_read_again.ensures.in_bytes some c.in_ok-len.ensures.accepted in
    let ready : IsReady e.accessor.tables c.args.batch.now = record { writable = w; accepted = rw (c.items.ensures) at c.in_ok-check_append_writes.ensures.ok } in
    let file = c.new-file.ensures ∙ ap (λ (id : FileId). record { id = id; version = e.version }) c.new.ensures in
    kept_more c.asks_are_stored.ensures.written c.asks_are_stored.ensures.synced
    e.version old e.append e.rewrite e.untold e.accessor e.intact c.self.invariant intact c.args.batch.now ready c.new-file.result file c.make_bytes.new.batch c.in_ok-len.ensures.ok
    c.args.sync (g.F.EngineFiles.asked c.try_put.new.files) (g.F.EngineFiles.asked c.sync_append_if.new.files) c.in_ok-try_put.ensures.ok c.in_ok-sync_append_if.ensures.ok c.apply_batch.new.accessor
    c.try_put.new.batch.items c.in_ok-try_put.ensures.placed c.in_ok-apply_batch.ensures.ok
    c.in_ok-taken.taken c.merge.new.self (rw (c.items-2.ensures) at c.in_ok-taken.ensures.ok) c.in_ok-merge.ensures.ok (c.told_items_take_away_the_same.ensures.away (taking_items e.accessor.tables c.args.batch.now.items))
    c.batches_are_read_back.ensures.written c.in_ok-len.len _ c.in_ok-len.ensures.len refl refl refl

pub returns-clause-ok : goal.returns-clause-ok
returns-clause-ok g c =
    let e = c.self.inside in
    let old : List Ask = g.F.EngineFiles.asked e.files in
    let intact : e.intact ≡ true = search rules in
    let some : c.args.batch.now.items ≢ [] = search rules in
    let w = writable_of c.is_read_again.ensures.tiled c.is_read_again.ensures.in_range c.is_read_again.ensures.in_bytes some c.in_ok-len.ensures.accepted in
    let ready : IsReady e.accessor.tables c.args.batch.now = record { writable = w; accepted = rw (c.items.ensures) at c.in_ok-check_append_writes.ensures.ok } in
    let file = c.new-file.ensures ∙ ap (λ (id : FileId). record { id = id; version = e.version }) c.new.ensures in
    inr (subst (λ (o : KeptEngine). IsOneMore c.args.sync c.args.batch.now o
    (record {
      version = e.version;
      asks = g.F.EngineFiles.asked c.sync_append_if.new.files;
      untold = c.merge.new.self;
      accessor = c.apply_batch.new.accessor;
      intact = true;
    })) c.self.view_is
    (one_more c.asks_are_stored.ensures.written c.asks_are_stored.ensures.synced
    e.version old e.append e.rewrite e.untold e.accessor e.intact c.self.invariant intact c.args.batch.now ready c.new-file.result file c.make_bytes.new.batch c.in_ok-len.ensures.ok
    c.args.sync (g.F.EngineFiles.asked c.try_put.new.files) (g.F.EngineFiles.asked c.sync_append_if.new.files) c.in_ok-try_put.ensures.ok c.in_ok-sync_append_if.ensures.ok c.apply_batch.new.accessor
    c.try_put.new.batch.items c.in_ok-try_put.ensures.placed c.in_ok-apply_batch.ensures.ok
    c.in_ok-taken.taken c.merge.new.self (rw (c.items-2.ensures) at c.in_ok-taken.ensures.ok) c.in_ok-merge.ensures.ok (c.told_items_take_away_the_same.ensures.away (taking_items e.accessor.tables c.args.batch.now.items))
    c.asks_put_batches.ensures.written))

pub returns-clause-tested : goal.returns-clause-tested
returns-clause-tested g c =
    subst (λ (o : KeptEngine). AreAcceptedOncePlaced o.accessor.tables c.args.batch.now.items) c.self.view_is (rw (c.items.ensures) at c.in_ok-check_append_writes.ensures.ok)

pub returns-in_err-try_put-clause-err : goal.returns-in_err-try_put-clause-err
returns-in_err-try_put-clause-err g c =
    let e = c.self.inside in
    let old : List Ask = g.F.EngineFiles.asked e.files in
    let intact : e.intact ≡ true = search rules in
    let some : c.args.batch.now.items ≢ [] = search rules in
    let w = writable_of c.is_read_again.ensures.tiled c.is_read_again.ensures.in_range c.is_read_again.ensures.in_bytes some c.in_ok-len.ensures.accepted in
    let ready : IsReady e.accessor.tables c.args.batch.now = record { writable = w; accepted = rw (c.items.ensures) at c.in_ok-check_append_writes.ensures.ok } in
    let file = c.new-file.ensures ∙ ap (λ (id : FileId). record { id = id; version = e.version }) c.new.ensures in
    let p = err_from_is_err_and c.from_residual-in_err-try_put.result c.from_residual-in_err-try_put.ensures.1 in
    rw (p.1, p.2)
    (subst (λ (o : KeptEngine). IsUnwritten (g.F.EngineFiles.may_fail) c.args.sync c.args.batch.now c.try_put.new.batch o
    (record { version = e.version; asks = g.F.EngineFiles.asked c.try_put.new.files; untold = e.untold; accessor = e.accessor; intact = c.try_put.new.intact }) c.in_err-try_put.field-0.0) c.self.view_is
    (tried_written c.asks_are_stored.ensures.written c.asks_are_stored.ensures.synced
    e.version old e.append e.rewrite e.untold e.accessor e.intact c.self.invariant intact c.args.batch.now ready c.new-file.result file c.make_bytes.new.batch c.in_ok-len.ensures.ok
    (g.F.EngineFiles.may_fail) c.args.sync (g.F.EngineFiles.asked c.try_put.new.files) c.in_err-try_put.field-0.0
    c.in_err-try_put.ensures.err c.in_err-try_put.ensures.fault c.try_put.new.batch c.try_put.new.intact c.in_err-try_put.ensures.as_before c.in_err-try_put.ensures.signed))

pub returns-in_err-sync_append_if-clause-err : goal.returns-in_err-sync_append_if-clause-err
returns-in_err-sync_append_if-clause-err g c =
    let e = c.self.inside in
    let old : List Ask = g.F.EngineFiles.asked e.files in
    let intact : e.intact ≡ true = search rules in
    let some : c.args.batch.now.items ≢ [] = search rules in
    let w = writable_of c.is_read_again.ensures.tiled c.is_read_again.ensures.in_range c.is_read_again.ensures.in_bytes some c.in_ok-len.ensures.accepted in
    let ready : IsReady e.accessor.tables c.args.batch.now = record { writable = w; accepted = rw (c.items.ensures) at c.in_ok-check_append_writes.ensures.ok } in
    let file = c.new-file.ensures ∙ ap (λ (id : FileId). record { id = id; version = e.version }) c.new.ensures in
    let p = err_from_is_err_and c.from_residual-in_err-sync_append_if.result c.from_residual-in_err-sync_append_if.ensures.1 in
    rw (p.1, p.2)
    (inr (inl (subst (λ (o : KeptEngine). IsHalfWritten (g.F.EngineFiles.may_fail) c.args.sync c.args.batch.now o
    (record { version = e.version; asks = g.F.EngineFiles.asked c.sync_append_if.new.files; untold = e.untold; accessor = e.accessor; intact = false }) c.in_err-sync_append_if.field-0.0) c.self.view_is
    (unsynced_written c.asks_are_stored.ensures.written c.asks_are_stored.ensures.synced
    e.version old e.append e.rewrite e.untold e.accessor e.intact c.self.invariant intact c.args.batch.now ready c.new-file.result file c.make_bytes.new.batch c.in_ok-len.ensures.ok
    (g.F.EngineFiles.may_fail) c.args.sync (g.F.EngineFiles.asked c.sync_append_if.new.files) c.in_err-sync_append_if.field-0.0
    (g.F.EngineFiles.asked c.try_put.new.files) c.in_ok-try_put.ensures.ok c.in_err-sync_append_if.ensures.fault))))

pub returns-in_err-apply_batch-clause-err : goal.returns-in_err-apply_batch-clause-err
returns-in_err-apply_batch-clause-err g c =
    let e = c.self.inside in
    let old : List Ask = g.F.EngineFiles.asked e.files in
    let intact : e.intact ≡ true = search rules in
    let some : c.args.batch.now.items ≢ [] = search rules in
    let w = writable_of c.is_read_again.ensures.tiled c.is_read_again.ensures.in_range c.is_read_again.ensures.in_bytes some c.in_ok-len.ensures.accepted in
    let ready : IsReady e.accessor.tables c.args.batch.now = record { writable = w; accepted = rw (c.items.ensures) at c.in_ok-check_append_writes.ensures.ok } in
    let file = c.new-file.ensures ∙ ap (λ (id : FileId). record { id = id; version = e.version }) c.new.ensures in
    let p = err_from_is_err_and c.from_residual-in_err-apply_batch.result c.from_residual-in_err-apply_batch.ensures.1 in
    rw (p.1, p.2)
    (inr (inl (subst (λ (o : KeptEngine). IsHalfWritten (g.F.EngineFiles.may_fail) c.args.sync c.args.batch.now o
    (record { version = e.version; asks = g.F.EngineFiles.asked c.sync_append_if.new.files; untold = e.untold; accessor = c.apply_batch.new.accessor; intact = false }) c.in_err-apply_batch.field-0.0) c.self.view_is
    (cut_written c.asks_are_stored.ensures.written c.asks_are_stored.ensures.synced
    e.version old e.append e.rewrite e.untold e.accessor e.intact c.self.invariant intact c.args.batch.now ready c.new-file.result file c.make_bytes.new.batch c.in_ok-len.ensures.ok
    (g.F.EngineFiles.may_fail) c.args.sync (g.F.EngineFiles.asked c.sync_append_if.new.files) c.in_err-apply_batch.field-0.0
    (g.F.EngineFiles.asked c.try_put.new.files) c.in_ok-try_put.ensures.ok e.untold c.apply_batch.new.accessor c.try_put.new.batch.items c.in_ok-sync_append_if.ensures.ok refl c.in_ok-try_put.ensures.placed
    (inl (
      c.in_err-apply_batch.ensures.room
          (placed_accepted c.asks_are_stored.ensures.written c.asks_are_stored.ensures.synced
          e.version old e.append e.rewrite e.untold e.accessor e.intact c.self.invariant intact c.args.batch.now ready c.new-file.result file c.make_bytes.new.batch c.in_ok-len.ensures.ok
          c.try_put.new.batch.items c.in_ok-try_put.ensures.placed),
      c.in_err-apply_batch.ensures.fault,
    ))))))

pub returns-in_err-merge-clause-err : goal.returns-in_err-merge-clause-err
returns-in_err-merge-clause-err g c =
    let e = c.self.inside in
    let old : List Ask = g.F.EngineFiles.asked e.files in
    let intact : e.intact ≡ true = search rules in
    let some : c.args.batch.now.items ≢ [] = search rules in
    let w = writable_of c.is_read_again.ensures.tiled c.is_read_again.ensures.in_range c.is_read_again.ensures.in_bytes some c.in_ok-len.ensures.accepted in
    let ready : IsReady e.accessor.tables c.args.batch.now = record { writable = w; accepted = rw (c.items.ensures) at c.in_ok-check_append_writes.ensures.ok } in
    let file = c.new-file.ensures ∙ ap (λ (id : FileId). record { id = id; version = e.version }) c.new.ensures in
    let p = err_from_is_err_and c.from_residual-in_err-merge.result c.from_residual-in_err-merge.ensures.1 in
    rw (p.1, p.2)
    (inr (inl (subst (λ (o : KeptEngine). IsHalfWritten (g.F.EngineFiles.may_fail) c.args.sync c.args.batch.now o
    (record { version = e.version; asks = g.F.EngineFiles.asked c.sync_append_if.new.files; untold = c.merge.new.self; accessor = c.apply_batch.new.accessor; intact = false }) c.in_err-merge.field-0.0) c.self.view_is
    (cut_written c.asks_are_stored.ensures.written c.asks_are_stored.ensures.synced
    e.version old e.append e.rewrite e.untold e.accessor e.intact c.self.invariant intact c.args.batch.now ready c.new-file.result file c.make_bytes.new.batch c.in_ok-len.ensures.ok
    (g.F.EngineFiles.may_fail) c.args.sync (g.F.EngineFiles.asked c.sync_append_if.new.files) c.in_err-merge.field-0.0
    (g.F.EngineFiles.asked c.try_put.new.files) c.in_ok-try_put.ensures.ok c.merge.new.self c.apply_batch.new.accessor c.try_put.new.batch.items c.in_ok-sync_append_if.ensures.ok c.in_err-merge.ensures.err c.in_ok-try_put.ensures.placed
    (inr (
      merge_memory e.untold c.in_ok-taken.taken _ _ c.in_err-merge.field-0.0 (c.self.invariant.whole intact).are_untold c.in_ok-taken.ensures.ok c.in_err-merge.ensures.fault,
      c.in_ok-apply_batch.ensures.ok,
      (merge_unnoted c.in_ok-taken.taken _ (rw (c.items-2.ensures) at c.in_ok-taken.ensures.ok) c.in_err-merge.ensures.refused, c.in_err-merge.ensures.err),
    ))))))

pub returns-in_err-check_append_writes-clause-err : goal.returns-in_err-check_append_writes-clause-err
returns-in_err-check_append_writes-clause-err g c =
    let p = err_from_is_err_and c.from_residual.result c.from_residual.ensures.1 in
    let intact : c.args.self.now.intact ≡ true = search rules in
    let fault = subst (λ (o : KeptEngine). IsAppendCheckFault o.accessor.tables c.args.batch.now.items c.in_err-check_append_writes.field-0.0) c.self.view_is (rw (c.items.ensures) at c.in_err-check_append_writes.ensures.fault) in
    rw (p.1, p.2) (inl (refl, refl, test_refusal c.args.self.now c.args.batch.now c.in_err-check_append_writes.field-0.0 intact fault))

pub returns-in_err-len-clause-err : goal.returns-in_err-len-clause-err
returns-in_err-len-clause-err g c =
    let p = err_from_is_err_and c.from_residual-in_err-len.result c.from_residual-in_err-len.ensures.1 in
    let intact : c.args.self.now.intact ≡ true = search rules in
    rw (p.1, p.2) (inl (refl, c.in_err-len.ensures.err, bytes_refusal c.args.self.now c.args.batch.now c.in_err-len.field-0.0 intact c.in_err-len.ensures.fault))

pub returns-then-self-gt-LAST_OFFSET-clause-err : goal.returns-then-self-gt-LAST_OFFSET-clause-err
returns-then-self-gt-LAST_OFFSET-clause-err g c =
    let e = c.self.inside in
    let intact : e.intact ≡ true = search rules in
    let many : 2 ^ 63 < e.append.len = search rules in
    inl (
      refl,
      refl,
      subst (λ (o : KeptEngine). IsRefusal o c.args.batch.now errors.Full) c.self.view_is
          (file_refusal e.version (g.F.EngineFiles.asked e.files) e.append e.rewrite e.untold e.accessor e.intact c.args.batch.now c.self.invariant intact many),
    )
