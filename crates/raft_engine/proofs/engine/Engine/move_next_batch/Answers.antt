use Rattle.raft_engine.proofs.Common.{err_from_is_err_and, rules, ◌≡◌, ◌≢◌, ◌<◌, ◌^◌, List, [], ◌++◌, None, option_map, length, true, false, inl, inr, refl, sym, ap, ◌∙◌, subst, FileId, Ask, KeptEngine, AreToMove, IsBatchHalfMoved, IsBatchMoved, IsBatchUnmoved, IsReady}
use Rattle.raft_engine.proofs.Common.{AreOnlyRead, LogFileContext, Rewrite, Item, none_some, Rewriting, placed_at, AreTaken, IsNextRefused}
use Rattle.std.specs.FinMap as finite
use Rattle.raft_base.specs.declared.errors.Error.TheVariants as errors
use Rattle.raft_engine.proofs.KeptMoves.{batch_refused, bytes_refused, file_refused, half_moved, kept_moved, kept_read, made_applied, made_asked, made_placed, moved_tried, none_moved, put_broken, region_moved, unmoved_tried}
use Rattle.raft_engine.proofs.ReadKept.{read_only}
use Rattle.raft_engine.proofs.RefusalLemmas.{rewrite_full}
use Rattle.raft_engine.proofs.FaultLemmas.{put_whole, writable_of}
use Rattle.raft_engine.proofs.LeftEntries.{left_behind, next_consecutive, next_of}
use Rattle.raft_engine.proofs.UntakenLemmas.{untaken}
use Rattle.raft_engine.proofs.engine.Engine.move_next_batch.Goals as goal

pub invariant_of-self : goal.invariant_of-self
invariant_of-self g c =
    let e = c.self.inside in
    let old : List Ask = g.F.EngineFiles.asked e.files in
    let between : List Ask = g.F.EngineFiles.asked c.next_moving_batch.new.files in
    kept_read c.moves_are_stored.ensures.read e.version old e.append e.rewrite e.untold e.accessor e.intact c.self.invariant between c.in_err-batch.ensures.err

pub invariant_of-self-then-is_empty : goal.invariant_of-self-then-is_empty
invariant_of-self-then-is_empty g c =
    let e = c.self.inside in
    let old : List Ask = g.F.EngineFiles.asked e.files in
    let between : List Ask = g.F.EngineFiles.asked c.next_moving_batch.new.files in
    let m = c.in_ok-batch.ensures.ok in
    let reads : AreOnlyRead old between = read_only _ m.strings old between m.read in
    kept_read c.moves_are_stored.ensures.read e.version old e.append e.rewrite e.untold e.accessor e.intact c.self.invariant between reads

pub returns-then-is_empty-clause-ok : goal.returns-then-is_empty-clause-ok
returns-then-is_empty-clause-ok g c =
    let e = c.self.inside in
    let old : List Ask = g.F.EngineFiles.asked e.files in
    let between : List Ask = g.F.EngineFiles.asked c.next_moving_batch.new.files in
    let m = c.in_ok-batch.ensures.ok in
    let ready : IsReady (record { version = e.version; asks = old; untold = e.untold; accessor = e.accessor; intact = e.intact }) = subst IsReady (sym c.self.view_is) c.requires.ready in
    let empty : c.in_ok-batch.batch.items ≡ [] = search rules in
    (subst (λ (o : KeptEngine). IsBatchMoved c.args.gate c.args.left.now c.args.region o (record { version = e.version; asks = between; untold = e.untold; accessor = e.accessor; intact = e.intact })) c.self.view_is
    (none_moved c.moves_are_stored.ensures.read e.version old e.append e.rewrite e.untold e.accessor e.intact c.self.invariant
    c.moves_are_stored.ensures.moved ready.intact ready.synced ready.told c.args.gate c.args.left.now c.args.region c.in-Some.table.now (sym c.in-Some.ensures.value) c.in-Some.ensures.own c.holds_one_run.ensures
    between c.in_ok-batch.batch m empty))

pub invariant_of-self-in_err-len : goal.invariant_of-self-in_err-len
invariant_of-self-in_err-len g c =
    let e = c.self.inside in
    let old : List Ask = g.F.EngineFiles.asked e.files in
    let between : List Ask = g.F.EngineFiles.asked c.next_moving_batch.new.files in
    let m = c.in_ok-batch.ensures.ok in
    let reads : AreOnlyRead old between = read_only _ m.strings old between m.read in
    kept_read c.moves_are_stored.ensures.read e.version old e.append e.rewrite e.untold e.accessor e.intact c.self.invariant between reads

pub returns-then-self-gt-LAST_OFFSET-clause-err : goal.returns-then-self-gt-LAST_OFFSET-clause-err
returns-then-self-gt-LAST_OFFSET-clause-err g c =
    let e = c.self.inside in
    let old : List Ask = g.F.EngineFiles.asked e.files in
    let ready : IsReady (record { version = e.version; asks = old; untold = e.untold; accessor = e.accessor; intact = e.intact }) = subst IsReady (sym c.self.view_is) c.requires.ready in
    let many : 2 ^ 63 < e.rewrite.len = search rules in
    subst (λ (o : KeptEngine). IsBatchUnmoved (g.F.EngineFiles.may_fail) c.args.gate c.args.left.now c.args.region o o errors.Full) c.self.view_is
    (file_refused c.moves_are_stored.ensures.read e.version old e.append e.rewrite e.untold e.accessor e.intact c.self.invariant c.args.gate c.args.left.now c.args.region
    (rewrite_full e.version old e.append e.rewrite e.untold e.accessor e.intact c.self.invariant ready.intact many))

pub returns-in_err-batch-clause-err : goal.returns-in_err-batch-clause-err
returns-in_err-batch-clause-err g c =
    let e = c.self.inside in
    let old : List Ask = g.F.EngineFiles.asked e.files in
    let between : List Ask = g.F.EngineFiles.asked c.next_moving_batch.new.files in
    let p = err_from_is_err_and c.from_residual.result c.from_residual.ensures.1 in
    rw (p.1, p.2)
    (subst (λ (o : KeptEngine). IsBatchUnmoved (g.F.EngineFiles.may_fail) c.args.gate c.args.left.now c.args.region o (record { version = e.version; asks = between; untold = e.untold; accessor = e.accessor; intact = e.intact }) c.in_err-batch.field-0.0) c.self.view_is
    (batch_refused c.moves_are_stored.ensures.read e.version old e.append e.rewrite e.untold e.accessor e.intact c.self.invariant c.args.gate c.args.left.now c.args.region
    c.in-Some.table.now (sym c.in-Some.ensures.value) between c.in_err-batch.field-0.0 c.in_err-batch.ensures.err c.in_err-batch.ensures.refused))

pub returns-in_err-len-clause-err : goal.returns-in_err-len-clause-err
returns-in_err-len-clause-err g c =
    let e = c.self.inside in
    let old : List Ask = g.F.EngineFiles.asked e.files in
    let between : List Ask = g.F.EngineFiles.asked c.next_moving_batch.new.files in
    let m = c.in_ok-batch.ensures.ok in
    let ready : IsReady (record { version = e.version; asks = old; untold = e.untold; accessor = e.accessor; intact = e.intact }) = subst IsReady (sym c.self.view_is) c.requires.ready in
    let p = err_from_is_err_and c.from_residual-in_err-len.result c.from_residual-in_err-len.ensures.1 in
    rw (p.1, p.2)
    (subst (λ (o : KeptEngine). IsBatchUnmoved (g.F.EngineFiles.may_fail) c.args.gate c.args.left.now c.args.region o (record { version = e.version; asks = between; untold = e.untold; accessor = e.accessor; intact = e.intact }) c.in_err-len.field-0.0) c.self.view_is
    (bytes_refused c.moves_are_stored.ensures.read e.version old e.append e.rewrite e.untold e.accessor e.intact c.self.invariant
    c.moves_are_stored.ensures.moved ready.intact ready.synced ready.told c.args.gate c.args.left.now c.args.region c.in-Some.table.now (sym c.in-Some.ensures.value) c.in-Some.ensures.own c.holds_one_run.ensures
    between c.in_ok-batch.batch m c.in_err-len.field-0.0 c.in_err-len.ensures.fault))

pub invariant_of-self-in_err-try_put : goal.invariant_of-self-in_err-try_put
invariant_of-self-in_err-try_put g c =
    let e = c.self.inside in
    let old : List Ask = g.F.EngineFiles.asked e.files in
    let between : List Ask = g.F.EngineFiles.asked c.next_moving_batch.new.files in
    let m = c.in_ok-batch.ensures.ok in
    let ready : IsReady (record { version = e.version; asks = old; untold = e.untold; accessor = e.accessor; intact = e.intact }) = subst IsReady (sym c.self.view_is) c.requires.ready in
    let some : c.in_ok-batch.batch.items ≢ [] = search rules in
    let w = writable_of c.is_read_again.ensures.tiled c.is_read_again.ensures.in_range c.is_read_again.ensures.in_bytes some c.in_ok-len.ensures.accepted in
    let file = c.new-file.ensures ∙ ap (λ (id : FileId). record { id = id; version = e.version }) c.new.ensures in
    moved_tried c.moves_are_stored.ensures.read e.version old e.append e.rewrite e.untold e.accessor e.intact c.self.invariant
    c.moves_are_stored.ensures.moved ready.intact ready.synced ready.told c.args.gate c.args.left.now c.args.region c.in-Some.table.now (sym c.in-Some.ensures.value) c.in-Some.ensures.own c.holds_one_run.ensures
    between c.in_ok-batch.batch m w c.new-file.result file c.finish_populate.new.self c.in_ok-len.ensures.ok
    c.moves_are_stored.ensures.put (g.F.EngineFiles.asked c.try_put.new.files) c.try_put.new.intact c.in_err-try_put.ensures.as_before c.in_err-try_put.ensures.err

pub returns-in_err-try_put-clause-err : goal.returns-in_err-try_put-clause-err
returns-in_err-try_put-clause-err g c =
    let e = c.self.inside in
    let old : List Ask = g.F.EngineFiles.asked e.files in
    let between : List Ask = g.F.EngineFiles.asked c.next_moving_batch.new.files in
    let m = c.in_ok-batch.ensures.ok in
    let ready : IsReady (record { version = e.version; asks = old; untold = e.untold; accessor = e.accessor; intact = e.intact }) = subst IsReady (sym c.self.view_is) c.requires.ready in
    let some : c.in_ok-batch.batch.items ≢ [] = search rules in
    let w = writable_of c.is_read_again.ensures.tiled c.is_read_again.ensures.in_range c.is_read_again.ensures.in_bytes some c.in_ok-len.ensures.accepted in
    let its : LogFileContext = record { id = record { queue = Rewrite; seq = e.rewrite.seq }; version = e.version } in
    let file : c.new-file.result ≡ its = c.new-file.ensures ∙ ap (λ (id : FileId). record { id = id; version = e.version }) c.new.ensures in
    let new : List Ask = g.F.EngineFiles.asked c.try_put.new.files in
    let p = err_from_is_err_and c.from_residual-in_err-try_put.result c.from_residual-in_err-try_put.ensures.1 in
    rw (p.1, p.2)
    (subst (λ (o : KeptEngine). IsBatchUnmoved (g.F.EngineFiles.may_fail) c.args.gate c.args.left.now c.args.region o
    (record { version = e.version; asks = new; untold = e.untold; accessor = e.accessor; intact = c.try_put.new.intact }) c.in_err-try_put.field-0.0) c.self.view_is
    (unmoved_tried c.moves_are_stored.ensures.read e.version old e.append e.rewrite e.untold e.accessor e.intact c.self.invariant
    c.moves_are_stored.ensures.moved ready.intact ready.synced ready.told c.args.gate c.args.left.now c.args.region c.in-Some.table.now (sym c.in-Some.ensures.value) c.in-Some.ensures.own c.holds_one_run.ensures
    between c.in_ok-batch.batch m w c.new-file.result file c.finish_populate.new.self c.in_ok-len.ensures.ok
    new c.try_put.new.intact c.in_err-try_put.field-0.0 c.in_err-try_put.ensures.as_before c.in_err-try_put.ensures.err c.in_err-try_put.ensures.fault))

pub invariant_of-self-in_err-rewrite_items : goal.invariant_of-self-in_err-rewrite_items
invariant_of-self-in_err-rewrite_items g c =
    let e = c.self.inside in
    let old : List Ask = g.F.EngineFiles.asked e.files in
    let between : List Ask = g.F.EngineFiles.asked c.next_moving_batch.new.files in
    let m = c.in_ok-batch.ensures.ok in
    let ready : IsReady (record { version = e.version; asks = old; untold = e.untold; accessor = e.accessor; intact = e.intact }) = subst IsReady (sym c.self.view_is) c.requires.ready in
    let some : c.in_ok-batch.batch.items ≢ [] = search rules in
    let w = writable_of c.is_read_again.ensures.tiled c.is_read_again.ensures.in_range c.is_read_again.ensures.in_bytes some c.in_ok-len.ensures.accepted in
    let file = c.new-file.ensures ∙ ap (λ (id : FileId). record { id = id; version = e.version }) c.new.ensures in
    put_broken c.moves_are_stored.ensures.read e.version old e.append e.rewrite e.untold e.accessor e.intact c.self.invariant
    c.moves_are_stored.ensures.moved ready.intact ready.synced ready.told c.args.gate c.args.left.now c.args.region c.in-Some.table.now (sym c.in-Some.ensures.value) c.in-Some.ensures.own c.holds_one_run.ensures
    between c.in_ok-batch.batch m w
    c.moves_are_stored.ensures.put (g.F.EngineFiles.asked c.try_put.new.files) e.append e.rewrite e.untold c.rewrite_items.new.accessor
    (made_asked c.moves_are_stored.ensures.read e.version old e.append e.rewrite e.untold e.accessor e.intact c.self.invariant
    c.moves_are_stored.ensures.moved ready.intact ready.synced ready.told c.args.gate c.args.left.now c.args.region c.in-Some.table.now (sym c.in-Some.ensures.value) c.in-Some.ensures.own c.holds_one_run.ensures
    between c.in_ok-batch.batch m w c.new-file.result file c.finish_populate.new.self c.in_ok-len.ensures.ok (g.F.EngineFiles.asked c.try_put.new.files) c.in_ok-try_put.ensures.ok)

pub returns-in_err-rewrite_items-clause-err : goal.returns-in_err-rewrite_items-clause-err
returns-in_err-rewrite_items-clause-err g c =
    let e = c.self.inside in
    let old : List Ask = g.F.EngineFiles.asked e.files in
    let between : List Ask = g.F.EngineFiles.asked c.next_moving_batch.new.files in
    let m = c.in_ok-batch.ensures.ok in
    let ready : IsReady (record { version = e.version; asks = old; untold = e.untold; accessor = e.accessor; intact = e.intact }) = subst IsReady (sym c.self.view_is) c.requires.ready in
    let some : c.in_ok-batch.batch.items ≢ [] = search rules in
    let w = writable_of c.is_read_again.ensures.tiled c.is_read_again.ensures.in_range c.is_read_again.ensures.in_bytes some c.in_ok-len.ensures.accepted in
    let its : LogFileContext = record { id = record { queue = Rewrite; seq = e.rewrite.seq }; version = e.version } in
    let file : c.new-file.result ≡ its = c.new-file.ensures ∙ ap (λ (id : FileId). record { id = id; version = e.version }) c.new.ensures in
    let new : List Ask = g.F.EngineFiles.asked c.try_put.new.files in
    let bytes = (c.self.invariant.whole ready.intact).rewrite_files.bytes in
    let are : c.try_put.new.batch.items ≡ placed_at its.id (length bytes) c.in_ok-batch.batch = made_placed c.moves_are_stored.ensures.read e.version old e.append e.rewrite e.untold e.accessor e.intact c.self.invariant
    c.moves_are_stored.ensures.moved ready.intact ready.synced ready.told c.args.gate c.args.left.now c.args.region c.in-Some.table.now (sym c.in-Some.ensures.value) c.in-Some.ensures.own c.holds_one_run.ensures
    between c.in_ok-batch.batch m w
    c.new-file.result file c.finish_populate.new.self c.in_ok-len.ensures.ok c.try_put.new.batch.items c.in_ok-try_put.ensures.placed in
    let p = err_from_is_err_and c.from_residual-in_err-rewrite_items.result c.from_residual-in_err-rewrite_items.ensures.1 in
    rw (p.1, p.2)
    (inr (inl (subst (λ (o : KeptEngine). IsBatchHalfMoved (g.F.EngineFiles.may_fail) c.args.gate c.args.left.now c.args.region o
    (record { version = e.version; asks = new; untold = e.untold; accessor = c.rewrite_items.new.accessor; intact = false }) c.in_err-rewrite_items.field-0.0) c.self.view_is
    (half_moved c.moves_are_stored.ensures.read e.version old e.append e.rewrite e.untold e.accessor e.intact c.self.invariant
    c.moves_are_stored.ensures.moved ready.intact ready.synced ready.told c.args.gate c.args.left.now c.args.region c.in-Some.table.now (sym c.in-Some.ensures.value) c.in-Some.ensures.own c.holds_one_run.ensures
    between c.in_ok-batch.batch m w
    new c.rewrite_items.new.accessor c.in_err-rewrite_items.field-0.0
    (inr (
      put_whole c.new-file.result its c.finish_populate.new.self c.in_ok-batch.batch between new file c.in_ok-len.ensures.ok some c.in_ok-try_put.ensures.ok,
      untaken c.args.gate c.args.left.now c.in-Some.table.now old between c.in_ok-batch.batch e.rewrite.seq (length bytes) e.accessor c.rewrite_items.new.accessor c.in_err-rewrite_items.field-0.0
          (ap (finite.get e.accessor.tables) c.in-Some.ensures.own ∙ sym c.in-Some.ensures.value) c.holds_one_run.ensures m
          (λ taken. c.in_err-rewrite_items.ensures.room (subst (AreTaken c.args.gate e.rewrite.seq e.accessor.tables) (sym are) taken))
          (subst (λ (l : List Item). IsNextRefused (Rewriting c.args.gate e.rewrite.seq) l e.accessor c.rewrite_items.new.accessor c.in_err-rewrite_items.field-0.0) are c.in_err-rewrite_items.ensures.fault),
    ))))))

pub invariant_of-self-2 : goal.invariant_of-self-2
invariant_of-self-2 g c =
    let e = c.self.inside in
    let old : List Ask = g.F.EngineFiles.asked e.files in
    let between : List Ask = g.F.EngineFiles.asked c.next_moving_batch.new.files in
    let m = c.in_ok-batch.ensures.ok in
    let ready : IsReady (record { version = e.version; asks = old; untold = e.untold; accessor = e.accessor; intact = e.intact }) = subst IsReady (sym c.self.view_is) c.requires.ready in
    let some : c.in_ok-batch.batch.items ≢ [] = search rules in
    let w = writable_of c.is_read_again.ensures.tiled c.is_read_again.ensures.in_range c.is_read_again.ensures.in_bytes some c.in_ok-len.ensures.accepted in
    let file = c.new-file.ensures ∙ ap (λ (id : FileId). record { id = id; version = e.version }) c.new.ensures in
    kept_moved c.moves_are_stored.ensures.read e.version old e.append e.rewrite e.untold e.accessor e.intact c.self.invariant
    c.moves_are_stored.ensures.moved ready.intact ready.synced ready.told c.args.gate c.args.left.now c.args.region c.in-Some.table.now (sym c.in-Some.ensures.value) c.in-Some.ensures.own c.holds_one_run.ensures
    between c.in_ok-batch.batch m w (g.F.EngineFiles.asked c.try_put.new.files)
    (made_asked c.moves_are_stored.ensures.read e.version old e.append e.rewrite e.untold e.accessor e.intact c.self.invariant
    c.moves_are_stored.ensures.moved ready.intact ready.synced ready.told c.args.gate c.args.left.now c.args.region c.in-Some.table.now (sym c.in-Some.ensures.value) c.in-Some.ensures.own c.holds_one_run.ensures
    between c.in_ok-batch.batch m w c.new-file.result file c.finish_populate.new.self c.in_ok-len.ensures.ok (g.F.EngineFiles.asked c.try_put.new.files) c.in_ok-try_put.ensures.ok)
    c.rewrite_items.new.accessor
    (made_applied c.moves_are_stored.ensures.read e.version old e.append e.rewrite e.untold e.accessor e.intact c.self.invariant
    c.moves_are_stored.ensures.moved ready.intact ready.synced ready.told c.args.gate c.args.left.now c.args.region c.in-Some.table.now (sym c.in-Some.ensures.value) c.in-Some.ensures.own c.holds_one_run.ensures
    between c.in_ok-batch.batch m w c.new-file.result file c.finish_populate.new.self c.in_ok-len.ensures.ok c.try_put.new.batch.items c.rewrite_items.new.accessor c.in_ok-try_put.ensures.placed c.in_ok-rewrite_items.ensures.ok)
    c.batches_are_read_back.ensures.moved _ c.in_ok-len.len c.in_ok-len.ensures.len refl refl refl

pub returns-clause-ok : goal.returns-clause-ok
returns-clause-ok g c =
    let e = c.self.inside in
    let old : List Ask = g.F.EngineFiles.asked e.files in
    let between : List Ask = g.F.EngineFiles.asked c.next_moving_batch.new.files in
    let m = c.in_ok-batch.ensures.ok in
    let ready : IsReady (record { version = e.version; asks = old; untold = e.untold; accessor = e.accessor; intact = e.intact }) = subst IsReady (sym c.self.view_is) c.requires.ready in
    let some : c.in_ok-batch.batch.items ≢ [] = search rules in
    let w = writable_of c.is_read_again.ensures.tiled c.is_read_again.ensures.in_range c.is_read_again.ensures.in_bytes some c.in_ok-len.ensures.accepted in
    let file = c.new-file.ensures ∙ ap (λ (id : FileId). record { id = id; version = e.version }) c.new.ensures in
    (subst (λ (o : KeptEngine). IsBatchMoved c.args.gate c.args.left.now c.args.region o
    (record {
      version = e.version;
      asks = (g.F.EngineFiles.asked c.try_put.new.files);
      untold = e.untold;
      accessor = c.rewrite_items.new.accessor;
      intact = true;
    })) c.self.view_is
    (region_moved c.moves_are_stored.ensures.read e.version old e.append e.rewrite e.untold e.accessor e.intact c.self.invariant
    c.moves_are_stored.ensures.moved ready.intact ready.synced ready.told c.args.gate c.args.left.now c.args.region c.in-Some.table.now (sym c.in-Some.ensures.value) c.in-Some.ensures.own c.holds_one_run.ensures
    between c.in_ok-batch.batch m w (g.F.EngineFiles.asked c.try_put.new.files)
    (made_asked c.moves_are_stored.ensures.read e.version old e.append e.rewrite e.untold e.accessor e.intact c.self.invariant
    c.moves_are_stored.ensures.moved ready.intact ready.synced ready.told c.args.gate c.args.left.now c.args.region c.in-Some.table.now (sym c.in-Some.ensures.value) c.in-Some.ensures.own c.holds_one_run.ensures
    between c.in_ok-batch.batch m w c.new-file.result file c.finish_populate.new.self c.in_ok-len.ensures.ok (g.F.EngineFiles.asked c.try_put.new.files) c.in_ok-try_put.ensures.ok)
    c.rewrite_items.new.accessor
    (made_applied c.moves_are_stored.ensures.read e.version old e.append e.rewrite e.untold e.accessor e.intact c.self.invariant
    c.moves_are_stored.ensures.moved ready.intact ready.synced ready.told c.args.gate c.args.left.now c.args.region c.in-Some.table.now (sym c.in-Some.ensures.value) c.in-Some.ensures.own c.holds_one_run.ensures
    between c.in_ok-batch.batch m w c.new-file.result file c.finish_populate.new.self c.in_ok-len.ensures.ok c.try_put.new.batch.items c.rewrite_items.new.accessor c.in_ok-try_put.ensures.placed c.in_ok-rewrite_items.ensures.ok)))

pub next_moving_batch-requires-clause-next : goal.next_moving_batch-requires-clause-next
next_moving_batch-requires-clause-next g c =
    let e = c.self.inside in
    let old : List Ask = g.F.EngineFiles.asked e.files in
    next_of c.args.gate c.args.region (record { version = e.version; asks = old; untold = e.untold; accessor = e.accessor; intact = e.intact }) c.in-Some.table.now c.args.part.now c.args.left.now (sym c.in-Some.ensures.value)
    (subst (λ (o : KeptEngine). AreToMove c.args.gate c.args.region o (c.args.part.now ++ c.args.left.now)) (sym c.self.view_is) c.requires.to_move) c.requires.next

pub next_moving_batch-requires-clause-consecutive : goal.next_moving_batch-requires-clause-consecutive
next_moving_batch-requires-clause-consecutive g c =
    let e = c.self.inside in
    let old : List Ask = g.F.EngineFiles.asked e.files in
    next_consecutive c.args.gate c.in-Some.table.now c.args.part.now c.args.left.now c.holds_one_run.ensures
    (next_of c.args.gate c.args.region (record { version = e.version; asks = old; untold = e.untold; accessor = e.accessor; intact = e.intact }) c.in-Some.table.now c.args.part.now c.args.left.now (sym c.in-Some.ensures.value)
    (subst (λ (o : KeptEngine). AreToMove c.args.gate c.args.region o (c.args.part.now ++ c.args.left.now)) (sym c.self.view_is) c.requires.to_move) c.requires.next)

pub returns-then-is_empty-clause-left : goal.returns-then-is_empty-clause-left
returns-then-is_empty-clause-left g c some =
    let there = ap (λ (o : KeptEngine). finite.get o.accessor.tables c.args.region) (sym c.self.view_is) ∙ sym c.in-Some.ensures.value in
    left_behind c.args.gate c.args.left.now c.args.region c.args.self.now _ c.in-Some.table.now there c.in-Some.ensures.own c.holds_one_run.ensures some (returns-then-is_empty-clause-ok g c)

pub returns-clause-left : goal.returns-clause-left
returns-clause-left g c some =
    let there = ap (λ (o : KeptEngine). finite.get o.accessor.tables c.args.region) (sym c.self.view_is) ∙ sym c.in-Some.ensures.value in
    left_behind c.args.gate c.args.left.now c.args.region c.args.self.now _ c.in-Some.table.now there c.in-Some.ensures.own c.holds_one_run.ensures some (returns-clause-ok g c)

pub returns-in_default-clause-ok : goal.returns-in_default-clause-ok
returns-in_default-clause-ok g c =
    let none : finite.get c.self.inside.accessor.tables c.args.region ≡ None = sym c.get.ensures.value ∙ ap (option_map (λ t. t.now)) c.in_default.is in
    absurd (none_some (sym none ∙ ap (λ (o : KeptEngine). finite.get o.accessor.tables c.args.region) c.self.view_is ∙ c.requires.to_move.there))

pub returns-in_default-clause-left : goal.returns-in_default-clause-left
returns-in_default-clause-left g c some =
    let none : finite.get c.self.inside.accessor.tables c.args.region ≡ None = sym c.get.ensures.value ∙ ap (option_map (λ t. t.now)) c.in_default.is in
    absurd (none_some (sym none ∙ ap (λ (o : KeptEngine). finite.get o.accessor.tables c.args.region) c.self.view_is ∙ c.requires.to_move.there))
