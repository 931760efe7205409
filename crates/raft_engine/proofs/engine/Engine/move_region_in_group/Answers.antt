use Rattle.raft_engine.proofs.Common.{err_from_is_err_and, ◌≡◌, List, [], inl, inr, None, true, false, refl, sym, ap, ◌∙◌, subst, AllByRecursion, FileId, LogFileContext, Rewrite, Item, Batch, encoded, AreWritten, Rewriting, Ask, puts_asks, IsGroupInParts, BeginInTime, KeptEngine}
use Rattle.raft_engine.proofs.Common.{IsReady, IsGroupHalfMoved, IsGroupMoved, IsGroupUnmoved, IsNextRefused, FailsAmong}
use Rattle.raft_engine.proofs.KeptGroups.{all_broken, first_broken, group_half, group_kept, group_long, group_moved, group_open, group_reads, group_some, group_unmade, made_encoded, made_first, made_in_time, made_places, made_put}
use Rattle.raft_engine.proofs.KeptMoves.{kept_read}
use Rattle.raft_engine.proofs.engine.Engine.move_region_in_group.Goals as goal

pub invariant_of-self : goal.invariant_of-self
invariant_of-self g c =
    let e = c.self.inside in
    let old : List Ask = g.F.EngineFiles.asked e.files in
    let between : List Ask = g.F.EngineFiles.asked c.moving_group_batches.new.files in
    kept_read c.moves_are_stored.ensures.read e.version old e.append e.rewrite e.untold e.accessor e.intact
    c.self.invariant between c.in_err-batches.ensures.err

pub encode_batches-requires-clause-opened : goal.encode_batches-requires-clause-opened
encode_batches-requires-clause-opened g c =
    let e = c.self.inside in
    let old : List Ask = g.F.EngineFiles.asked e.files in
    let between : List Ask = g.F.EngineFiles.asked c.moving_group_batches.new.files in
    let p : IsGroupInParts c.in-Some.table.now old between e.rewrite.seq c.in_ok-batches.batches.items = c.in_ok-batches.ensures.ok in
    group_open _ _ _ _ _ p

pub encode_batches-requires-clause-some : goal.encode_batches-requires-clause-some
encode_batches-requires-clause-some g c =
    let e = c.self.inside in
    let old : List Ask = g.F.EngineFiles.asked e.files in
    let between : List Ask = g.F.EngineFiles.asked c.moving_group_batches.new.files in
    let p : IsGroupInParts c.in-Some.table.now old between e.rewrite.seq c.in_ok-batches.batches.items = c.in_ok-batches.ensures.ok in
    group_some _ _ _ _ _ p

pub put_batches-requires-clause-encoded : goal.put_batches-requires-clause-encoded
put_batches-requires-clause-encoded g c =
    subst (AllByRecursion (λ (b : Batch). b.stage ≡ encoded)) (sym c.in_ok-made.ensures.ok) (made_encoded c.in_ok-batches.batches.items)

pub put_batches-requires-clause-in_time : goal.put_batches-requires-clause-in_time
put_batches-requires-clause-in_time g c =
    subst (BeginInTime c.self.inside.rewrite.len) (sym c.in_ok-made.ensures.ok) (made_in_time c.self.inside.rewrite.len c.in_ok-batches.batches.items c.in_ok-made.ensures.in_time)

pub invariant_of-self-in_err-made : goal.invariant_of-self-in_err-made
invariant_of-self-in_err-made g c =
    let e = c.self.inside in
    let old : List Ask = g.F.EngineFiles.asked e.files in
    let between : List Ask = g.F.EngineFiles.asked c.moving_group_batches.new.files in
    let before : KeptEngine = record { version = e.version; asks = old; untold = e.untold; accessor = e.accessor; intact = e.intact } in
    let ready : IsReady before = subst IsReady (sym c.self.view_is) c.requires in
    let p : IsGroupInParts c.in-Some.table.now old between e.rewrite.seq c.in_ok-batches.batches.items = c.in_ok-batches.ensures.ok in
    kept_read c.moves_are_stored.ensures.read e.version old e.append e.rewrite e.untold e.accessor e.intact
    c.self.invariant between (group_reads c.moves_are_stored.ensures.read e.version old e.append e.rewrite e.untold e.accessor e.intact
    c.self.invariant ready.intact c.args.region c.in-Some.table.now (sym c.in-Some.ensures.value) between
    c.in_ok-batches.batches.items p)

pub returns-in_err-batches-clause-err : goal.returns-in_err-batches-clause-err
returns-in_err-batches-clause-err g c =
    let e = c.self.inside in
    let old : List Ask = g.F.EngineFiles.asked e.files in
    let between : List Ask = g.F.EngineFiles.asked c.moving_group_batches.new.files in
    let after : KeptEngine = record { version = e.version; asks = between; untold = e.untold; accessor = e.accessor; intact = e.intact } in
    let q = err_from_is_err_and c.from_residual.result c.from_residual.ensures.1 in
    rw (q.1, q.2)
    (subst (λ (o : KeptEngine). IsGroupUnmoved (g.F.EngineFiles.may_fail) c.args.region o after c.in_err-batches.field-0.0) c.self.view_is
    (group_unmade c.moves_are_stored.ensures.read e.version old e.append e.rewrite e.untold e.accessor e.intact
    c.self.invariant c.args.region c.in-Some.table.now (sym c.in-Some.ensures.value) between
    c.in_err-batches.field-0.0 c.in_err-batches.ensures.err c.in_err-batches.ensures.refused))

pub returns-in_err-made-clause-err : goal.returns-in_err-made-clause-err
returns-in_err-made-clause-err g c =
    let e = c.self.inside in
    let old : List Ask = g.F.EngineFiles.asked e.files in
    let between : List Ask = g.F.EngineFiles.asked c.moving_group_batches.new.files in
    let before : KeptEngine = record { version = e.version; asks = old; untold = e.untold; accessor = e.accessor; intact = e.intact } in
    let ready : IsReady before = subst IsReady (sym c.self.view_is) c.requires in
    let p : IsGroupInParts c.in-Some.table.now old between e.rewrite.seq c.in_ok-batches.batches.items = c.in_ok-batches.ensures.ok in
    let after : KeptEngine = record { version = e.version; asks = between; untold = e.untold; accessor = e.accessor; intact = e.intact } in
    let q = err_from_is_err_and c.from_residual-in_err-made.result c.from_residual-in_err-made.ensures.1 in
    rw (q.1, q.2)
    (subst (λ (o : KeptEngine). IsGroupUnmoved (g.F.EngineFiles.may_fail) c.args.region o after c.in_err-made.field-0.0) c.self.view_is
    (group_long c.moves_are_stored.ensures.read e.version old e.append e.rewrite e.untold e.accessor e.intact
    c.self.invariant ready.intact c.args.region c.in-Some.table.now (sym c.in-Some.ensures.value) between
    c.in_ok-batches.batches.items p c.in_err-made.field-0.0 c.in_err-made.ensures.refused))

pub invariant_of-self-in_err-placed : goal.invariant_of-self-in_err-placed
invariant_of-self-in_err-placed g c =
    let e = c.self.inside in
    let old : List Ask = g.F.EngineFiles.asked e.files in
    let between : List Ask = g.F.EngineFiles.asked c.moving_group_batches.new.files in
    let before : KeptEngine = record { version = e.version; asks = old; untold = e.untold; accessor = e.accessor; intact = e.intact } in
    let ready : IsReady before = subst IsReady (sym c.self.view_is) c.requires in
    let p : IsGroupInParts c.in-Some.table.now old between e.rewrite.seq c.in_ok-batches.batches.items = c.in_ok-batches.ensures.ok in
    let new : List Ask = g.F.EngineFiles.asked c.put_batches.new.files in
    let file : LogFileContext = record { id = record { queue = Rewrite; seq = e.rewrite.seq }; version = e.version } in
    let is_file : c.new-file.result ≡ file =
    c.new-file.ensures ∙ ap (λ (id : FileId). record { id = id; version = e.version }) c.new.ensures in
    let first = made_first c.new-file.result file is_file c.in_ok-batches.batches.items c.in_ok-made.made.items c.in_ok-made.ensures.ok
    between new c.in_err-placed.ensures.err in
    first_broken c.moves_are_stored.ensures.read e.version old e.append e.rewrite e.untold e.accessor e.intact
    c.self.invariant ready.intact c.args.region c.in-Some.table.now (sym c.in-Some.ensures.value) between
    c.in_ok-batches.batches.items p
    c.moved_groups_are_stored.ensures ready.synced ready.told c.in-Some.ensures.own c.in_ok-made.ensures.writable
    new e.append e.rewrite e.untold e.accessor first

pub returns-in_err-placed-clause-err : goal.returns-in_err-placed-clause-err
returns-in_err-placed-clause-err g c =
    let e = c.self.inside in
    let old : List Ask = g.F.EngineFiles.asked e.files in
    let between : List Ask = g.F.EngineFiles.asked c.moving_group_batches.new.files in
    let before : KeptEngine = record { version = e.version; asks = old; untold = e.untold; accessor = e.accessor; intact = e.intact } in
    let ready : IsReady before = subst IsReady (sym c.self.view_is) c.requires in
    let p : IsGroupInParts c.in-Some.table.now old between e.rewrite.seq c.in_ok-batches.batches.items = c.in_ok-batches.ensures.ok in
    let new : List Ask = g.F.EngineFiles.asked c.put_batches.new.files in
    let file : LogFileContext = record { id = record { queue = Rewrite; seq = e.rewrite.seq }; version = e.version } in
    let is_file : c.new-file.result ≡ file =
    c.new-file.ensures ∙ ap (λ (id : FileId). record { id = id; version = e.version }) c.new.ensures in
    let after : KeptEngine = record { version = e.version; asks = new; untold = e.untold; accessor = e.accessor; intact = false } in
    let q = err_from_is_err_and c.from_residual-in_err-placed.result c.from_residual-in_err-placed.ensures.1 in
    rw (q.1, q.2)
    (inr (subst (λ (o : KeptEngine). IsGroupHalfMoved (g.F.EngineFiles.may_fail) c.args.region o after c.in_err-placed.field-0.0) c.self.view_is
    (group_half c.moves_are_stored.ensures.read e.version old e.append e.rewrite e.untold e.accessor e.intact
    c.self.invariant ready.intact c.args.region c.in-Some.table.now (sym c.in-Some.ensures.value) between
    c.in_ok-batches.batches.items p new e.accessor c.in_err-placed.field-0.0
    (inl (
      subst (λ (l : List Ask). FailsAmong (g.F.EngineFiles.may_fail) l between new c.in_err-placed.field-0.0)
          (made_put c.new-file.result file is_file c.in_ok-batches.batches.items c.in_ok-made.made.items c.in_ok-made.ensures.ok [] _ refl) c.in_err-placed.ensures.fault,
      refl,
    )))))

pub invariant_of-self-in_err-rewrite_batch_items : goal.invariant_of-self-in_err-rewrite_batch_items
invariant_of-self-in_err-rewrite_batch_items g c =
    let e = c.self.inside in
    let old : List Ask = g.F.EngineFiles.asked e.files in
    let between : List Ask = g.F.EngineFiles.asked c.moving_group_batches.new.files in
    let before : KeptEngine = record { version = e.version; asks = old; untold = e.untold; accessor = e.accessor; intact = e.intact } in
    let ready : IsReady before = subst IsReady (sym c.self.view_is) c.requires in
    let p : IsGroupInParts c.in-Some.table.now old between e.rewrite.seq c.in_ok-batches.batches.items = c.in_ok-batches.ensures.ok in
    let new : List Ask = g.F.EngineFiles.asked c.put_batches.new.files in
    let file : LogFileContext = record { id = record { queue = Rewrite; seq = e.rewrite.seq }; version = e.version } in
    let is_file : c.new-file.result ≡ file =
    c.new-file.ensures ∙ ap (λ (id : FileId). record { id = id; version = e.version }) c.new.ensures in
    let is_new : new ≡ puts_asks file c.in_ok-batches.batches.items between =
    made_put c.new-file.result file is_file c.in_ok-batches.batches.items c.in_ok-made.made.items c.in_ok-made.ensures.ok between new c.in_ok-placed.ensures.ok in
    all_broken c.moves_are_stored.ensures.read e.version old e.append e.rewrite e.untold e.accessor e.intact
    c.self.invariant ready.intact c.args.region c.in-Some.table.now (sym c.in-Some.ensures.value) between
    c.in_ok-batches.batches.items p
    c.moved_groups_are_stored.ensures ready.synced ready.told c.in-Some.ensures.own c.in_ok-made.ensures.writable
    new e.append e.rewrite e.untold c.rewrite_batch_items.new.accessor is_new

pub returns-in_err-rewrite_batch_items-clause-err : goal.returns-in_err-rewrite_batch_items-clause-err
returns-in_err-rewrite_batch_items-clause-err g c =
    let e = c.self.inside in
    let old : List Ask = g.F.EngineFiles.asked e.files in
    let between : List Ask = g.F.EngineFiles.asked c.moving_group_batches.new.files in
    let before : KeptEngine = record { version = e.version; asks = old; untold = e.untold; accessor = e.accessor; intact = e.intact } in
    let ready : IsReady before = subst IsReady (sym c.self.view_is) c.requires in
    let p : IsGroupInParts c.in-Some.table.now old between e.rewrite.seq c.in_ok-batches.batches.items = c.in_ok-batches.ensures.ok in
    let new : List Ask = g.F.EngineFiles.asked c.put_batches.new.files in
    let file : LogFileContext = record { id = record { queue = Rewrite; seq = e.rewrite.seq }; version = e.version } in
    let is_file : c.new-file.result ≡ file =
    c.new-file.ensures ∙ ap (λ (id : FileId). record { id = id; version = e.version }) c.new.ensures in
    let places = made_places c.new-file.result file is_file c.in_ok-batches.batches.items c.in_ok-made.made.items c.in_ok-made.ensures.ok
    e.rewrite.len _ _ (c.self.invariant.whole ready.intact).rewrite_files.ends c.in_ok-placed.ensures.placed in
    let after : KeptEngine = record { version = e.version; asks = new; untold = e.untold; accessor = c.rewrite_batch_items.new.accessor; intact = false } in
    let q = err_from_is_err_and c.from_residual-in_err-rewrite_batch_items.result c.from_residual-in_err-rewrite_batch_items.ensures.1 in
    rw (q.1, q.2)
    (inr (subst (λ (o : KeptEngine). IsGroupHalfMoved (g.F.EngineFiles.may_fail) c.args.region o after c.in_err-rewrite_batch_items.field-0.0) c.self.view_is
    (group_half c.moves_are_stored.ensures.read e.version old e.append e.rewrite e.untold e.accessor e.intact
    c.self.invariant ready.intact c.args.region c.in-Some.table.now (sym c.in-Some.ensures.value) between
    c.in_ok-batches.batches.items p new c.rewrite_batch_items.new.accessor c.in_err-rewrite_batch_items.field-0.0
    (inr (
      made_put c.new-file.result file is_file c.in_ok-batches.batches.items c.in_ok-made.made.items c.in_ok-made.ensures.ok between new c.in_ok-placed.ensures.ok,
      subst (λ (l : List Item). IsNextRefused (Rewriting None e.rewrite.seq) l e.accessor c.rewrite_batch_items.new.accessor c.in_err-rewrite_batch_items.field-0.0) places c.in_err-rewrite_batch_items.ensures.fault,
    )))))

pub invariant_of-self-2 : goal.invariant_of-self-2
invariant_of-self-2 g c =
    let e = c.self.inside in
    let old : List Ask = g.F.EngineFiles.asked e.files in
    let between : List Ask = g.F.EngineFiles.asked c.moving_group_batches.new.files in
    let before : KeptEngine = record { version = e.version; asks = old; untold = e.untold; accessor = e.accessor; intact = e.intact } in
    let ready : IsReady before = subst IsReady (sym c.self.view_is) c.requires in
    let p : IsGroupInParts c.in-Some.table.now old between e.rewrite.seq c.in_ok-batches.batches.items = c.in_ok-batches.ensures.ok in
    let new : List Ask = g.F.EngineFiles.asked c.put_batches.new.files in
    let file : LogFileContext = record { id = record { queue = Rewrite; seq = e.rewrite.seq }; version = e.version } in
    let is_file : c.new-file.result ≡ file =
    c.new-file.ensures ∙ ap (λ (id : FileId). record { id = id; version = e.version }) c.new.ensures in
    let is_new : new ≡ puts_asks file c.in_ok-batches.batches.items between =
    made_put c.new-file.result file is_file c.in_ok-batches.batches.items c.in_ok-made.made.items c.in_ok-made.ensures.ok between new c.in_ok-placed.ensures.ok in
    let places = made_places c.new-file.result file is_file c.in_ok-batches.batches.items c.in_ok-made.made.items c.in_ok-made.ensures.ok
    e.rewrite.len _ _ (c.self.invariant.whole ready.intact).rewrite_files.ends c.in_ok-placed.ensures.placed in
    let applied = subst (λ (l : List Item). AreWritten (Rewriting None e.rewrite.seq) l e.accessor c.rewrite_batch_items.new.accessor) places
    c.in_ok-rewrite_batch_items.ensures.ok in
    group_kept c.moves_are_stored.ensures.read e.version old e.append e.rewrite e.untold e.accessor e.intact
    c.self.invariant ready.intact c.args.region c.in-Some.table.now (sym c.in-Some.ensures.value) between
    c.in_ok-batches.batches.items p
    c.moved_groups_are_stored.ensures ready.synced ready.told c.in-Some.ensures.own c.in_ok-made.ensures.writable
    new is_new c.rewrite_batch_items.new.accessor applied c.batches_are_read_back.ensures.groups
    _ refl refl c.in_ok-made.ensures.end

pub returns-clause-ok : goal.returns-clause-ok
returns-clause-ok g c =
    let e = c.self.inside in
    let old : List Ask = g.F.EngineFiles.asked e.files in
    let between : List Ask = g.F.EngineFiles.asked c.moving_group_batches.new.files in
    let before : KeptEngine = record { version = e.version; asks = old; untold = e.untold; accessor = e.accessor; intact = e.intact } in
    let ready : IsReady before = subst IsReady (sym c.self.view_is) c.requires in
    let p : IsGroupInParts c.in-Some.table.now old between e.rewrite.seq c.in_ok-batches.batches.items = c.in_ok-batches.ensures.ok in
    let new : List Ask = g.F.EngineFiles.asked c.put_batches.new.files in
    let file : LogFileContext = record { id = record { queue = Rewrite; seq = e.rewrite.seq }; version = e.version } in
    let is_file : c.new-file.result ≡ file =
    c.new-file.ensures ∙ ap (λ (id : FileId). record { id = id; version = e.version }) c.new.ensures in
    let is_new : new ≡ puts_asks file c.in_ok-batches.batches.items between =
    made_put c.new-file.result file is_file c.in_ok-batches.batches.items c.in_ok-made.made.items c.in_ok-made.ensures.ok between new c.in_ok-placed.ensures.ok in
    let places = made_places c.new-file.result file is_file c.in_ok-batches.batches.items c.in_ok-made.made.items c.in_ok-made.ensures.ok
    e.rewrite.len _ _ (c.self.invariant.whole ready.intact).rewrite_files.ends c.in_ok-placed.ensures.placed in
    let applied = subst (λ (l : List Item). AreWritten (Rewriting None e.rewrite.seq) l e.accessor c.rewrite_batch_items.new.accessor) places
    c.in_ok-rewrite_batch_items.ensures.ok in
    let after : KeptEngine = record { version = e.version; asks = new; untold = e.untold; accessor = c.rewrite_batch_items.new.accessor; intact = true } in
    inr (subst (λ (o : KeptEngine). IsGroupMoved c.args.region o after) c.self.view_is
    (group_moved c.moves_are_stored.ensures.read e.version old e.append e.rewrite e.untold e.accessor e.intact
    c.self.invariant ready.intact c.args.region c.in-Some.table.now (sym c.in-Some.ensures.value) between
    c.in_ok-batches.batches.items p
    c.moved_groups_are_stored.ensures ready.synced ready.told c.in-Some.ensures.own c.in_ok-made.ensures.writable
    new is_new c.rewrite_batch_items.new.accessor applied))
