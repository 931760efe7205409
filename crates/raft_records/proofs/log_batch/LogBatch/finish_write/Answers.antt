use Rattle.raft_records.proofs.Common.{◌≡◌, ◌+◌, ◌-◌, ◌∙◌, map, ap, FileBlockHandle, placed_item, Batch, IsSealedStage, log_batch_bytes, stage_of, entry_bytes_in, uncompressed}
use Rattle.raft_records.proofs.StageLemmas.{place_is, placed_held, placed_view, log_bytes_placed, batch_with}
use Rattle.raft_records.proofs.log_batch.LogBatch.finish_write.Goals as goal

-- the place that the entries get
place : (c : goal.After-set_places) → FileBlockHandle
place c = record { id = c.args.handle.id; offset = c.args.handle.offset + 16; len = c.item_batch_offset.result - 16 }

places : (c : goal.After-set_places) → c.set_places.new.self ≡ map (placed_item (place c) uncompressed) c.self.inside.item_batch
unfolding place
places c = c.set_places.ensures

pub invariant_of-self : goal.invariant_of-self
invariant_of-self c =
    let is_sealed : IsSealedStage (stage_of c.self.inside.state) = rw (← c.self.view_is) at c.requires.sealed in
    rw (places c) (placed_held (place c) uncompressed (stage_of c.self.inside.state) c.self.inside.item_batch c.self.inside.buf.items is_sealed c.self.invariant)

viewed : (c : goal.After-set_places) → batch_with c.set_places.new.self (entry_bytes_in c.set_places.new.self c.self.inside.buf.items)
    (stage_of c.self.inside.state) ≡ batch_with (map (placed_item (place c) uncompressed) c.args.self.now.items) c.args.self.now.entry_bytes
    c.args.self.now.stage
viewed c =
    placed_view (place c) uncompressed c.args.self.now (stage_of c.self.inside.state) c.self.inside.item_batch c.set_places.new.self c.self.inside.buf.items c.self.view_is (places c)

pub returns-clause-placed : goal.returns-clause-placed
unfolding place
returns-clause-placed c =
    let is = place_is c.args.handle c.args.self.now (stage_of c.self.inside.state) c.self.inside.item_batch
    (entry_bytes_in c.self.inside.item_batch c.self.inside.buf.items) c.entries_size.result c.item_batch_offset.result c.self.view_is
    c.self.invariant.whole c.entries_size.ensures c.item_batch_offset.ensures in
    viewed c ∙ ap (λ (handle : FileBlockHandle). batch_with (map (placed_item handle uncompressed) c.args.self.now.items) c.args.self.now.entry_bytes c.args.self.now.stage) is

pub returns-clause-bytes : goal.returns-clause-bytes
returns-clause-bytes c signature =
    ap (λ (b : Batch). log_batch_bytes signature b.items b.entry_bytes) (viewed c) ∙ log_bytes_placed (place c) uncompressed signature c.args.self.now.items c.args.self.now.entry_bytes
