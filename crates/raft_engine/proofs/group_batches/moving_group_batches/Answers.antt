use Rattle.raft_engine.proofs.Common.{◌≡◌, ℕ, List, ◌∷◌, [], ◌++◌, ap, ◌∙◌, subst, AtomicGroupBuilder, Batch, End, pairs_shown, marker_batch, ArePartsAdded, with_puts}
use Rattle.raft_records.specs.declared.atomic_group.AtomicGroupStatus.TheVariants.{Begin}
use Rattle.raft_engine.proofs.PartLemmas.{group_made, parts_only}
use Rattle.raft_engine.proofs.RewrittenRegions.{on_any}
use Rattle.raft_engine.proofs.group_batches.moving_group_batches.Goals as goal

pub returns-clause-ok : goal.returns-clause-ok
returns-clause-ok g c =
    let old = g.F.EngineFiles.asked c.args.files.now in
    let new = g.F.EngineFiles.asked c.push_part_batches.new.files in
    let t = c.args.table.now in
    let made : c.with_id-builder.result.id ≡ c.args.group = ap (λ (b : AtomicGroupBuilder). b.id) c.with_id-builder.ensures in
    let begun : c.new_begin_batch.new.builder.id ≡ c.args.group = ap (λ (b : AtomicGroupBuilder). b.id) c.in_ok-new_begin_batch.ensures.state ∙ made in
    let is_first : c.push.new.self.items ≡ marker_batch c.args.group Begin ∷ [] =
    c.in_ok-push.ensures.items ∙ ap (λ (l : List Batch). l ++ c.in_ok-new_begin_batch.field-0 ∷ []) c.new-batches.ensures.items
    ∙ ap (λ (b : Batch). b ∷ []) (c.in_ok-new_begin_batch.ensures.ok ∙ ap (λ (n : ℕ). marker_batch n Begin) made) in
    let added : ArePartsAdded c.as_slice.result.now c.args.group t.region_id old new c.push.new.self.items c.push_part_batches.new.batches.items =
    subst (λ (n : ℕ). ArePartsAdded c.as_slice.result.now n t.region_id old new c.push.new.self.items c.push_part_batches.new.batches.items) begun
    (subst (λ (r : ℕ). ArePartsAdded c.as_slice.result.now c.new_begin_batch.new.builder.id r old new c.push.new.self.items c.push_part_batches.new.batches.items) c.region_id-region.ensures c.in_ok-push_part_batches.ensures.ok) in
    let ps = pairs_shown c.in_ok-pairs.pairs.items in
    let is_last : c.in_ok-new_end_batch.field-0 ≡ with_puts (marker_batch c.args.group End) t.region_id ps =
    c.in_ok-new_end_batch.ensures.ok ∙ ap (λ (n : ℕ). with_puts (marker_batch n End) c.region_id-region.result ps) (c.in_ok-push_part_batches.ensures.id ∙ begun)
    ∙ ap (λ (r : ℕ). with_puts (marker_batch c.args.group End) r ps) c.region_id-region.ensures in
    group_made t c.args.group c.as_slice.result.now (c.as_slice.ensures.value ∙ c.in_ok-entries.ensures.ok) old new c.push.new.self.items c.push_part_batches.new.batches.items is_first added
    ps c.in_ok-new_end_batch.field-0 c.push-2.new.self.items c.in_ok-pairs.ensures.ok c.in_ok-new_end_batch.ensures.ordinary is_last c.in_ok-push-2.ensures.items

pub returns-in_err-new_end_batch-clause-err : goal.returns-in_err-new_end_batch-clause-err
returns-in_err-new_end_batch-clause-err g c = on_any _ _ (parts_only c.in_ok-push_part_batches.ensures.ok.parts _ _ c.in_ok-push_part_batches.ensures.ok.read)

pub returns-in_err-push-2-clause-err : goal.returns-in_err-push-2-clause-err
returns-in_err-push-2-clause-err g c = on_any _ _ (parts_only c.in_ok-push_part_batches.ensures.ok.parts _ _ c.in_ok-push_part_batches.ensures.ok.read)
