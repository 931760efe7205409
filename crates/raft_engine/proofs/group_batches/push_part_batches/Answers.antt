use Rattle.raft_engine.proofs.Common.{err_from_is_err_and, rules, ◌≡◌, ◌≢◌, ℕ, List, [], sym, ◌∙◌, subst, IsConsecutive, EntryIndex, IsPartRead, IsPartRefused}
use Rattle.raft_engine.proofs.PartLemmas.{ArePartsSoFar, both_read, prefix_consecutive, part_more, parts_added, parts_refused, so_far_only}
use Rattle.raft_engine.proofs.ReadKept.{read_only}
use Rattle.raft_engine.proofs.RewrittenRegions.{on_any}
use Rattle.raft_engine.proofs.group_batches.push_part_batches.Goals as goal

pub new_part_batch-requires-clause-consecutive : goal.new_part_batch-requires-clause-consecutive
new_part_batch-requires-clause-consecutive g c =
    subst IsConsecutive (sym c.split_at.ensures.front) (prefix_consecutive c.count_in_next_part.result c.loop-rest.rest.now c.loop-rest.invariant.0.consecutive)

pub loop-rest-preserved : goal.loop-rest-preserved
loop-rest-preserved g c =
    let group = c.loop-rest.invariant.2 in
    let some : c.loop-rest.rest.now ≢ [] = search rules in
    let made = subst (λ (n : ℕ). IsPartRead n c.args.region c.split_at.result.0.now (g.F.EngineFiles.asked c.loop-rest.files) (g.F.EngineFiles.asked c.new_part_batch.new.files) c.in_ok-new_part_batch.field-0) group c.in_ok-new_part_batch.ensures.ok in
    let read = subst (λ (es : List EntryIndex). IsPartRead c.args.builder.now.id c.args.region es (g.F.EngineFiles.asked c.loop-rest.files) (g.F.EngineFiles.asked c.new_part_batch.new.files) c.in_ok-new_part_batch.field-0)
    c.split_at.ensures.front made in (
      subst (ArePartsSoFar c.args.entries.now c.args.builder.now.id c.args.region (g.F.EngineFiles.asked c.args.files.now) (g.F.EngineFiles.asked c.new_part_batch.new.files) c.args.batches.now.items c.push.new.self.items)
          (sym c.split_at.ensures.back)
          (part_more c.args.entries.now c.args.builder.now.id c.args.region _ _ _ c.args.batches.now.items c.loop-rest.batches.items c.push.new.self.items c.loop-rest.rest.now c.count_in_next_part.result
          c.in_ok-new_part_batch.field-0 some c.count_in_next_part.ensures read c.in_ok-push.ensures.items c.loop-rest.invariant.0),
      c.in_ok-new_part_batch.ensures.state,
      c.in_ok-new_part_batch.ensures.id ∙ group,
    )

pub returns-in_err-new_part_batch-clause-err : goal.returns-in_err-new_part_batch-clause-err
returns-in_err-new_part_batch-clause-err g c =
    on_any _ _ (both_read _ _ _ (so_far_only _ _ _ _ _ _ _ _ c.loop-rest.invariant.0) c.in_err-new_part_batch.ensures.err)

pub returns-in_err-new_part_batch-clause-refused : goal.returns-in_err-new_part_batch-clause-refused
returns-in_err-new_part_batch-clause-refused g c =
    let p = err_from_is_err_and c.from_residual.result c.from_residual.ensures.1 in
    rw (p.1, p.2) (λ some. parts_refused c.args.entries.now _ _ _ _ _ _ _ c.loop-rest.rest.now c.count_in_next_part.result _ c.loop-rest.invariant.0 c.count_in_next_part.ensures
    (subst (λ (es : List EntryIndex). IsPartRefused (g.F.EngineFiles.may_fail) c.args.region es (g.F.EngineFiles.asked c.loop-rest.files) (g.F.EngineFiles.asked c.new_part_batch.new.files) c.in_err-new_part_batch.field-0.0) c.split_at.ensures.front
    (c.in_err-new_part_batch.ensures.refused some)))

pub returns-in_err-push-clause-err : goal.returns-in_err-push-clause-err
returns-in_err-push-clause-err g c =
    on_any _ _ (both_read _ _ _ (so_far_only _ _ _ _ _ _ _ _ c.loop-rest.invariant.0) (read_only _ _ _ _ c.in_ok-new_part_batch.ensures.ok.read))

pub returns-clause-ok : goal.returns-clause-ok
returns-clause-ok g c =
    let none : c.loop-rest.rest.now ≡ [] = search rules in
    parts_added c.args.entries.now c.args.builder.now.id c.args.region _ _ c.args.batches.now.items c.loop-rest.batches.items c.loop-rest.rest.now none c.loop-rest.invariant.0
