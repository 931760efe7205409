use Rattle.raft_engine.proofs.Common.{err_from_is_err_and, rules, ◌≡◌, ◌≢◌, [], sym, ap, ◌∙◌, subst, KeptEngine, AreToMove}
use Rattle.std.specs.FinMap as finite
use Rattle.raft_engine.proofs.NextParts.{fewer_left, joined_parts, parted_next, past_gate}
use Rattle.raft_engine.proofs.RewrittenRegions.{all_so_far, more_so_far, none_so_far, unlisted, unmoved_so_far}
use Rattle.raft_engine.proofs.engine.Engine.rewrite_region.Goals as goal

pub loop-entries-init : goal.loop-entries-init
loop-entries-init g c =
    let there = ap (λ (o : KeptEngine). finite.get o.accessor.tables c.args.region) (sym c.self.view_is) ∙ sym c.in-Some.ensures.value in
    none_so_far c.args.gate c.args.region c.args.self.now c.in-Some.table.now c.as_slice-rest.result.now there (c.as_slice-rest.ensures.value ∙ c.in_ok-entries.ensures.ok) c.requires

pub move_next_batch-requires-clause-to_move : goal.move_next_batch-requires-clause-to_move
move_next_batch-requires-clause-to_move g c =
    subst (AreToMove c.args.gate c.args.region c.loop-entries.self)
    (joined_parts c.args.gate c.loop-entries.rest.now c.split_at.result.0.now c.split_at.result.1.now c.count_in_next_batch.result c.split_at.ensures.front c.split_at.ensures.back c.count_in_next_batch.ensures.part c.count_in_next_batch.ensures.all)
    c.loop-entries.invariant.to_move

pub move_next_batch-requires-clause-next : goal.move_next_batch-requires-clause-next
move_next_batch-requires-clause-next g c =
    parted_next c.args.gate c.loop-entries.rest.now c.split_at.result.0.now c.split_at.result.1.now c.count_in_next_batch.result c.split_at.ensures.front c.split_at.ensures.back c.count_in_next_batch.ensures.part c.count_in_next_batch.ensures.all

pub returns-then-is_empty-clause-ok : goal.returns-then-is_empty-clause-ok
returns-then-is_empty-clause-ok g c =
    let none : c.split_at.result.1.now ≡ [] = search rules in
    all_so_far c.args.gate c.args.region c.args.self.now c.loop-entries.self c.move_next_batch.new.self c.loop-entries.rest.now c.split_at.result.1.now c.loop-entries.invariant none c.in_ok-move_next_batch.ensures.ok

pub loop-entries-preserved : goal.loop-entries-preserved
loop-entries-preserved g c =
    let some : c.split_at.result.1.now ≢ [] = search rules in
    let past = past_gate c.args.gate c.loop-entries.rest.now c.split_at.result.0.now c.split_at.result.1.now c.count_in_next_batch.result c.split_at.ensures.front c.split_at.ensures.back c.count_in_next_batch.ensures.part c.count_in_next_batch.ensures.all some in
    more_so_far c.args.gate c.args.region c.args.self.now c.loop-entries.self c.move_next_batch.new.self c.loop-entries.rest.now c.split_at.result.1.now c.loop-entries.invariant some c.in_ok-move_next_batch.ensures.ok
    (c.in_ok-move_next_batch.ensures.left past)

pub loop-entries-smaller : goal.loop-entries-smaller
loop-entries-smaller g c =
    let some : c.split_at.result.1.now ≢ [] = search rules in
    fewer_left c.args.gate c.loop-entries.rest.now c.split_at.result.0.now c.split_at.result.1.now c.count_in_next_batch.result c.split_at.ensures.front c.split_at.ensures.back c.count_in_next_batch.ensures.part c.count_in_next_batch.ensures.all some

pub returns-in_err-entries-clause-err : goal.returns-in_err-entries-clause-err
returns-in_err-entries-clause-err g c =
    let p = err_from_is_err_and c.from_residual.result c.from_residual.ensures.1 in
    rw (p.1, p.2) (unlisted c.args.gate c.args.region c.args.self.now _ c.in_err-entries.ensures.memory)

pub returns-in_err-move_next_batch-clause-err : goal.returns-in_err-move_next_batch-clause-err
returns-in_err-move_next_batch-clause-err g c =
    let p = err_from_is_err_and c.from_residual-in_err-move_next_batch.result c.from_residual-in_err-move_next_batch.ensures.1 in
    rw (p.1, p.2) (unmoved_so_far c.args.gate c.args.region c.args.self.now c.loop-entries.self c.move_next_batch.new.self c.loop-entries.rest.now c.split_at.result.1.now _ c.loop-entries.invariant c.in_err-move_next_batch.ensures.err)
