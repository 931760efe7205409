use Rattle.raft_engine.proofs.Common.{err_from_is_err_and, rules, ◌<◌, length}
use Rattle.raft_engine.proofs.MovedRegions.{moved_ready, next_region, some_moved}
use Rattle.raft_engine.proofs.engine.Engine.move_regions_again.Goals as goal

pub loop-region-preserved : goal.loop-region-preserved
loop-region-preserved g c =
    let less : c.loop-region.region-index < length c.args.regions.now = search rules in (
      moved_ready _ _ _ c.loop-region.invariant.0 c.in_ok-move_region_again.ensures.ok,
      next_region c.loop-region.region-index c.args.regions.now _ _ _ _ less c.loop-region.invariant.1 c.in_ok-move_region_again.ensures.ok,
    )

pub returns-in_err-move_region_again-clause-err : goal.returns-in_err-move_region_again-clause-err
returns-in_err-move_region_again-clause-err g c =
    let less : c.loop-region.region-index < length c.args.regions.now = search rules in
    let p = err_from_is_err_and c.from_residual.result c.from_residual.ensures.1 in
    rw (p.1, p.2) (some_moved c.loop-region.region-index c.args.regions.now _ _ _ _ _ less c.loop-region.invariant.1 c.in_err-move_region_again.ensures.err)
