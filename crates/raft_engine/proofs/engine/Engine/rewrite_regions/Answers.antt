use Rattle.raft_engine.proofs.Common.{err_from_is_err_and, rules, ◌<◌, length}
use Rattle.raft_engine.proofs.RewrittenRegions.{next_region, rewritten_ready, some_rewritten}
use Rattle.raft_engine.proofs.engine.Engine.rewrite_regions.Goals as goal

pub loop-region-preserved : goal.loop-region-preserved
loop-region-preserved g c =
    let less : c.loop-region.region-index < length c.args.regions.now = search rules in (
      rewritten_ready c.args.gate _ _ _ c.loop-region.invariant.0 c.in_ok-rewrite_region.ensures.ok,
      next_region c.args.gate c.loop-region.region-index c.args.regions.now _ _ _ _ less c.loop-region.invariant.1 c.in_ok-rewrite_region.ensures.ok,
    )

pub returns-in_err-rewrite_region-clause-err : goal.returns-in_err-rewrite_region-clause-err
returns-in_err-rewrite_region-clause-err g c =
    let less : c.loop-region.region-index < length c.args.regions.now = search rules in
    let p = err_from_is_err_and c.from_residual.result c.from_residual.ensures.1 in
    rw (p.1, p.2) (some_rewritten c.args.gate c.loop-region.region-index c.args.regions.now _ _ _ _ _ less c.loop-region.invariant.1 c.in_err-rewrite_region.ensures.err)
