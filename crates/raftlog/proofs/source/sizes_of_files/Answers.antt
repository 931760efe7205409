use Rattle.raftlog.proofs.SourceLemmas.{all_sized, one_more}
use Rattle.raftlog.proofs.source.sizes_of_files.Goals as goal

pub loop-path-preserved : goal.loop-path-preserved
loop-path-preserved g c =
    one_more c.args.paths.now c.loop-path.path-index c.path-item.result c.loop-path.sizes.items c.push.new.self.items c.in_ok-size.size c.loop-path-test.true c.path-item.is c.in_ok-size.ensures c.in_ok-push.ensures.items
    c.loop-path.invariant

pub returns : goal.returns
returns g c = all_sized c.args.paths.now c.loop-path.path-index c.loop-path.sizes.items c.loop-path-test.false c.loop-path.invariant
