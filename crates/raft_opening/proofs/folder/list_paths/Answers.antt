use Rattle.raft_opening.proofs.Common.{refl}
use Rattle.raft_opening.proofs.PathLemmas.{none_sized, one_sized}
use Rattle.raft_opening.proofs.folder.list_paths.Goals as goal

pub loop-file-init : goal.loop-file-init
loop-file-init g c = none_sized _ _ c.new-paths.ensures.items c.new-sizes.ensures.items

pub loop-file-preserved : goal.loop-file-preserved
loop-file-preserved g c =
    one_sized c.loop-file.paths.items c.push.new.self.items c.loop-file.sizes.items c.push-in-loop-file.new.self.items _ _ refl c.in_ok-push.ensures.items c.in_ok-push-2.ensures.items c.loop-file.invariant
