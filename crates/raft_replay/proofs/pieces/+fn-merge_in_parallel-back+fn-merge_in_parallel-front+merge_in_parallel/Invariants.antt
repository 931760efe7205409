use Rattle.raft_replay.proofs.Common.{◌+◌, ◌*◌, leaves}
use Rattle.raft_replay.proofs.pieces.+fn-merge_in_parallel-back+fn-merge_in_parallel-front+merge_in_parallel.Given as goal

abbrev pub decreases-back : goal.decreases-back
decreases-back g l = 2 * leaves l.right.now + 1

abbrev pub decreases-front : goal.decreases-front
decreases-front g l = 2 * leaves l.left.now + 1

abbrev pub decreases-merge_in_parallel : goal.decreases-merge_in_parallel
decreases-merge_in_parallel g l = 2 * leaves l.plan.now
