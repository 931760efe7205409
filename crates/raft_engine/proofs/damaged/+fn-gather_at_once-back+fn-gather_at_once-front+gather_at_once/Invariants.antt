use Rattle.raft_engine.proofs.Common.{◌+◌, ◌*◌}
use Rattle.raft_engine.proofs.damaged.+fn-gather_at_once-back+fn-gather_at_once-front+gather_at_once.Given as goal

abbrev pub decreases-back : goal.decreases-back
decreases-back g l = 2 * l.second_half + 1

abbrev pub decreases-front : goal.decreases-front
decreases-front g l = 2 * l.first_half + 1

abbrev pub decreases-gather_at_once : goal.decreases-gather_at_once
decreases-gather_at_once g l = 2 * l.workers
