use Rattle.raft_reading.proofs.Common.{◌+◌, ◌*◌}
use Rattle.raft_reading.proofs.queue_files.+fn-replay_files_in_parallel-back+fn-replay_files_in_parallel-front+replay_files_in_parallel.Given as goal

abbrev pub decreases-back : goal.decreases-back
decreases-back g l = 2 * l.second_half + 1

abbrev pub decreases-front : goal.decreases-front
decreases-front g l = 2 * l.first_half + 1

abbrev pub decreases-replay_files_in_parallel : goal.decreases-replay_files_in_parallel
decreases-replay_files_in_parallel g l = 2 * l.workers
