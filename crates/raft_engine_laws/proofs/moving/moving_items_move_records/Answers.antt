use Rattle.raft_engine_laws.proofs.MovingBatches.{moving_kept}
use Rattle.raft_engine_laws.proofs.moving.moving_items_move_records.Goals as goal

pub returns : goal.returns
returns c = moving_kept
