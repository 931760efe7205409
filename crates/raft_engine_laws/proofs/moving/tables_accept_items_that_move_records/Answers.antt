use Rattle.raft_engine_laws.proofs.TakenAgain.{again_is_taken}
use Rattle.raft_engine_laws.proofs.moving.tables_accept_items_that_move_records.Goals as goal

pub returns : goal.returns
returns c content seq tables items sound low a = again_is_taken content seq tables sound low items a
