use Rattle.raft_engine.proofs.Common.{refl}
use Rattle.raft_engine.proofs.GroupRowLemmas.{of_one}
use Rattle.raft_engine.proofs.group_rows.GroupRows.of_batch.Goals as goal

pub returns : goal.returns
returns c = of_one _ c.args.batch refl c.group_left_open.ensures refl
