use Rattle.raft_engine.proofs.Common.{IfOk-weaker}
use Rattle.raft_engine.proofs.DamagedLemmas.{damaged_whole, stop_reached}
use Rattle.raft_engine.proofs.damaged.damaged_batches.Goals as goal

pub gather_at_once-requires : goal.gather_at_once-requires
gather_at_once-requires g c = (c.type_bounds.sync-R, stop_reached c.args.file.now c.end_of_batches.result c.end_of_batches.ensures)

pub returns-clause-ok : goal.returns-clause-ok
returns-clause-ok g c = IfOk-weaker c.gather_at_once.result _ _ (λ damaged between. damaged_whole c.args.file.now c.end_of_batches.result damaged.items c.end_of_batches.ensures between) c.gather_at_once.ensures.ok
