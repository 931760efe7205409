use Rattle.raft_engine.proofs.Common.{IfOk-weaker}
use Rattle.raft_engine.proofs.DamagedLemmas.{damaged_whole, stop_reached}
use Rattle.raft_engine.proofs.damaged.damaged_batches_alone.Goals as goal

pub gather_damaged-requires : goal.gather_damaged-requires
gather_damaged-requires c = stop_reached c.args.file.now c.end_of_batches.result c.end_of_batches.ensures

pub returns-clause-ok : goal.returns-clause-ok
returns-clause-ok c = IfOk-weaker c.gather_damaged.result _ _ (λ damaged between. damaged_whole c.args.file.now c.end_of_batches.result damaged.items c.end_of_batches.ensures between) c.gather_damaged.ensures.ok
