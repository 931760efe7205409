use Rattle.raft_engine.proofs.Common.{length, ap, subst, sym, StopsAt, IsTailOf}
use Rattle.raft_engine.proofs.blocks.end_of_batches.Goals as goal

pub returns-in-Some : goal.returns-in-Some
returns-in-Some c = let told : IsTailOf c.args.file.now c.in-Some.tail = rw c.in-Some.is at c.requires in told.torn.0

pub returns-in-None : goal.returns-in-None
returns-in-None c =
    let stops : StopsAt c.args.file.now (length c.args.file.now.bytes) = rw c.in-None.is at c.requires in
    subst (StopsAt c.args.file.now) (sym (ap length c.bytes.ensures)) stops
