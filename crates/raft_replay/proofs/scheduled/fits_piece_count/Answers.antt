use Rattle.raft_replay.proofs.Common.{arith, leaves, pieces_in}
use Rattle.raft_replay.proofs.MachineOrderLemmas.{pieces_few, fits_is}
use Rattle.raft_replay.proofs.scheduled.fits_piece_count.Goals as goal

pub returns-else-segments-eq0 : goal.returns-else-segments-eq0
returns-else-segments-eq0 c =
    fits_is (leaves c.args.plan.now) (pieces_in c.args.segments c.args.draws.now) c.args.segments c.leaves.result c.piece_count.result
    c.leaves.ensures c.piece_count.ensures (pieces_few c.args.segments c.args.draws.now) c.requires (omega arith)
