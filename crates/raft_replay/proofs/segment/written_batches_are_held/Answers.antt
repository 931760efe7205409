use Rattle.raft_replay.proofs.WrittenPartLemmas.{batch_held}
use Rattle.raft_replay.proofs.segment.written_batches_are_held.Goals as goal

pub returns : goal.returns
returns c = batch_held
