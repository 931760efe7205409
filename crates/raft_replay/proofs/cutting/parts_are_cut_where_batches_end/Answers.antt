use Rattle.raft_replay.proofs.CutBatchLemmas.{cut_where_batches_end}
use Rattle.raft_replay.proofs.cutting.parts_are_cut_where_batches_end.Goals as goal

pub returns : goal.returns
returns c = λ part at first inside held. cut_where_batches_end part at inside first held
