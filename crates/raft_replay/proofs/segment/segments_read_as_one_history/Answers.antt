use Rattle.raft_replay.proofs.SegmentLemmas.{segments_unique}
use Rattle.raft_replay.proofs.segment.segments_read_as_one_history.Goals as goal

pub returns : goal.returns
returns c = segments_unique
