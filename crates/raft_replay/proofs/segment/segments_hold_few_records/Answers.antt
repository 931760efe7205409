use Rattle.raft_replay.proofs.FewRecordLemmas.{small_segments}
use Rattle.raft_replay.proofs.segment.segments_hold_few_records.Goals as goal

pub returns : goal.returns
returns c = small_segments
