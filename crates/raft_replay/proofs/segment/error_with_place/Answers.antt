use Rattle.std.proofs.Common.{string_bytes}
use Rattle.raft_replay.proofs.StopLemmas.{is_placed}
use Rattle.raft_replay.proofs.segment.error_with_place.Goals as goal

pub returns-in-Corruption-clause-placed : goal.returns-in-Corruption-clause-placed
returns-in-Corruption-clause-placed c = is_placed c.args.id c.args.offset (string_bytes c.in-Corruption.reason) _ (rw c.as_str.ensures.value at c.corruption_at.ensures)
