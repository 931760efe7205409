use Rattle.raft_reading.proofs.Common.{◌+◌, ◌-◌, length, IsUnderway}
use Rattle.raft_reading.proofs.file_pieces.replay_file_with_buffer.Given as goal

abbrev pub invariant-loop-at : goal.invariant-loop-at
invariant-loop-at g l =
    IsUnderway (g.S.ReadFiles.gives l.source l.file.id) l.file l.len g.M.ReplayMachine.stands_for g.M.ReplayMachine.stands_exactly l.fn.machine l.machine l.at l.piece.items

abbrev pub decreases-loop-at : goal.decreases-loop-at
decreases-loop-at g l = l.len - (l.at + length l.piece.items)
