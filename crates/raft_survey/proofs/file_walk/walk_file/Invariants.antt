use Rattle.raft_survey.proofs.Common.{◌-◌, ◌+◌, length}
use Rattle.raft_survey.proofs.WalkedLemmas.{IsReading}
use Rattle.raft_survey.proofs.file_walk.walk_file.Given as goal

abbrev pub invariant-loop-piece : goal.invariant-loop-piece
invariant-loop-piece g l = IsReading g.V.PartVisitor.visits l.file (g.S.ReadFiles.gives l.source l.file.id) l.len l.fn.visitor l.at l.piece.items l.visitor

abbrev pub decreases-loop-piece : goal.decreases-loop-piece
decreases-loop-piece g l = l.len - (l.at + length l.piece.items)
