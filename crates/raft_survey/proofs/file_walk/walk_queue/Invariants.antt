use Rattle.raft_survey.proofs.Common.{drop, AreFilesWalked}
use Rattle.raft_survey.proofs.file_walk.walk_queue.Given as goal

-- with the files that are left, all were shown
abbrev pub invariant-loop-size : goal.invariant-loop-size
invariant-loop-size g l =
    (last : _) → AreFilesWalked g.V.PartVisitor.visits (g.S.ReadFiles.gives l.source) l.queue l.version (drop l.size-index l.sizes) l.visitor last
    → AreFilesWalked g.V.PartVisitor.visits (g.S.ReadFiles.gives l.source) l.queue l.version l.sizes l.fn.visitor last
