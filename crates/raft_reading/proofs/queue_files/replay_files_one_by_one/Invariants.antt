use Rattle.raft_reading.proofs.Common.{take}
use Rattle.raft_reading.proofs.QueueLemmas.{IsTurn}
use Rattle.raft_reading.proofs.queue_files.replay_files_one_by_one.Given as goal

abbrev pub invariant-loop-file : goal.invariant-loop-file
invariant-loop-file g l =
    IsTurn (g.S.ReadFiles.gives l.source) l.queue l.version g.M.ReplayMachine.stands_for g.M.ReplayMachine.stands_exactly (take l.file-index l.files) l.initial.machine l.machine
