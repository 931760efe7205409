use Rattle.raft_engine.proofs.Common.{◌∷◌, [], IfOk, subst, Part, IsReplayedTo}
use Rattle.raft_engine.proofs.ReadQueueLemmas.{merged_last, only_last}
use Rattle.raft_engine.proofs.queue_reading.read_last_file.Goals as goal

pub returns-in-Ok : goal.returns-in-Ok
returns-in-Ok g c = λ version file whole.
    merged_last c.args.queue version g.M.ReplayMachine.stands_for g.M.ReplayMachine.stands_exactly file c.args.last.now c.args.machine.now c.in-Ok.newer c.merge.new.self whole c.in-Ok.ensures
    (λ h k small older newer. c.in_ok-merge-in-Ok.ensures.stands h k small older newer) (λ h k small apart older newer. c.in_ok-merge-in-Ok.ensures.exact h k small apart older newer)

pub returns-in-Some : goal.returns-in-Some
returns-in-Some g c = λ version file whole.
    subst (λ (p : Part). IfOk c.replay_whole_file.result (λ tail. IsReplayedTo g.M.ReplayMachine.stands_for g.M.ReplayMachine.stands_exactly p c.args.machine.now c.replay_whole_file.new.machine tail))
    (only_last c.args.queue version file c.in-Some.part.now (rw c.in-Some.is at (c.last_file_part.ensures c.args.queue version (file ∷ []) whole))) c.replay_whole_file.ensures

pub returns-in-None : goal.returns-in-None
returns-in-None g c = λ version file whole. absurd (let none = rw c.in-None.is at (c.last_file_part.ensures c.args.queue version (file ∷ []) whole) in cc)
