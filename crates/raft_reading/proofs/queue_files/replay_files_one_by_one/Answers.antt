use Rattle.raft_reading.proofs.Common.{on_passed, [], IsStoodFor}
use Rattle.raft_reading.proofs.QueueLemmas.{turn_next, turn_stops}
use Rattle.raft_reading.proofs.queue_files.replay_files_one_by_one.Goals as goal

pub returns-in_err-replay_file_with_buffer-clause-fault : goal.returns-in_err-replay_file_with_buffer-clause-fault
returns-in_err-replay_file_with_buffer-clause-fault g c =
    let laws = g.met.M.ReplayMachine g.world.𝓛 g.world.𝓜 g.world.𝓡 ((λ s x. x), (λ x. x), (λ x. x), λ x. x) in
    let machine = c.in_ok-machine.machine in
    let begun = c.requires machine c.in_ok-machine.ensures.ok in
    on_passed _ _ c.from_residual-in_err-replay_file_with_buffer.ensures.1
    (λ not_memory not_own.
    turn_stops (g.S.ReadFiles.gives c.args.source.now) c.args.queue c.args.version g.M.ReplayMachine.stands_for g.M.ReplayMachine.stands_exactly (g.S.ReadFiles.may_fail c.args.source.now) c.args.files.now c.loop-file.file-index _
    machine c.loop-file.machine c.new.result c.new-context.result (IsStoodFor g.M.ReplayMachine.stands_for) c.in_err-replay_file_with_buffer.field-0.0 c.loop-file-test.true c.new.ensures c.new-context.ensures
    (laws.exact_stands machine [] begun) c.loop-file.invariant (c.in_err-replay_file_with_buffer.ensures.fault not_memory))

pub loop-file-preserved : goal.loop-file-preserved
loop-file-preserved g c =
    turn_next (g.S.ReadFiles.gives c.args.source.now) c.args.queue c.args.version g.M.ReplayMachine.stands_for g.M.ReplayMachine.stands_exactly c.args.files.now c.loop-file.file-index _
    c.in_ok-machine.machine c.loop-file.machine c.replay_file_with_buffer.new.machine c.new.result c.new-context.result c.loop-file-test.true c.new.ensures c.new-context.ensures c.loop-file.invariant c.in_ok-replay_file_with_buffer.ensures.ok
