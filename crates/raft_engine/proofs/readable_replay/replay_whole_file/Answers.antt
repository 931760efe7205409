use Rattle.raft_engine.proofs.ReadQueueLemmas.{replayed_to_end, replayed_to_tail, same_part}
use Rattle.raft_engine.proofs.readable_replay.replay_whole_file.Goals as goal

pub returns-in_default : goal.returns-in_default
returns-in_default g c =
    let same = same_part _ c.args.file.now _ _ _ c.new-context.ensures c.id.ensures c.version.ensures c.offset.ensures.value c.bytes.ensures in
    replayed_to_end g.M.ReplayMachine.stands_for g.M.ReplayMachine.stands_exactly _ c.args.file.now same _ c.args.machine.now c.replay_readable.new.machine
    c.in_ok-at.ensures.replayed (rw c.in_default.is at c.in_ok-at.ensures.whole)

pub returns : goal.returns
returns g c =
    let same = same_part _ c.args.file.now _ _ _ c.new-context.ensures c.id.ensures c.version.ensures c.offset.ensures.value c.bytes.ensures in
    replayed_to_tail g.M.ReplayMachine.stands_for g.M.ReplayMachine.stands_exactly _ c.args.file.now same _ c.args.machine.now c.replay_readable.new.machine
    c.in_ok-at.ensures.replayed c.in-Some.error (rw c.in-Some.is at c.in_ok-at.ensures.whole) ((rw c.in-Some.is at c.in_ok-at.ensures.refused) c.in_ok-unless_memory.ensures.ok)
    (rw c.in-Some.is at c.in_ok-at.ensures.fault) c.in_ok-unless_memory.ensures.ok _ c.from.ensures
