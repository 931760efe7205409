use Rattle.raft_engine.proofs.Common.{◌≡◌, [], ◌∷◌, refl, arith, part_of, batch_inside, event, HasReplayed, none_replayed, replayed_more, longer_front}
use Rattle.raft_engine.proofs.readable_replay.replay_readable.Goals as goal

pub loop-next-init : goal.loop-next-init
loop-next-init g c = record {
  inside = omega arith;
  read = none_replayed g.M.ReplayMachine.stands_for g.M.ReplayMachine.stands_exactly _ c.args.machine.now ([], refl, refl);
}

pub loop-next-preserved : goal.loop-next-preserved
loop-next-preserved g c =
    let part = part_of c.args.file.now c.args.offset c.args.bytes.now in
    let stands = rw c.in-Ok-Some.field-0-is at c.in-Ok-Some.ensures.ok in
    let before = c.loop-next.invariant.read in
    let one : HasReplayed (λ h. h ≡ event c.read_next.new.self part.id ∷ []) g.M.ReplayMachine.stands_for g.M.ReplayMachine.stands_exactly c.loop-next.machine c.replay_read.new.self = record {
      history = event _ part.id ∷ [];
      held = refl;
      stands = λ h small stood. c.in_ok-replay_read-in-Ok-Some.ensures.stands h small stood;
      exact = λ h small stood. c.in_ok-replay_read-in-Ok-Some.ensures.exact h small stood;
    } in
    record {
      inside = (batch_inside part c.loop-next.at _ c.in-Ok-Some.next stands).1;
      read =
          replayed_more g.M.ReplayMachine.stands_for g.M.ReplayMachine.stands_exactly _ _ _ c.args.machine.now c.loop-next.machine c.replay_read.new.self before one
          (longer_front part c.loop-next.at c.in-Ok-Some.next _ before.history before.held stands);
    }
