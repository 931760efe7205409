use Rattle.raft_replay.proofs.Common.{◌≡◌, [], ◌∷◌, refl, sym, subst, arith, event, batch_inside, part_of, HasReplayed}
use Rattle.raft_replay.proofs.Words.{PartHolds}
use Rattle.raft_replay.proofs.ReplayedLemmas.{none_replayed, replayed_more, replayed_as}
use Rattle.raft_replay.proofs.StopLemmas.{IsFront, longer_front, front_held, stopped_unreadable, stopped_refused, part_refused}
use Rattle.raft_replay.proofs.segment.replay_bytes.Goals as goal

pub loop-next-init : goal.loop-next-init
loop-next-init g c = record {
  inside = omega arith;
  read = none_replayed g.M.ReplayMachine.stands_for g.M.ReplayMachine.stands_exactly _ c.args.machine.now ([], refl, refl);
}

pub loop-next-preserved : goal.loop-next-preserved
loop-next-preserved g c =
    let part = part_of c.args.file.now c.args.offset c.args.bytes.now in
    let stands = rw c.in-Ok-Some.field-0-is at c.in-Ok-Some.ensures.ok in
    let before = c.loop-next.invariant.read in
    let one : HasReplayed (λ h. h ≡ event c.read_next.new.self part.id ∷ []) g.M.ReplayMachine.stands_for g.M.ReplayMachine.stands_exactly c.loop-next.machine c.replay_read.new.self = record {
      history = event _ part.id ∷ [];
      held = refl;
      stands = λ h small stood. rw c.in_default.is at (c.replay_read.ensures.stands h small stood);
      exact = λ h small stood. rw c.in_default.is at (c.replay_read.ensures.exact h small stood);
    } in
    record {
      inside = (batch_inside part c.loop-next.at _ c.in-Ok-Some.next stands).1;
      read =
          replayed_more g.M.ReplayMachine.stands_for g.M.ReplayMachine.stands_exactly _ _ _ c.args.machine.now c.loop-next.machine c.replay_read.new.self before one
          (longer_front part c.loop-next.at c.in-Ok-Some.next _ before.history before.held stands);
    }

pub returns-in-Ok-None-clause-ok : goal.returns-in-Ok-None-clause-ok
returns-in-Ok-None-clause-ok g c =
    let part = part_of c.args.file.now c.args.offset c.args.bytes.now in
    let ends = rw c.in-Ok-None.field-0-is at c.in-Ok-None.ensures.ok in
    replayed_as g.M.ReplayMachine.stands_for g.M.ReplayMachine.stands_exactly (IsFront part c.loop-next.at) (PartHolds part) c.args.machine.now c.loop-next.machine
    (λ h front. subst (PartHolds part) (sym front.2) (front_held part 0 c.loop-next.at front.0 front.1 ends)) c.loop-next.invariant.read

pub returns-in-Err-clause-place : goal.returns-in-Err-clause-place
returns-in-Err-clause-place g c =
    stopped_unreadable g.M.ReplayMachine.stands_for g.M.ReplayMachine.stands_exactly (part_of c.args.file.now c.args.offset c.args.bytes.now) c.loop-next.at
    c.args.machine.now c.loop-next.machine c.loop-next.invariant.read _ c.error_with_place-in-Err.ensures.placed
    c.in-Err.ensures.some (λ not_memory. c.in-Err.ensures.refused (c.error_with_place-in-Err.ensures.memory not_memory))
    (record { fault = c.in-Err.error; is_fault = c.in-Err.ensures.fault; placed = c.error_with_place-in-Err.ensures.same })

pub returns-in-Err-clause-refused : goal.returns-in-Err-clause-refused
returns-in-Err-clause-refused g c = part_refused _ _ _ _ (returns-in-Err-clause-place g c).stops

pub returns-in-Err-replay_read-clause-place : goal.returns-in-Err-replay_read-clause-place
returns-in-Err-replay_read-clause-place g c =
    stopped_refused g.M.ReplayMachine.stands_for g.M.ReplayMachine.stands_exactly (part_of c.args.file.now c.args.offset c.args.bytes.now) c.loop-next.at
    c.args.machine.now c.loop-next.machine c.loop-next.invariant.read _ c.error_with_place.ensures.placed _ c.in-Ok-Some.next
    (rw c.in-Ok-Some.field-0-is at c.in-Ok-Some.ensures.ok) (λ not_memory. c.in-Err-replay_read.ensures.refused (c.error_with_place.ensures.memory not_memory))

pub returns-in-Err-replay_read-clause-refused : goal.returns-in-Err-replay_read-clause-refused
returns-in-Err-replay_read-clause-refused g c = part_refused _ _ _ _ (returns-in-Err-replay_read-clause-place g c).stops
