use Rattle.raft_prefix.proofs.Common.{◌≡◌, [], ◌∷◌, refl, arith, part_of, batch_inside, event, HasReplayed, none_replayed, replayed_more, longer_front}
use Rattle.raft_prefix.proofs.PrefixLemmas.{none_passed, one_more_passed, replayed_before}
use Rattle.raft_prefix.proofs.readable.replay_readable.Goals as goal

pub loop-next-init : goal.loop-next-init
loop-next-init g c = record {
  inside = omega arith;
  passed = none_passed c.args.file.now c.args.bytes.now c.args.offset c.args.damaged.now.items;
  read = none_replayed g.M.ReplayMachine.stands_for g.M.ReplayMachine.stands_exactly _ c.args.machine.now ([], refl, refl);
}

pub push_offset_if_damaged-requires : goal.push_offset_if_damaged-requires
push_offset_if_damaged-requires g c =
    let stands = rw c.in-Ok-Some.field-0-is at c.in-Ok-Some.ensures.ok in
    record {
      part = part_of c.args.file.now c.args.offset c.args.bytes.now;
      at = c.loop-next.at;
      next = c.in-Ok-Some.next;
      items = c.read_next.new.self;
      stands = record { same = c.split_at.ensures.back; batch = stands };
    }

pub loop-next-preserved : goal.loop-next-preserved
loop-next-preserved g c =
    let part = part_of c.args.file.now c.args.offset c.args.bytes.now in
    let stands = rw c.in-Ok-Some.field-0-is at c.in-Ok-Some.ensures.ok in
    let before = c.loop-next.invariant.read in
    let one : HasReplayed (λ h. h ≡ event c.read_next.new.self part.id ∷ []) g.M.ReplayMachine.stands_for g.M.ReplayMachine.stands_exactly c.loop-next.machine c.replay_read.new.self = record {
      history = event _ part.id ∷ [];
      held = refl;
      stands = λ h small stood. c.in_ok-replay_read-in-Ok-Some.ensures.stands h small stood;
      exact = λ h small stood. c.in_ok-replay_read-in-Ok-Some.ensures.exact h small stood;
    } in
    record {
      inside = (batch_inside part c.loop-next.at _ c.in-Ok-Some.next stands).1;
      passed = one_more_passed c.args.file.now c.args.bytes.now c.args.offset c.loop-next.at c.in-Ok-Some.next _ stands c.split_at.result.1.now c.split_at.ensures.back c.args.damaged.now.items c.loop-next.damaged.items c.loop-next.invariant.passed c.push_offset_if_damaged.new.damaged.items c.in_ok-push_offset_if_damaged-in-Ok-Some.ensures.ok;
      read =
          replayed_more g.M.ReplayMachine.stands_for g.M.ReplayMachine.stands_exactly _ _ _ c.args.machine.now c.loop-next.machine c.replay_read.new.self before one
          (longer_front part c.loop-next.at c.in-Ok-Some.next _ before.history before.held stands);
    }

pub returns-in-Ok-None-clause-replayed : goal.returns-in-Ok-None-clause-replayed
returns-in-Ok-None-clause-replayed g c =
    replayed_before g.M.ReplayMachine.stands_for g.M.ReplayMachine.stands_exactly (part_of c.args.file.now c.args.offset c.args.bytes.now) c.loop-next.at c.args.machine.now c.loop-next.machine c.loop-next.invariant.inside c.loop-next.invariant.read

pub returns-in-Err-clause-replayed : goal.returns-in-Err-clause-replayed
returns-in-Err-clause-replayed g c =
    replayed_before g.M.ReplayMachine.stands_for g.M.ReplayMachine.stands_exactly (part_of c.args.file.now c.args.offset c.args.bytes.now) c.loop-next.at c.args.machine.now c.loop-next.machine c.loop-next.invariant.inside c.loop-next.invariant.read

pub returns-in-Err-clause-refused : goal.returns-in-Err-clause-refused
returns-in-Err-clause-refused g c = (c.in_ok-check_not_memory-in-Err.ensures.ok, c.in-Err.ensures.refused c.in_ok-check_not_memory-in-Err.ensures.ok)
