use Rattle.raft_recover.proofs.Common.{or_passed, List, [], Vec, refl, subst, arith, Global, take_all, HasRead, HasReadExactly, SegmentsHold, PartsHold, each_more, item_taken, item_between, none_replayed, replayed_more}
use Rattle.raft_recover.proofs.TurnLemmas.{stopped_in_turn}
use Rattle.raft_recover.proofs.recovery.replay_one_by_one.Goals as goal

pub loop-segment-init : goal.loop-segment-init
loop-segment-init c = none_replayed HasRead HasReadExactly _ c.in_ok-context.context refl

pub loop-segment-preserved : goal.loop-segment-preserved
loop-segment-preserved c =
    let done = c.in_ok-replay_segment.ensures.ok in
    let taken = item_taken {xs = c.args.segments.now} {ys = c.args.segments.now} {i = c.loop-segment.segment-index} {x = c.segment-item.result} refl (let t = c.loop-segment-test.true in omega arith) c.segment-item.is in
    replayed_more HasRead HasReadExactly _ _ _ c.in_ok-context.context c.loop-segment.context c.replay_segment.new.machine c.loop-segment.invariant done
    (each_more (λ s h. PartsHold s.items h) _ _ c.segment-item.result _ _ taken c.loop-segment.invariant.held done.held)

pub returns : goal.returns
returns c =
    let read = c.loop-segment.invariant in
    let begun = c.in_ok-context.ensures.exact in
    record {
      history = read.history;
      held =
          subst (λ (l : List (Vec _ Global)). SegmentsHold l read.history)
          (take_all c.loop-segment.segment-index c.args.segments.now (let t = c.loop-segment-test.false in omega arith)) read.held;
      stands = λ small. read.stands [] small (record { stage = begun.stage; stands = begun.exact.stands });
      exact = λ small apart. read.exact [] small begun;
    }

pub returns-in_err-replay_segment : goal.returns-in_err-replay_segment
returns-in_err-replay_segment c =
    let begun = c.in_ok-context.ensures.exact in
    let split = item_between {xs = c.args.segments.now} {ys = c.args.segments.now} {i = c.loop-segment.segment-index} {x = c.segment-item.result} refl (let t = c.loop-segment-test.true in omega arith) c.segment-item.is in
    or_passed _ _ _ c.from_residual-in_err-replay_segment.ensures.1
    (λ not_memory.
    stopped_in_turn c.args.segments.now _ _ c.segment-item.result c.in_ok-context.context c.loop-segment.context _ c.loop-segment.invariant
    (record { stage = begun.stage; stands = begun.exact.stands }) split c.in_err-replay_segment.ensures.place)
