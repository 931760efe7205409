use Rattle.raft_replay.proofs.Common.{on_passed, ◌≡◌, ◌+◌, cond, List, [], ◌∷◌, ◌++◌, Vec, vec_len, take, drop, sym, ap, ◌∙◌, subst, arith, take-append-drop, Global, take_more, Part, IsUnderway, switches}
use Rattle.raft_replay.proofs.MachineOrderLemmas.{gone_on, stopped, count_more, one_same}
use Rattle.raft_replay.proofs.SegmentLemmas.{left_from}
use Rattle.raft_replay.proofs.scheduled.replay_in_order.Goals as goal

pub returns-in_err-replay_segment-clause-refused : goal.returns-in_err-replay_segment-clause-refused
returns-in_err-replay_segment-clause-refused g c =
    let laws = g.met.M.ReplayMachine g.world.𝓛 g.world.𝓜 g.world.𝓡 ((λ s x. x), (λ x. x), (λ x. x), λ x. x) in
    let all = c.args.segments.now in
    let n = c.loop-n.n in
    on_passed _ _ c.from_residual-in_err-replay_segment.ensures.1
    (λ not_memory not_own.
    stopped g.M.ReplayMachine.stands_for g.M.ReplayMachine.stands_exactly laws.exact_stands (take n all) c.next_machine.new.machines.items c.in_ok-current-2.current
    (c.in_ok-current-2.ensures.ok (take n all) c.loop-n.invariant.line) all (drop (n + 1) all) c.index-segments-n.result
    (sym (take-append-drop n all) ∙ ap (λ (l : List (Vec Part Global)). take n all ++ l) (left_from all n c.index-segments-n.result c.loop-n-test.true c.index-segments-n.is))
    (c.in_err-replay_segment.ensures.refused not_memory))

pub loop-n-preserved : goal.loop-n-preserved
loop-n-preserved g c =
    let laws = g.met.M.ReplayMachine g.world.𝓛 g.world.𝓜 g.world.𝓡 ((λ s x. x), (λ x. x), (λ x. x), λ x. x) in
    let all = c.args.segments.now in
    let n = c.loop-n.n in
    let longer : take (n + 1) all ≡ take n all ++ c.index-segments-n.result ∷ [] =
    take_more all n c.index-segments-n.result c.loop-n-test.true ∙ ap (λ (s : Vec Part Global). take n all ++ s ∷ []) (sym c.index-segments-n.is) in
    record {
      line =
          subst (λ (l : List (Vec Part Global)). IsUnderway g.M.ReplayMachine.stands_exactly l c.next_machine.new.machines.items c.replay_segment.new.machine) (sym longer)
          (gone_on g.M.ReplayMachine.stands_for g.M.ReplayMachine.stands_exactly laws.exact_stands (take n all) c.next_machine.new.machines.items c.in_ok-current-2.current
          (c.in_ok-current-2.ensures.ok (take n all) c.loop-n.invariant.line) c.index-segments-n.result c.replay_segment.new.machine c.in_ok-replay_segment.ensures.ok);
      count =
          let added : vec_len c.next_machine.new.machines ≡ vec_len c.loop-n.machines + cond c.is_worker_change.result 1 0 = c.in_ok-current-2.ensures.count in
          let same : cond c.is_worker_change.result 1 0 ≡ cond (switches c.args.draws.now n) 1 0 = one_same c.is_worker_change.ensures in
          let more = count_more (switches c.args.draws.now) n in
          let before = c.loop-n.invariant.count in omega arith;
    }
