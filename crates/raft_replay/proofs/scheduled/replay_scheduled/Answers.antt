use Rattle.raft_replay.proofs.Common.{List, sym, subst, AreInOrder}
use Rattle.raft_replay.proofs.MachineOrderLemmas.{finished, merged_ok, merged_err}
use Rattle.raft_replay.proofs.scheduled.replay_scheduled.Goals as goal

pub returns-clause-ok : goal.returns-clause-ok
returns-clause-ok g c =
    let laws = g.met.M.ReplayMachine g.world.𝓛 g.world.𝓜 g.world.𝓡 ((λ s x. x), (λ x. x), (λ x. x), λ x. x) in
    let line =
    subst (λ (l : List g.row.M.Denot). AreInOrder g.M.ReplayMachine.stands_exactly c.args.segments.now l) (sym c.in_ok-push.ensures.items)
    (finished g.M.ReplayMachine.stands_for g.M.ReplayMachine.stands_exactly laws.exact_stands c.args.segments.now c.replay_in_order.new.machines.items c.in_ok-last.last c.in_ok-last.ensures.ok) in
    merged_ok g.M.ReplayMachine.stands_for g.M.ReplayMachine.stands_exactly laws.exact_stands c.args.segments.now c.push.new.self.items line c.args.queue c.in_default.ensures.none.of_queue c.merge_one_by_one.result c.merge_one_by_one.ensures

pub returns-clause-refused : goal.returns-clause-refused
returns-clause-refused g c schedule =
    let laws = g.met.M.ReplayMachine g.world.𝓛 g.world.𝓜 g.world.𝓡 ((λ s x. x), (λ x. x), (λ x. x), λ x. x) in
    let line =
    subst (λ (l : List g.row.M.Denot). AreInOrder g.M.ReplayMachine.stands_exactly c.args.segments.now l) (sym c.in_ok-push.ensures.items)
    (finished g.M.ReplayMachine.stands_for g.M.ReplayMachine.stands_exactly laws.exact_stands c.args.segments.now c.replay_in_order.new.machines.items c.in_ok-last.last c.in_ok-last.ensures.ok) in
    merged_err g.M.ReplayMachine.stands_for g.M.ReplayMachine.stands_exactly laws.exact_stands c.args.segments.now c.push.new.self.items line c.args.queue schedule.of_queue
    (g.F.Factory.may_refuse c.args.factory.now) c.merge_one_by_one.result c.merge_one_by_one.ensures
