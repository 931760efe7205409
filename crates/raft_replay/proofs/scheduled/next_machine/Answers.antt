use Rattle.raft_replay.proofs.Common.{IfOk-weaker, List, sym, subst, IsUnderway}
use Rattle.raft_replay.proofs.MachineOrderLemmas.{next_begun}
use Rattle.raft_replay.proofs.scheduled.next_machine.Goals as goal

pub returns-clause-ok : goal.returns-clause-ok
returns-clause-ok g c =
    let laws = g.met.M.ReplayMachine g.world.𝓛 g.world.𝓜 g.world.𝓡 ((λ s x. x), (λ x. x), (λ x. x), λ x. x) in
    IfOk-weaker c.new_target.result _ _
    (λ m given segments underway.
    subst (λ (l : List g.row.M.Denot). IsUnderway g.M.ReplayMachine.stands_exactly segments l m) (sym c.in_ok-push.ensures.items)
    (next_begun g.M.ReplayMachine.stands_for g.M.ReplayMachine.stands_exactly laws.exact_stands segments c.args.machines.now.items c.args.current underway m
    (c.requires m given)))
    c.new_target.ensures.ok
