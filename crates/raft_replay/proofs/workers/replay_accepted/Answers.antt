use Rattle.raft_replay.proofs.Common.{on_passed, IfOk-weaker, ◌≡◌, List, [], vec_len, sym, ◌∙◌, subst, arith, Decides-eqb, nil_from_length, AreInOrder}
use Rattle.raft_replay.proofs.MachineOrderLemmas.{merged_ok, merged_err, replayed_none}
use Rattle.raft_replay.proofs.workers.replay_accepted.Goals as goal

pub returns-in_err-pieces-clause-refused : goal.returns-in_err-pieces-clause-refused
returns-in_err-pieces-clause-refused g c =
    on_passed _ _ c.from_residual.ensures.1 c.in_err-pieces.ensures.refused

pub returns-then-is_empty-clause-ok : goal.returns-then-is_empty-clause-ok
returns-then-is_empty-clause-ok g c =
    let laws = g.met.M.ReplayMachine g.world.𝓛 g.world.𝓜 g.world.𝓡 ((λ s x. x), (λ x. x), (λ x. x), λ x. x) in
    let line = c.in_ok-machines.ensures.ok c.args.segments.now c.in_ok-pieces.ensures.pieces c.in_ok-pieces.ensures.tile in
    let empty : c.in_ok-machines.machines.items ≡ [] =
    let none = (Decides-eqb (vec_len c.in_ok-machines.machines) 0).0 (sym c.is_empty.ensures ∙ c.if-is_empty.true) in
    let held = c.in_ok-machines.machines.ok.0 in nil_from_length c.in_ok-machines.machines.items (omega arith) in
    IfOk-weaker c.new_target.result _ _
    (λ m given. replayed_none g.M.ReplayMachine.stands_for g.M.ReplayMachine.stands_exactly laws.exact_stands c.args.segments.now m
    (subst (λ (l : List g.row.M.Denot). AreInOrder g.M.ReplayMachine.stands_exactly c.args.segments.now l) empty line)
    (c.requires.factory m given))
    c.new_target.ensures.ok

pub returns-clause-ok : goal.returns-clause-ok
returns-clause-ok g c =
    let laws = g.met.M.ReplayMachine g.world.𝓛 g.world.𝓜 g.world.𝓡 ((λ s x. x), (λ x. x), (λ x. x), λ x. x) in
    let line = c.in_ok-machines.ensures.ok c.args.segments.now c.in_ok-pieces.ensures.pieces c.in_ok-pieces.ensures.tile in
    merged_ok g.M.ReplayMachine.stands_for g.M.ReplayMachine.stands_exactly laws.exact_stands c.args.segments.now c.in_ok-machines.machines.items line c.args.queue c.requires.accepted.3 c.merge_in_parallel.result c.merge_in_parallel.ensures

pub returns-clause-refused : goal.returns-clause-refused
returns-clause-refused g c =
    let laws = g.met.M.ReplayMachine g.world.𝓛 g.world.𝓜 g.world.𝓡 ((λ s x. x), (λ x. x), (λ x. x), λ x. x) in
    let line = c.in_ok-machines.ensures.ok c.args.segments.now c.in_ok-pieces.ensures.pieces c.in_ok-pieces.ensures.tile in
    merged_err g.M.ReplayMachine.stands_for g.M.ReplayMachine.stands_exactly laws.exact_stands c.args.segments.now c.in_ok-machines.machines.items
    line c.args.queue c.requires.accepted.3 (g.F.Factory.may_refuse c.args.factory.now) c.merge_in_parallel.result c.merge_in_parallel.ensures
