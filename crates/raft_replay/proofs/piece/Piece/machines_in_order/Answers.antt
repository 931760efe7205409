use Rattle.raft_replay.proofs.Common.{◌≡◌, [], ◌++◌, map, sym, ap, ◌∙◌, subst, rules, arith, append-nil, nil_from_length, IsNonDecreasingBy-from_sort_by_key, Piece, AreInOrder}
use Rattle.raft_replay.proofs.LiningLemmas.{in_line}
use Rattle.raft_replay.proofs.piece.Piece.machines_in_order.Goals as goal

pub returns-clause-ok : goal.returns-clause-ok
returns-clause-ok g c segments all tile =
    let sorted = c.sort_by_key.new.self.items in
    let left = c.loop-machine.machine-iterator.rest.items in
    let none : left ≡ [] = nil_from_length left (omega (arith, c.in-None.ensures.steps.0, c.loop-machine.machine-iterator.rest.ok.0)) in
    let begun : c.into_iter-machine-iterator.result.rest.items ≡ sorted = search in
    let machines : c.loop-machine.machines.items ≡ map (λ (p : Piece g.row.M.Denot). p.machine.value) sorted =
    sym (append-nil c.loop-machine.machines.items) ∙ ap (λ l. c.loop-machine.machines.items ++ map (λ (p : Piece g.row.M.Denot). p.machine.value) l) (sym none)
    ∙ c.loop-machine.invariant ∙ ap (map (λ (p : Piece g.row.M.Denot). p.machine.value)) begun in
    subst (λ l. AreInOrder g.M.ReplayMachine.stands_exactly segments l) (sym machines)
    (in_line g.M.ReplayMachine.stands_exactly segments c.args.pieces.items sorted all tile c.in_ok-sort_by_key.ensures.permutation
    (IsNonDecreasingBy-from_sort_by_key (λ (p : Piece g.row.M.Denot). p.from) _ c.in_ok-sort_by_key.ensures.sorted (λ a r q k. search rules)))
