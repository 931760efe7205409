use Rattle.raft_replay.proofs.Common.{◌≡◌, ◌++◌, map, Piece}
use Rattle.raft_replay.proofs.piece.Piece.machines_in_order.Given as goal

abbrev pub invariant-loop-machine : goal.invariant-loop-machine
invariant-loop-machine g l =
    l.machines.items ++ map (λ (p : Piece g.row.M.Denot). p.machine.value) l.machine-iterator.rest.items
    ≡ map (λ (p : Piece g.row.M.Denot). p.machine.value) l.initial.machine-iterator.rest.items
