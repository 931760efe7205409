use Rattle.raft_contexts.proofs.Common.{◌≡◌, ◌++◌, length, map, into_iter_items, into_iter_len}
use Rattle.raft_table.specs.Steps.{Del}
use Rattle.raft_contexts.specs.TakenAway.{items_of_steps}
use Rattle.raft_contexts.proofs.taken_away.add_deletions.Given as goal

abbrev pub invariant-loop-key : goal.invariant-loop-key
invariant-loop-key l =
    (record l.told { items = l.told.items ++ items_of_steps l.region (map Del (map (λ k. k.items) (into_iter_items l.key-iterator))) }
    ≡ record l.initial.told { items = l.initial.told.items ++ items_of_steps l.region (map Del (map (λ k. k.items) (into_iter_items l.initial.key-iterator))) })
    × (into_iter_len l.key-iterator ≡ length (into_iter_items l.key-iterator))
