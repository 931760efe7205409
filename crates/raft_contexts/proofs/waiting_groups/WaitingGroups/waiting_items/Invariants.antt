use Rattle.raft_contexts.proofs.Common.{◌≡◌, ◌+◌, ◌*◌, ◌<◌, ◌^◌, length, flat_map, held_steps, waiting_steps, group_shown}
use Rattle.raft_contexts.proofs.waiting_groups.WaitingGroups.waiting_items.Given as goal

abbrev pub invariant-loop-group : goal.invariant-loop-group
invariant-loop-group l = record {
  counted : l.count + length (flat_map (λ s. held_steps (group_shown s)) l.group-iterator) ≡ waiting_steps l.self;
  bounded : l.count + 2 ^ 65 * length l.group-iterator < 2 ^ 128;
}
