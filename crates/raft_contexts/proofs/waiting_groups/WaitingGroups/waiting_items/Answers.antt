use Rattle.raft_contexts.proofs.Common.{◌≡◌, length, sym, ap, ◌∙◌, arith, flat_map, held_steps, group_shown, values}
use Rattle.raft_contexts.proofs.WaitingSeen.{waiting-seen}
use Rattle.raft_contexts.proofs.waiting_groups.WaitingGroups.waiting_items.Goals as goal

pub loop-group-init : goal.loop-group-init
loop-group-init c =
    let all : c.into_iter-group-iterator.result ≡ values c.self.inside.groups = c.into_iter-group-iterator.ensures.into_iter_gives ∙ c.values-group-items.ensures.rest in
    let count = ap (λ ss. length (flat_map (λ s. held_steps (group_shown s)) ss)) all ∙ sym (waiting-seen c.self.inside.groups.entries c.args.self.now c.self.invariant.ordered c.self.view_is) in
    record { counted = omega (arith, count); bounded = omega (arith, ap length c.into_iter-group-iterator.ensures.into_iter_gives, c.values-group-items.ensures.len, c.values-group-items.ensures.fits) }
