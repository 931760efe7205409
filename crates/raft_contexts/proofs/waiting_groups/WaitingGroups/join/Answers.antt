use Rattle.raft_contexts.proofs.Common.{◌++◌, map, sym, ap, ◌∙◌, append-nil, option_map, WholeGroup, List, whole_groups, group_shown, whole_shown}
use Rattle.raft_contexts.proofs.WaitingGroupLemmas.{joined-step, wholes-step, len-first, joined-none, wholes-none, stands-joined, steps-joined}
use Rattle.raft_contexts.proofs.waiting_groups.WaitingGroups.join.Goals as goal

pub loop-id-smaller : goal.loop-id-smaller
loop-id-smaller c = len-first c.loop-id.rest c.take_first.new.self _ c.in-Some.ensures.first

pub loop-id-preserved : goal.loop-id-preserved
loop-id-preserved c = record {
  known = joined-step c.loop-id.self c.join_group.new.self c.loop-id.rest c.take_first.new.self c.in-Some.id (group_shown c.in-Some.group) c.in-Some.ensures.first c.in_ok-whole.ensures.known ∙ c.loop-id.invariant.known;
  wholes = ap (λ l. l ++ whole_groups c.join_group.new.self c.take_first.new.self) c.in_ok-push_if_some.ensures
      ∙ wholes-step c.loop-id.self c.join_group.new.self c.loop-id.rest c.take_first.new.self c.in-Some.id (group_shown c.in-Some.group)
      (map whole_shown c.loop-id.wholes.items) (option_map whole_shown c.in_ok-whole.whole) c.in-Some.ensures.first c.in_ok-whole.ensures.known
      c.in_ok-whole.ensures.whole
      ∙ c.loop-id.invariant.wholes;
}

pub returns-clause-stands : goal.returns-clause-stands
returns-clause-stands c = λ h k e f. stands-joined c.args.self.now c.args.newer c.loop-id.self h k
    (sym (joined-none c.loop-id.self c.loop-id.rest c.in_default.ensures.none) ∙ c.loop-id.invariant.known) e f

pub returns-clause-steps : goal.returns-clause-steps
returns-clause-steps c = λ h k r e f apart.
    let wholes = map whole_shown c.loop-id.wholes.items in
    steps-joined c.args.self.now c.args.newer h k r wholes
    (sym (append-nil wholes) ∙ ap (λ (ws : List WholeGroup). wholes ++ ws) (sym (wholes-none c.loop-id.self c.loop-id.rest c.in_default.ensures.none)) ∙ c.loop-id.invariant.wholes) e f apart
