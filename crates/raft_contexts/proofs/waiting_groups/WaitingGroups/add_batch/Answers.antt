use Rattle.raft_contexts.proofs.Common.{on_ok_weaker, IfOk-weaker, option_map, group_shown, whole_shown}
use Rattle.raft_contexts.proofs.WaitingGroupLemmas.{stands-one, steps-with_marker}
use Rattle.raft_contexts.proofs.waiting_groups.WaitingGroups.add_batch.Goals as goal

pub returns-clause-stands : goal.returns-clause-stands
returns-clause-stands c = λ h e. on_ok_weaker c.join_group.result
    (λ known. stands-one c.args.self.now c.join_group.new.self h c.args.items c.args.id c.args.status c.args.seq (group_shown c.of_one_marker.result) e
    c.of_one_marker.ensures known) c.join_group.ensures.known

pub returns-clause-steps : goal.returns-clause-steps
returns-clause-steps c = λ h r e. IfOk-weaker c.join_group.result _ _
    (λ w whole. steps-with_marker c.args.self.now h r c.args.items c.args.id c.args.status c.args.seq (group_shown c.of_one_marker.result)
    (option_map whole_shown w) e c.of_one_marker.ensures whole) c.join_group.ensures.whole
