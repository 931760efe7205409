use Rattle.raft_contexts.proofs.Common.{Some, None, sym, ◌∙◌}
use Rattle.raft_contexts.proofs.WaitingSeen.{known-seen}
use Rattle.raft_contexts.proofs.waiting_groups.remove_group.Goals as goal

pub returns-in-Some-clause-known : goal.returns-in-Some-clause-known
returns-in-Some-clause-known c = sym (known-seen c.args.groups.now.entries c.args.id (Some c.in-Some.group) c.requires (sym c.in-Some.is ∙ c.remove.ensures.value))

pub returns-in-None-clause-known : goal.returns-in-None-clause-known
returns-in-None-clause-known c = c.without_marker.ensures ∙ sym (known-seen c.args.groups.now.entries c.args.id None c.requires (sym c.in-None.is ∙ c.remove.ensures.value))
