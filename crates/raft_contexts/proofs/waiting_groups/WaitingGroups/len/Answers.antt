use Rattle.raft_contexts.proofs.Common.{sym, ◌∙◌}
use Rattle.raft_contexts.proofs.WaitingSeen.{len-seen}
use Rattle.raft_contexts.proofs.waiting_groups.WaitingGroups.len.Goals as goal

pub returns : goal.returns
returns c = c.len.ensures.len ∙ sym (len-seen c.self.inside.groups.entries c.args.self.now c.self.invariant.ordered c.self.view_is)
