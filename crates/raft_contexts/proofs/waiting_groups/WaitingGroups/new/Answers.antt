use Rattle.raft_contexts.proofs.WaitingSeen.{seen-none}
use Rattle.raft_contexts.proofs.waiting_groups.WaitingGroups.new.Goals as goal

pub returns : goal.returns
returns c = seen-none c.new.result.entries c.new.ensures.ordered c.new.ensures.empty
