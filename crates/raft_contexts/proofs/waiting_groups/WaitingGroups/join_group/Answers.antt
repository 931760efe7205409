use Rattle.raft_contexts.proofs.WaitingSeen.{seen-joined}
use Rattle.raft_contexts.proofs.waiting_groups.WaitingGroups.join_group.Goals as goal

pub returns-clause-known : goal.returns-clause-known
returns-clause-known c = seen-joined c.self.inside.groups.entries c.remove_group-older.new.groups.entries c.insert.new.self.entries c.args.id c.remove_group-older.result c.args.newer c.in_ok-group.group c.args.self.now
    c.self.invariant.ordered c.remove_group-older.ensures.ordered c.insert.ensures.ordered c.self.view_is c.remove_group-older.ensures.known c.remove_group-older.ensures.rest c.in_ok-group.ensures.known c.in_ok-insert.ensures.entries
