use Rattle.raft_contexts.proofs.Common.{◌≡◌, rules, []}
use Rattle.std.specs.FinMap as finite
use Rattle.raft_table.proofs.KeyValueReads.{none_left}
use Rattle.raft_contexts.proofs.WaitingSeen.{first-seen, none-seen}
use Rattle.raft_contexts.proofs.waiting_groups.WaitingGroups.take_first.Goals as goal

pub returns-clause-first : goal.returns-clause-first
returns-clause-first c = first-seen c.self.inside.groups.entries c.pop_first.new.self.entries (c.in_ok-id.id, c.in_ok-id.group) c.args.self.now c.self.invariant.ordered c.pop_first.ensures.ordered c.self.view_is c.in_ok-id.ensures.removal

pub returns-in_err-id-clause-none : goal.returns-in_err-id-clause-none
returns-in_err-id-clause-none c =
    let none : finite.entries c.args.self.now ≡ [] = none-seen c.self.inside.groups.entries c.args.self.now c.self.invariant.ordered c.self.view_is (none_left _ c.in_err-id.ensures.variant) in
    search rules
