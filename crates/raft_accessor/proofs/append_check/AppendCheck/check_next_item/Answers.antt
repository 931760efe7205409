use Rattle.raft_accessor.proofs.Common.{known_extents, on_ok_weaker, subst, option_map, pair_of, TakesRun}
use Rattle.raft_accessor.proofs.AppendCheckLemmas.{command_next, pair_next, run_next}
use Rattle.raft_accessor.proofs.append_check.AppendCheck.check_next_item.Goals as goal

pub returns-in_ok-extent-in-EntryIndexes-clause-ok : goal.returns-in_ok-extent-in-EntryIndexes-clause-ok
returns-in_ok-extent-in-EntryIndexes-clause-ok c =
    let entries = c.in-EntryIndexes.entries.0.items in
    let after = c.in_ok-extent-in-EntryIndexes.extent in
    let takes = subst (λ run. TakesRun c.extent_of.result run after) c.deref.ensures.value c.in_ok-extent-in-EntryIndexes.ensures.ok in
    rw c.in-EntryIndexes.is (on_ok_weaker c.insert.result (run_next (known_extents c.args.self.now.extents) (known_extents c.insert.new.self) c.args.item.now.raft_group_id
    (option_map (λ t. t.now) c.args.table) entries c.extent_of.result after c.extent_of.ensures takes) c.insert.ensures.ok)

pub returns-in-Command-clause-ok : goal.returns-in-Command-clause-ok
returns-in-Command-clause-ok c =
    rw c.in-Command.is (on_ok_weaker c.insert-in-Command.result (command_next (known_extents c.args.self.now.extents) (known_extents c.insert-in-Command.new.self) c.args.item.now.raft_group_id
    (option_map (λ t. t.now) c.args.table) c.in-Command.command c.extent_of-in-Command.result c.after_command-extent.result c.extent_of-in-Command.ensures
    c.after_command-extent.ensures) c.insert-in-Command.ensures.ok)

pub returns-in-Kv-clause-ok : goal.returns-in-Kv-clause-ok
returns-in-Kv-clause-ok c =
    rw c.in-Kv.is (on_ok_weaker c.check_pair.result (pair_next (known_extents c.args.self.now.extents) c.args.item.now.raft_group_id (option_map (λ t. t.now) c.args.table) (pair_of c.in-Kv.kv)) c.check_pair.ensures.ok)
