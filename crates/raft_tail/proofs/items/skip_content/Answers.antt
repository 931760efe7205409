use Rattle.raft_tail.proofs.Common.{no_entries}
use Rattle.raft_tail.proofs.PassingLemmas.{change_passes, command_passes, entries_pass, option_as}
use Rattle.raft_tail.proofs.items.skip_content.Goals as goal

pub returns-in-1-clause-ok : goal.returns-in-1-clause-ok
returns-in-1-clause-ok c =
    let split = rw c.in-1.is at c.in-Some.ensures.cases.0 in
    option_as c.skip_entry_indexes.result (no_entries c.args.start c.args.bytes.now c.in-Some.behind.now split) (λ x p. entries_pass split p) c.skip_entry_indexes.ensures

pub returns-in-Some-skip_command-clause-ok : goal.returns-in-Some-skip_command-clause-ok
returns-in-Some-skip_command-clause-ok c = command_passes (rw c.in-2.is at c.in-Some.ensures.cases.0) c.in-Some-skip_command.ensures

pub returns-in-Some-2-clause-ok : goal.returns-in-Some-2-clause-ok
returns-in-Some-2-clause-ok c = change_passes (rw c.in-3.is at c.in-Some.ensures.cases.0) (rw c.in-Some-2.is at c.in_ok-rest-in-3.ensures.ok)
