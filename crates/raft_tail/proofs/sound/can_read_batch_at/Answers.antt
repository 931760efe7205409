use Rattle.raft_tail.proofs.SearchLemmas.{never, unreadable_unsound}
use Rattle.raft_tail.proofs.sound.can_read_batch_at.Goals as goal

pub returns-in_ok-check_not_memory-in-Err-clause-ok : goal.returns-in_ok-check_not_memory-in-Err-clause-ok
returns-in_ok-check_not_memory-in-Err-clause-ok c =
    never (unreadable_unsound {part = c.args.part.now} {at = c.args.at} (c.in-Err.ensures.refused c.in_ok-check_not_memory-in-Err.ensures.ok))
