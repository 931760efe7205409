use Rattle.raft_tail.proofs.PassingLemmas.{ok_as}
use Rattle.raft_tail.proofs.SearchLemmas.{never}
use Rattle.raft_tail.proofs.WholeLemmas.{broken_if, headless_unbroken, long_unbroken}
use Rattle.raft_tail.proofs.broken.can_be_cut_batch.Goals as goal
use Rattle.raft_tail.proofs.broken.can_be_cut_batch.Goals.{in_default-via-in-Some+else-bytes-len, in_default-via-in_default}

pub returns-in-Some-clause-ok : goal.returns-in-Some-clause-ok
returns-in-Some-clause-ok c =
    ok_as c.lacks_items.result (λ broken is. broken_if broken c.if-bytes-lt-LOG_BATCH_HEADER_LEN.false c.in-Some.ensures.some c.if-bytes-len.true is) c.lacks_items.ensures.ok

pub returns-in_default-clause-ok : goal.returns-in_default-clause-ok
returns-in_default-clause-ok c =
    let long = c.if-bytes-lt-LOG_BATCH_HEADER_LEN.false in
    elim c.in_default.branch [
      | in_default-via-in-Some+else-bytes-len w ↦ never (long_unbroken long w.in-Some.ensures.some w.if-bytes-len.false)
      | in_default-via-in_default w ↦ never (headless_unbroken long (rw w.in_default.is at c.read_header.ensures.none))
    ]
