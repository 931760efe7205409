use Rattle.raft_records.proofs.Common.{refl, take_rest}
use Rattle.raft_records.proofs.ReadBatchLemmas.{pair_read, two_in_front}
use Rattle.raft_records.proofs.read_batch.items.read_short_content.Goals as goal

pub returns-in-1-clause-some : goal.returns-in-1-clause-some
returns-in-1-clause-some c =
    let bytes = c.args.bytes.now in
    let split = two_in_front bytes 1 _ c.in-len2-up.len_at_least c.in-1.is refl in
    rw split (rw (← take_rest) c.read_short_run.ensures.some)

pub returns-in_ok-content-in-3-clause-some : goal.returns-in_ok-content-in-3-clause-some
returns-in_ok-content-in-3-clause-some c =
    let bytes = c.args.bytes.now in
    let read = c.in_ok-content-in-3.ensures in
    let split = two_in_front bytes 3 1 c.in-len2-up.len_at_least c.in-3.is c.if-first-eq-PUT.true in
    pair_read {p = read.0} split (rw (← take_rest) read.1) read.2
