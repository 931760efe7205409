use Rattle.raft_records.proofs.Common.{refl, arith, short_below, short_is_read}
use Rattle.raft_records.proofs.ReadBatchLemmas.{byte_read, entries_are_content, run_read_of}
use Rattle.raft_records.proofs.read_batch.items.read_short_run.Goals as goal

pub returns-clause-some : goal.returns-clause-some
returns-clause-some c =
    let read = c.in_ok-first.ensures.some in
    let first = c.in_ok-first.first in
    let bytes = c.args.bytes.now in
    let tails = c.in_ok-first.tails.now in
    let read_tails = rw c.from-count.ensures at (c.in_ok-end.ensures.some first (omega (arith, short_below read.front first read.spells))) in
    let run = run_read_of {count = c.args.count} (omega arith) (byte_read c.args.count bytes (omega arith)) (short_is_read bytes tails first read) read_tails in
    rw (c.from-count.ensures) (entries_are_content refl run)
