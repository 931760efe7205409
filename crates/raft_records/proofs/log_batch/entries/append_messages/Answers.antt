use Rattle.raft_records.proofs.Common.{◌≤◌, ◌+◌, ◌^◌, length, ap, arith, length-append}
use Rattle.raft_records.proofs.StringLemmas.{past_limit}
use Rattle.raft_records.proofs.log_batch.entries.append_messages.Goals as goal

pub returns-then-end-gt-MOST_OPEN_BYTES-clause-fault : goal.returns-then-end-gt-MOST_OPEN_BYTES-clause-fault
returns-then-end-gt-MOST_OPEN_BYTES-clause-fault g c =
    let bytes = g.M.Entry.Message.bytes_of c.entry-item.result in
    let past : 16 + 2 ^ 31 ≤ length c.loop-entry.buf.items + length bytes = omega (arith, c.len-end.ensures, c.if-end-gt-MOST_OPEN_BYTES.true, ap length c.in_ok-write_to_vec.ensures.ok, length-append c.loop-entry.buf.items bytes) in
    past_limit g.M.Entry.Message.bytes_of c.args.entries.now c.loop-entry.entry-index c.args.buf.now.items c.loop-entry.buf.items
    c.entry-item.result c.loop-entry.invariant.laid.bytes c.loop-entry-test.true c.entry-item.is c.requires.room past
