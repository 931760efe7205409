use Rattle.raft_records.proofs.Common.{arith, get_or_default, no_entry, slice_index_or}
use Rattle.raft_records.proofs.LayLemmas.{lay_more}
use Rattle.raft_records.proofs.log_item_batch.set_offsets.Goals as goal

pub overflow_add-offset : goal.overflow_add-offset
overflow_add-offset c =
    let i = c.loop-entry.entry-index in
    let ys = c.loop-entry.entry-items in
    let x = slice_index_or ys i no_entry in
    let more = lay_more c.args.start i c.loop-entry.offset c.args.entries.now.items ys x (omega arith) c.loop-entry.invariant.0 (get_or_default ys i no_entry x (omega arith)) c.loop-entry.invariant.1 in
    omega (arith, more.2)

pub loop-entry-preserved : goal.loop-entry-preserved
loop-entry-preserved c =
    let i = c.loop-entry.entry-index in
    let ys = c.loop-entry.entry-items in
    let x = slice_index_or ys i no_entry in
    let more = lay_more c.args.start i c.loop-entry.offset c.args.entries.now.items ys x (omega arith) c.loop-entry.invariant.0 (get_or_default ys i no_entry x (omega arith)) c.loop-entry.invariant.1 in
    (more.0, more.1)
