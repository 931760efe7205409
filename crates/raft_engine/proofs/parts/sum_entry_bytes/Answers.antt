use Rattle.raft_engine.proofs.Common.{rules, ◌<◌, arith, length}
use Rattle.raft_engine.proofs.PartLengths.{capped, more_counted}
use Rattle.raft_engine.proofs.parts.sum_entry_bytes.Goals as goal

pub returns-then-bytes-gt-MAX_REWRITE_BATCH_BYTES-clause-capped : goal.returns-then-bytes-gt-MAX_REWRITE_BATCH_BYTES-clause-capped
returns-then-bytes-gt-MAX_REWRITE_BATCH_BYTES-clause-capped c =
    capped c.args.entries.now c.loop-entry.entry-index c.loop-entry.bytes c.loop-entry.invariant.0 c.if-bytes-gt-MAX_REWRITE_BATCH_BYTES.true

pub loop-entry-preserved : goal.loop-entry-preserved
loop-entry-preserved c =
    let less : c.loop-entry.entry-index < length c.args.entries.now = search rules in (
      more_counted c.args.entries.now c.loop-entry.entry-index c.loop-entry.bytes _ less c.loop-entry.invariant.0 c.entry_byte_count-bytes.result c.entry_byte_count-bytes.ensures.len,
      omega (arith, c.if-bytes-gt-MAX_REWRITE_BATCH_BYTES.false, c.entry_byte_count-bytes.ensures.small),
    )
