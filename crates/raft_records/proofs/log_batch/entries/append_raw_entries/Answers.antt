use Rattle.raft_records.proofs.Common.{◌≡◌, ◌+◌, ◌^◌, ◌<◌, ◌≤◌, ◌++◌, ◌∙◌, List, ℕ, length, refl, ap, arith, length-append}
use Rattle.raft_records.proofs.StringLemmas.{past_limit, strung_next}
use Rattle.raft_records.proofs.log_batch.entries.append_raw_entries.Goals as goal

pub returns-then-len-gt-MOST_OPEN_BYTES-clause-fault : goal.returns-then-len-gt-MOST_OPEN_BYTES-clause-fault
returns-then-len-gt-MOST_OPEN_BYTES-clause-fault c ne =
    let past : 16 + 2 ^ 31 ≤ length c.loop-i.buf.items + length c.index-entries-i.result.items = omega (arith, c.len.ensures, c.len-in-loop-i.ensures, c.if-len-gt-MOST_OPEN_BYTES.true) in (
      refl,
      past_limit (λ e. e.items) c.args.entries.now c.loop-i.i c.args.buf.now.items c.loop-i.buf.items c.index-entries-i.result c.loop-i.invariant.bytes
          c.loop-i-test.true c.index-entries-i.is c.requires.room past,
    )

pub loop-i-preserved : goal.loop-i-preserved
loop-i-preserved c =
    let appended : c.extend_from_slice.new.self.items ≡ c.loop-i.buf.items ++ c.index-entries-i.result.items = c.in_ok-extend_from_slice.ensures.items ∙ ap (λ (t : List ℕ). c.loop-i.buf.items ++ t) c.as_slice.ensures.value in
    let fits : length c.extend_from_slice.new.self.items < 16 + 2 ^ 31 = omega (
      arith,
      c.len.ensures,
      c.len-in-loop-i.ensures,
      c.if-len-gt-MOST_OPEN_BYTES.false,
      ap length appended,
      length-append c.loop-i.buf.items c.index-entries-i.result.items,
    ) in
    let len : c.len-in-loop-i-2.result ≡ length c.index-entries-i.result.items = omega (arith, c.len-in-loop-i-2.ensures) in
    strung_next (λ e. e.items) c.args.entry_indexes.now.items c.args.entries.now c.loop-i.i c.args.buf.now.items c.loop-i.buf.items
    c.extend_from_slice.new.self.items c.loop-i.entry_indexes.items c.index_mut.result.now c.index-entries-i.result c.len-in-loop-i-2.result
    c.loop-i.invariant c.loop-i-test.true c.requires.counts c.index_mut.ensures.value c.index-entries-i.is appended fits len
