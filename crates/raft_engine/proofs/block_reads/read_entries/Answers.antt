use Rattle.raft_engine.proofs.Common.{rules, ◌<◌, length, inl, refl, err_from_is_err_and}
use Rattle.raft_engine.proofs.BlockReadLemmas.{block_at, bytes_at, no_block_at, no_bytes_at}
use Rattle.raft_engine.proofs.block_reads.read_entries.Goals as goal

pub returns-in_err-read_block_unless_kept-clause-err : goal.returns-in_err-read_block_unless_kept-clause-err
returns-in_err-read_block_unless_kept-clause-err g c =
    let less : c.loop-entry.entry-index < length c.args.entries.now = search rules in
    let p = err_from_is_err_and c.from_residual.result c.from_residual.ensures.1 in
    rw (p.1, p.2) (no_block_at c.args.region c.loop-entry.entry-index c.args.entries.now _ c.loop-entry.strings.items c.loop-entry.last _ _ _ _ less c.loop-entry.invariant c.in_err-read_block_unless_kept.ensures.err)

pub returns-in_err-copy_entry_bytes-clause-err : goal.returns-in_err-copy_entry_bytes-clause-err
returns-in_err-copy_entry_bytes-clause-err g c =
    let less : c.loop-entry.entry-index < length c.args.entries.now = search rules in
    let n = block_at c.loop-entry.entry-index c.args.entries.now _ c.loop-entry.strings.items c.loop-entry.last c.in-Some.block _ _ _ c.loop-entry.invariant (rw c.in-Some.is at c.in_ok-read_block_unless_kept.ensures.ok) in
    let p = err_from_is_err_and c.from_residual-in_err-copy_entry_bytes.result c.from_residual-in_err-copy_entry_bytes.ensures.1 in
    rw (p.1, p.2) (no_bytes_at c.args.region c.loop-entry.entry-index c.args.entries.now _ c.loop-entry.strings.items c.in-Some.block _ _ _ _ less n refl c.in_err-copy_entry_bytes.ensures.err)

pub returns-in_err-push-clause-err : goal.returns-in_err-push-clause-err
returns-in_err-push-clause-err g c =
    let less : c.loop-entry.entry-index < length c.args.entries.now = search rules in
    let n = block_at c.loop-entry.entry-index c.args.entries.now _ c.loop-entry.strings.items c.loop-entry.last c.in-Some.block _ _ _ c.loop-entry.invariant (rw c.in-Some.is at c.in_ok-read_block_unless_kept.ensures.ok) in
    let p = err_from_is_err_and c.from_residual-in_err-push.result c.from_residual-in_err-push.ensures.1 in
    rw (p.1) (no_bytes_at c.args.region c.loop-entry.entry-index c.args.entries.now _ c.loop-entry.strings.items c.in-Some.block _ _ _ _ less n refl (inl p.2))

pub loop-entry-preserved : goal.loop-entry-preserved
loop-entry-preserved g c =
    let less : c.loop-entry.entry-index < length c.args.entries.now = search rules in
    let n = block_at c.loop-entry.entry-index c.args.entries.now _ c.loop-entry.strings.items c.loop-entry.last c.in-Some.block _ _ _ c.loop-entry.invariant (rw c.in-Some.is at c.in_ok-read_block_unless_kept.ensures.ok) in
    rw c.in-Some.is (bytes_at c.loop-entry.entry-index c.args.entries.now _ c.loop-entry.strings.items c.push.new.self.items c.in_ok-copy_entry_bytes.field-0
    c.in-Some.block _ _ _ less n refl c.in_ok-copy_entry_bytes.ensures.ok c.in_ok-push.ensures.items)
