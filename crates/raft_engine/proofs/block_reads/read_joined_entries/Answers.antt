use Rattle.raft_engine.proofs.Common.{rules, ◌<◌, length, refl, err_from_is_err_and}
use Rattle.raft_engine.proofs.BlockReadLemmas.{all_joined, joined_at, unjoined_block_at, unjoined_bytes_at}
use Rattle.raft_engine.proofs.block_reads.read_joined_entries.Goals as goal

pub returns-in_err-read_block_unless_kept-clause-err : goal.returns-in_err-read_block_unless_kept-clause-err
returns-in_err-read_block_unless_kept-clause-err g c =
    let less : c.loop-entry.entry-index < length c.args.entries.now = search rules in
    let p = err_from_is_err_and c.from_residual-in_err-read_block_unless_kept.result c.from_residual-in_err-read_block_unless_kept.ensures.1 in
    rw (p.1, p.2) (unjoined_block_at c.args.region c.loop-entry.entry-index c.args.entries.now _ c.loop-entry.joined.items c.loop-entry.last _ _ _ _ less c.loop-entry.invariant c.in_err-read_block_unless_kept.ensures.err)

pub returns-in_err-push_entry_bytes-clause-err : goal.returns-in_err-push_entry_bytes-clause-err
returns-in_err-push_entry_bytes-clause-err g c =
    let less : c.loop-entry.entry-index < length c.args.entries.now = search rules in
    let p = err_from_is_err_and c.from_residual-in_err-push_entry_bytes.result c.from_residual-in_err-push_entry_bytes.ensures.1 in
    rw (p.1, p.2) (unjoined_bytes_at c.args.region c.loop-entry.entry-index c.args.entries.now _ c.loop-entry.joined.items c.loop-entry.last c.in-Some.block _ _ _ _ less c.loop-entry.invariant
    (rw c.in-Some.is at c.in_ok-read_block_unless_kept.ensures.ok) c.in_err-push_entry_bytes.ensures.err)

pub loop-entry-preserved : goal.loop-entry-preserved
loop-entry-preserved g c =
    let less : c.loop-entry.entry-index < length c.args.entries.now = search rules in
    rw c.in-Some.is (joined_at c.loop-entry.entry-index c.args.entries.now _ c.loop-entry.joined.items c.push_entry_bytes.new.joined.items _ c.loop-entry.last c.in-Some.block _ _ _ less c.loop-entry.invariant
    (rw c.in-Some.is at c.in_ok-read_block_unless_kept.ensures.ok) (record { inside = c.in_ok-push_entry_bytes.ensures.inside; are = refl }) c.in_ok-push_entry_bytes.ensures.ok)

pub returns-clause-lengths : goal.returns-clause-lengths
returns-clause-lengths g c =
    (all_joined c.loop-entry.entry-index c.args.entries.now c.loop-entry.joined.items c.loop-entry.last _ _ c.loop-entry-test.false c.loop-entry.invariant).0

pub returns-clause-ok : goal.returns-clause-ok
returns-clause-ok g c =
    (all_joined c.loop-entry.entry-index c.args.entries.now c.loop-entry.joined.items c.loop-entry.last _ _ c.loop-entry-test.false c.loop-entry.invariant).1
