use Rattle.raft_engine.proofs.Common.{err_from_is_err_and, inl, inr, length, sym, ap, ◌∙◌, entry_lengths, Batch, pairs_shown}
use Rattle.raft_engine.proofs.ReadKept.{read_only, unread_only}
use Rattle.raft_engine.proofs.RewrittenRegions.{on_any}
use Rattle.raft_engine.proofs.UnmovedLemmas.{entries_refused, joined_refused, records_refused}
use Rattle.raft_engine.proofs.rewriting.next_moving_batch.Goals as goal

pub add_joined_entries-requires-clause-lengths : goal.add_joined_entries-requires-clause-lengths
add_joined_entries-requires-clause-lengths g c = ap entry_lengths c.in_ok-from_slice.ensures.items ∙ c.in_ok-bytes.ensures.lengths ∙ ap length (sym c.as_slice.ensures.value)

pub returns-in_err-bytes-clause-err : goal.returns-in_err-bytes-clause-err
returns-in_err-bytes-clause-err g c = on_any _ _ (unread_only _ _ _ _ _ c.in_err-bytes.ensures.err)

pub returns-in_err-from_slice-clause-err : goal.returns-in_err-from_slice-clause-err
returns-in_err-from_slice-clause-err g c = on_any _ _ (read_only _ _ _ _ c.in_ok-bytes.ensures.ok)

pub returns-in_err-add_joined_entries-clause-err : goal.returns-in_err-add_joined_entries-clause-err
returns-in_err-add_joined_entries-clause-err g c = on_any _ _ (read_only _ _ _ _ c.in_ok-bytes.ensures.ok)

pub returns-in_err-put_pairs-clause-err : goal.returns-in_err-put_pairs-clause-err
returns-in_err-put_pairs-clause-err g c = on_any _ _ (read_only _ _ _ _ c.in_ok-bytes.ensures.ok)

pub returns-in_err-bytes-clause-refused : goal.returns-in_err-bytes-clause-refused
returns-in_err-bytes-clause-refused g c =
    let p = err_from_is_err_and c.from_residual-in_err-bytes.result c.from_residual-in_err-bytes.ensures.1 in
    rw (p.1, p.2) (λ some. entries_refused c.args.gate c.args.left.now c.args.table.now c.region_id-region.result c.region_id-region.ensures c.args.part.now _ _ _ c.requires.next c.in_err-bytes.ensures.err)

pub returns-in_err-add_joined_entries-clause-refused : goal.returns-in_err-add_joined_entries-clause-refused
returns-in_err-add_joined_entries-clause-refused g c =
    let p = err_from_is_err_and c.from_residual-in_err-add_joined_entries.result c.from_residual-in_err-add_joined_entries.ensures.1 in
    rw (p.1, p.2) (λ some. records_refused c.args.gate c.args.left.now c.args.table.now c.args.part.now _ (pairs_shown c.in_ok-pairs.pairs.items) _ _ _
    c.requires.next c.in_ok-bytes.ensures.ok c.in_ok-pairs.ensures.ok (inl (joined_refused _ _ _ _ _ (ap (λ (b : Batch). length b.entry_bytes) c.default-batch.ensures) c.in_ok-bytes.ensures.lengths c.as_slice.ensures.value (c.in_err-add_joined_entries.ensures.fault some))))

pub returns-in_err-put_pairs-clause-refused : goal.returns-in_err-put_pairs-clause-refused
returns-in_err-put_pairs-clause-refused g c =
    let p = err_from_is_err_and c.from_residual-in_err-put_pairs.result c.from_residual-in_err-put_pairs.ensures.1 in
    rw (p.1, p.2) (λ some. records_refused c.args.gate c.args.left.now c.args.table.now c.args.part.now _ (pairs_shown c.in_ok-pairs.pairs.items) _ _ _
    c.requires.next c.in_ok-bytes.ensures.ok c.in_ok-pairs.ensures.ok (inr (c.in_err-put_pairs.ensures.refused some)))
