use Rattle.raft_engine.proofs.Common.{inr, length, sym, ap, ◌∙◌, err_from_is_err_and, strings_in, entry_lengths, Batch}
use Rattle.raft_engine.proofs.UnmovedLemmas.{joined_refused}
use Rattle.raft_engine.proofs.group_batches.new_part_batch.Goals as goal

pub add_joined_entries-requires-clause-lengths : goal.add_joined_entries-requires-clause-lengths
add_joined_entries-requires-clause-lengths g c = ap entry_lengths c.in_ok-from_slice.ensures.items ∙ c.in_ok-bytes.ensures.lengths ∙ ap length (sym c.as_slice.ensures.value)

pub returns-in_err-add_joined_entries-clause-refused : goal.returns-in_err-add_joined_entries-clause-refused
returns-in_err-add_joined_entries-clause-refused g c =
    let p = err_from_is_err_and c.from_residual-in_err-add_joined_entries.result c.from_residual-in_err-add_joined_entries.ensures.1 in
    let none = ap (λ (b : Batch). length b.entry_bytes) c.in_ok-add.ensures.ok ∙ ap (λ (b : Batch). length b.entry_bytes) c.default-batch.ensures in
    rw (p.1, p.2) (λ some.
    let full = joined_refused _ c.args.entries.now c.in_ok-bytes.bytes.items _ _ none c.in_ok-bytes.ensures.lengths c.as_slice.ensures.value (c.in_err-add_joined_entries.ensures.fault some) in
    inr (strings_in c.args.entries.now c.in_ok-bytes.bytes.items, c.in_ok-bytes.ensures.ok, full.0, full.1))
