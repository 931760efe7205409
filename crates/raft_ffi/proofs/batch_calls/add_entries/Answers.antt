use Rattle.std.proofs.Common.{◌∙◌, length, sym, ap, subst, arith}
use Rattle.std.proofs.lemmas.Result.{on_ok_weaker}
use Rattle.raft_base.specs.Runs.{IsConsecutive}
use Rattle.raft_records.specs.ItemBatch.{entry_lengths}
use Rattle.raft_ffi.proofs.StringLemmas.{added, consecutive, on_some, small, sum_is}
use Rattle.raft_ffi.proofs.batch_calls.add_entries.Goals as goal

pub entries_of_lens-requires-clause-lengths : goal.entries_of_lens-requires-clause-lengths
entries_of_lens-requires-clause-lengths c =
    let all = ap length c.joined_bytes-joined.ensures in
    let few = c.if-joined-gt-MOST_ENTRY_BYTES.false in
    small c.args.lens.now c.args.bytes.now c.requires.strings (omega (arith, all, few))

pub add_joined_entries-requires-clause-lengths : goal.add_joined_entries-requires-clause-lengths
add_joined_entries-requires-clause-lengths c =
    ap entry_lengths c.in_ok-entries.ensures.ok ∙ sum_is c.args.first c.args.lens.now c.args.bytes.now c.requires.strings ∙ sym (ap length c.joined_bytes-joined.ensures)

pub add_joined_entries-requires-clause-consecutive : goal.add_joined_entries-requires-clause-consecutive
add_joined_entries-requires-clause-consecutive c = subst IsConsecutive (sym c.in_ok-entries.ensures.ok) (consecutive c.args.first c.args.lens.now c.requires.indexes)

pub returns-clause-ok : goal.returns-clause-ok
returns-clause-ok c =
    on_ok_weaker c.add_joined_entries.result (added c.args.batch.now c.add_joined_entries.new.self c.args.region c.args.first c.args.lens.now c.args.bytes.now c.in_ok-entries.entries.items _
    c.requires.strings c.in_ok-entries.ensures.ok c.joined_bytes-joined.ensures) c.add_joined_entries.ensures.ok

pub returns-clause-accepted : goal.returns-clause-accepted
returns-clause-accepted c =
    let h = rw (c.in_ok-entries.ensures.ok, c.joined_bytes-joined.ensures) at c.add_joined_entries.ensures.accepted in
    on_some c.add_joined_entries.result c.args.first c.args.lens.now _ h
