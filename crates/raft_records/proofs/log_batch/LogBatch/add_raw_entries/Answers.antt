use Rattle.raft_records.proofs.Common.{◌≡◌, ◌≢◌, ◌∙◌, [], length, map, sym, arith, rules, length-map}
use Rattle.raft_records.proofs.StageLemmas.{cut_held, open_of, reheld}
use Rattle.raft_records.proofs.StringLemmas.{added_held, added_view, reserved_len}
use Rattle.raft_records.proofs.log_batch.LogBatch.add_raw_entries.Goals as goal

pub invariant_of-self : goal.invariant_of-self
invariant_of-self c = reheld (open_of c.self.view_is c.requires.open) c.self.invariant c.reserve_header.ensures.same

pub write_raw_entries-requires-clause-whole : goal.write_raw_entries-requires-clause-whole
write_raw_entries-requires-clause-whole c =
    reserved_len c.reserve_header.new.buf.items (open_of c.self.view_is c.requires.open) c.self.invariant c.in_ok-reserve_header.ensures.ok c.reserve_header.ensures.same

pub invariant_of-self-in-Err : goal.invariant_of-self-in-Err
invariant_of-self-in-Err c =
    let start : c.len-start.result ≡ length c.reserve_header.new.buf.items = omega (arith, c.len-start.ensures) in
    cut_held (open_of c.self.view_is c.requires.open) c.self.invariant c.reserve_header.ensures.same c.in-Err.ensures.err_bytes start c.truncate.ensures.items c.in-Err.ensures.err

pub invariant_of-self-in_default : goal.invariant_of-self-in_default
invariant_of-self-in_default c =
    let counts = c.requires.counts ∙ sym (length-map c.args.entries.items (λ e. e.items)) in
    let added = rw c.as_slice.ensures.value at c.in_default.ensures.items in
    let bytes = rw c.as_slice.ensures.value at c.in_default.ensures.bytes in
    let held = added_held c.args.region c.reserve_header.new.buf.items c.args.entry_indexes.items (map (λ e. e.items) c.args.entries.items) (open_of c.self.view_is c.requires.open)
    c.self.invariant c.in_ok-reserve_header.ensures.ok c.reserve_header.ensures.same counts added bytes c.in_default.ensures.accepted in
    held.0

pub returns-clause-ok : goal.returns-clause-ok
returns-clause-ok c =
    let es = c.args.entry_indexes.items in
    let strings = map (λ e. e.items) c.args.entries.items in
    let counts = c.requires.counts ∙ sym (length-map c.args.entries.items (λ e. e.items)) in
    let added = rw c.as_slice.ensures.value at c.in_default.ensures.items in
    let bytes = rw c.as_slice.ensures.value at c.in_default.ensures.bytes in
    let held = added_held c.args.region c.reserve_header.new.buf.items es strings (open_of c.self.view_is c.requires.open) c.self.invariant c.in_ok-reserve_header.ensures.ok
    c.reserve_header.ensures.same counts added bytes c.in_default.ensures.accepted in
    let some : c.args.entry_indexes.items ≢ [] = search rules in
    added_view c.args.region es strings c.self.view_is c.self.invariant.whole some added held.1
