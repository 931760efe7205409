use Rattle.raft_records.proofs.Common.{◌≡◌, ◌≢◌, ◌∙◌, List, ℕ, EntryIndex, Item, [], ◌∷◌, ◌++◌, entries_item, entry_bytes_of, with_offsets_from, length, sym, ap, arith, rules, strings_in}
use Rattle.raft_records.proofs.StageLemmas.{cut_held, open_of, reheld}
use Rattle.raft_records.proofs.StringLemmas.{added_held, added_view, cut_counts, cut_joined, cut_lengths, reserved_len}
use Rattle.raft_records.proofs.log_batch.LogBatch.add_joined_entries.Goals as goal

pub invariant_of-self : goal.invariant_of-self
invariant_of-self c = reheld (open_of c.self.view_is c.requires.open) c.self.invariant c.reserve_header.ensures.same

pub write_joined_entries-requires-clause-whole : goal.write_joined_entries-requires-clause-whole
write_joined_entries-requires-clause-whole c =
    reserved_len c.reserve_header.new.buf.items (open_of c.self.view_is c.requires.open) c.self.invariant c.in_ok-reserve_header.ensures.ok c.reserve_header.ensures.same

pub invariant_of-self-in-Err : goal.invariant_of-self-in-Err
invariant_of-self-in-Err c =
    let start : c.len-start.result ≡ length c.reserve_header.new.buf.items = omega (arith, c.len-start.ensures) in
    cut_held (open_of c.self.view_is c.requires.open) c.self.invariant c.reserve_header.ensures.same c.in-Err.ensures.err_bytes start c.truncate.ensures.items c.in-Err.ensures.err

pub invariant_of-self-in_default : goal.invariant_of-self-in_default
invariant_of-self-in_default c =
    let es = c.args.entry_indexes.items in
    let strings = strings_in es c.args.bytes.now in
    let items = c.self.inside.item_batch in
    let added = c.in_default.ensures.items ∙ ap (λ (l : List EntryIndex). items ++ entries_item c.args.region (with_offsets_from (entry_bytes_of items) l) ∷ []) (sym (cut_lengths es c.args.bytes.now c.requires.lengths)) in
    let bytes = c.in_default.ensures.bytes ∙ ap (λ (t : List ℕ). c.reserve_header.new.buf.items ++ t) (sym (cut_joined es c.args.bytes.now c.requires.lengths)) in
    (added_held c.args.region c.reserve_header.new.buf.items es strings (open_of c.self.view_is c.requires.open) c.self.invariant c.in_ok-reserve_header.ensures.ok
    c.reserve_header.ensures.same (cut_counts es c.args.bytes.now) added bytes c.in_default.ensures.accepted).0

pub returns-clause-ok : goal.returns-clause-ok
returns-clause-ok c =
    let es = c.args.entry_indexes.items in
    let strings = strings_in es c.args.bytes.now in
    let items = c.self.inside.item_batch in
    let added = c.in_default.ensures.items ∙ ap (λ (l : List EntryIndex). items ++ entries_item c.args.region (with_offsets_from (entry_bytes_of items) l) ∷ []) (sym (cut_lengths es c.args.bytes.now c.requires.lengths)) in
    let bytes = c.in_default.ensures.bytes ∙ ap (λ (t : List ℕ). c.reserve_header.new.buf.items ++ t) (sym (cut_joined es c.args.bytes.now c.requires.lengths)) in
    let held = added_held c.args.region c.reserve_header.new.buf.items es strings (open_of c.self.view_is c.requires.open) c.self.invariant c.in_ok-reserve_header.ensures.ok
    c.reserve_header.ensures.same (cut_counts es c.args.bytes.now) added bytes c.in_default.ensures.accepted in
    let some : es ≢ [] = search rules in
    added_view c.args.region es strings c.self.view_is c.self.invariant.whole some added held.1
