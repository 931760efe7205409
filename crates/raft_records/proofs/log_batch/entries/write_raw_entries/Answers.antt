use Rattle.raft_records.proofs.Common.{◌∙◌, map, sym, refl, length-map}
use Rattle.raft_records.proofs.StringLemmas.{found_room, found_consecutive, some_counted}
use Rattle.raft_records.proofs.log_batch.entries.write_raw_entries.Goals as goal

pub add_entry_indexes-requires-clause-consecutive : goal.add_entry_indexes-requires-clause-consecutive
add_entry_indexes-requires-clause-consecutive c =
    found_consecutive c.args.entry_indexes.items c.append_raw_entries.new.entry_indexes.items c.append_raw_entries.new.entry_indexes.items (map (λ e. e.items) c.args.entries.now) refl c.in_ok-append_raw_entries.ensures.lengths c.requires.consecutive

pub add_entry_indexes-requires-clause-room : goal.add_entry_indexes-requires-clause-room
add_entry_indexes-requires-clause-room c =
    found_room c.args.entry_indexes.items c.append_raw_entries.new.entry_indexes.items (map (λ e. e.items) c.args.entries.now) c.args.buf.now.items
    c.append_raw_entries.new.buf.items _ (c.requires.counts ∙ sym (length-map c.args.entries.now (λ e. e.items)))
    c.in_ok-append_raw_entries.ensures.lengths c.in_ok-append_raw_entries.ensures.bytes
    (c.in_ok-append_raw_entries.ensures.accepted (some_counted c.args.entry_indexes.items c.args.entries.now c.requires.counts c.requires.some))
    c.requires.whole
