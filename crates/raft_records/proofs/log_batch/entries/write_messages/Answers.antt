use Rattle.raft_records.proofs.Common.{refl, arith}
use Rattle.raft_records.proofs.StringLemmas.{laid_messages_fit}
use Rattle.raft_records.proofs.log_batch.entries.write_messages.Goals as goal

pub add_entries_with_offsets-requires-clause-fits : goal.add_entries_with_offsets-requires-clause-fits
add_entries_with_offsets-requires-clause-fits g c =
    (laid_messages_fit g.M.MessageExt.index_of g.M.Entry.Message.bytes_of c.args.entries.now c.args.buf.now.items c.append_messages.new.buf.items
    c.append_messages.new.entry_indexes.items _ (c.if-not-have_consecutive_indexes.ensures.0 refl) c.in_ok-append_messages.ensures.laid
    c.in_ok-append_messages.ensures.bytes (c.in_ok-append_messages.ensures.accepted c.requires.some) c.requires.whole).0

pub add_entries_with_offsets-requires-clause-end : goal.add_entries_with_offsets-requires-clause-end
add_entries_with_offsets-requires-clause-end g c =
    let fit = laid_messages_fit g.M.MessageExt.index_of g.M.Entry.Message.bytes_of c.args.entries.now c.args.buf.now.items
    c.append_messages.new.buf.items c.append_messages.new.entry_indexes.items _ (c.if-not-have_consecutive_indexes.ensures.0 refl)
    c.in_ok-append_messages.ensures.laid c.in_ok-append_messages.ensures.bytes (c.in_ok-append_messages.ensures.accepted c.requires.some)
    c.requires.whole in
    omega (arith, c.len.ensures, fit.1)
