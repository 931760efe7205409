use Rattle.raft_records.proofs.Common.{◌≡◌, ◌≢◌, [], length, map, arith, rules, entry_with_index}
use Rattle.raft_records.proofs.StageLemmas.{cut_held, open_of, reheld}
use Rattle.raft_records.proofs.StringLemmas.{added_held, added_view, reserved_len, same_counts, map_some}
use Rattle.raft_records.proofs.log_batch.LogBatch.add_entries.Goals as goal

pub invariant_of-self : goal.invariant_of-self
invariant_of-self g c = reheld (open_of c.self.view_is c.requires) c.self.invariant c.reserve_header.ensures.same

pub write_messages-requires-clause-whole : goal.write_messages-requires-clause-whole
write_messages-requires-clause-whole g c κs within =
    reserved_len c.reserve_header.new.buf.items (open_of c.self.view_is c.requires) c.self.invariant c.in_ok-reserve_header.ensures.ok c.reserve_header.ensures.same

pub invariant_of-self-in-Err : goal.invariant_of-self-in-Err
invariant_of-self-in-Err g c =
    let start : c.len-start.result ≡ length c.reserve_header.new.buf.items = omega (arith, c.len-start.ensures) in
    cut_held (open_of c.self.view_is c.requires) c.self.invariant c.reserve_header.ensures.same c.in-Err.ensures.err_bytes start c.truncate.ensures.items c.in-Err.ensures.err

pub invariant_of-self-in_default : goal.invariant_of-self-in_default
invariant_of-self-in_default g c =
    let es = map (λ e. entry_with_index (g.M.MessageExt.index_of e)) c.args.entries.now in
    let strings = map g.M.Entry.Message.bytes_of c.args.entries.now in
    let counts = same_counts g.M.Entry.Message.bytes_of g.M.MessageExt.index_of c.args.entries.now in
    let held = added_held c.args.region c.reserve_header.new.buf.items es strings (open_of c.self.view_is c.requires) c.self.invariant c.in_ok-reserve_header.ensures.ok
    c.reserve_header.ensures.same counts c.in_default.ensures.items c.in_default.ensures.bytes c.in_default.ensures.accepted in
    held.0

pub returns-clause-ok : goal.returns-clause-ok
returns-clause-ok g c =
    let es = map (λ e. entry_with_index (g.M.MessageExt.index_of e)) c.args.entries.now in
    let strings = map g.M.Entry.Message.bytes_of c.args.entries.now in
    let counts = same_counts g.M.Entry.Message.bytes_of g.M.MessageExt.index_of c.args.entries.now in
    let held = added_held c.args.region c.reserve_header.new.buf.items es strings (open_of c.self.view_is c.requires) c.self.invariant c.in_ok-reserve_header.ensures.ok
    c.reserve_header.ensures.same counts c.in_default.ensures.items c.in_default.ensures.bytes c.in_default.ensures.accepted in
    let some : c.args.entries.now ≢ [] = search rules in
    added_view c.args.region es strings c.self.view_is c.self.invariant.whole (map_some (λ e. entry_with_index (g.M.MessageExt.index_of e)) c.args.entries.now some) c.in_default.ensures.items held.1
