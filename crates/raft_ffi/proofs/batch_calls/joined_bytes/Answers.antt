use Rattle.std.proofs.Common.{rules, ◌+◌, ◌<◌, length, drop}
use Rattle.std.proofs.lemmas.List.{drop_more}
use Rattle.raft_ffi.proofs.StringLemmas.{next_cut}
use Rattle.raft_ffi.proofs.batch_calls.joined_bytes.Goals as goal

pub loop-len-preserved : goal.loop-len-preserved
loop-len-preserved c =
    let less : c.loop-len.len-index < length c.args.lens.now = search rules in
    next_cut c.loop-len.len-index c.args.lens.now c.args.bytes.now c.loop-len.rest.now _ (drop (c.loop-len.len-index + 1) c.args.lens.now) _
    (drop_more c.args.lens.now c.loop-len.len-index 0 less) c.split_at.ensures.back c.loop-len.invariant
