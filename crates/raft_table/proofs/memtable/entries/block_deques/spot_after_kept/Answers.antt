use Rattle.raft_table.proofs.Facts.{length, arith, ap, ◌∙◌, length-starts}
use Rattle.raft_table.proofs.memtable.entries.block_deques.spot_after_kept.Goals as goal

pub overflow_add-result : goal.overflow_add-result
overflow_add-result c =
    let h = c.requires.within (omega arith) in
    let a = c.binary_search_spot-nth.ensures h.0 h.1 h.2 h.3 h.4 in
    let e = ap length h.2 ∙ length-starts h.0 h.1 in
    omega (arith, c.args.starts.now.ok)
