use Rattle.raft_table.proofs.Facts.{arith, err_from_is_err_and, Append, Rewrite, each_queue, merge_refused, replayed-in}
use Rattle.raft_table.proofs.memtable.MemTable.merge_by_rule.Goals as goal

pub returns-in_err-absorb-clause-fault : goal.returns-in_err-absorb-clause-fault
returns-in_err-absorb-clause-fault c =
    let p = err_from_is_err_and c.from_residual.result c.from_residual.ensures.1 in
    rw (p.1, p.2) (merge_refused c.args.rule c.args.queue c.args.stats.now c.args.self.now c.args.rhs.now _ (rw (← c.self.view_is, ← c.rhs.view_is) c.in_err-absorb.ensures.fault))

pub absorb_keys-requires-clause-room : goal.absorb_keys-requires-clause-room
absorb_keys-requires-clause-room c =
    let es = c.self.inside.entries in
    let rs = c.rhs.inside.entries in
    let mid = c.absorb.new.self in
    let a = rw (← c.rhs.view_is) at c.requires.room Append in
    let b = rw (← c.rhs.view_is) at c.requires.room Rewrite in
    each_queue _
    (omega (arith, a, replayed-in c.args.rule Append es rs mid c.in_ok-absorb.ensures.ok, c.in_ok-absorb.ensures.recounted Append))
    (omega (arith, b, replayed-in c.args.rule Rewrite es rs mid c.in_ok-absorb.ensures.ok, c.in_ok-absorb.ensures.recounted Rewrite))
