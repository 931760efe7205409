use Rattle.raft_engine.proofs.Common.{Rewriting}
use Rattle.raft_engine.proofs.DrainLemmas.{apply_so, next_refused}
use Rattle.raft_engine.proofs.UntakenLemmas.{drain_room}
use Rattle.raft_engine.proofs.engine.rewrite.rewrite_items.Goals as goal

pub returns-clause-ok : goal.returns-clause-ok
returns-clause-ok c =
    apply_so c.apply_rewrite_writes.result (Rewriting c.args.gate c.args.seq) c.drain.result c.args.batch.now.items c.args.accessor.now
    c.apply_rewrite_writes.new.self c.drain.ensures.items c.drain.ensures.len c.apply_rewrite_writes.ensures.ok

pub returns-clause-fault : goal.returns-clause-fault
returns-clause-fault c =
    next_refused c.apply_rewrite_writes.result (Rewriting c.args.gate c.args.seq) c.drain.result c.args.batch.now.items c.args.accessor.now c.apply_rewrite_writes.new.self c.drain.ensures.items c.apply_rewrite_writes.ensures.refused

pub returns-clause-room : goal.returns-clause-room
returns-clause-room c taken =
    drain_room c.args.gate c.args.seq c.apply_rewrite_writes.result c.drain.result c.args.batch.now.items c.args.accessor.now c.apply_rewrite_writes.new.self c.drain.ensures.items taken c.apply_rewrite_writes.ensures.refused
