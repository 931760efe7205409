use Rattle.raft_engine.proofs.Common.{Appending}
use Rattle.raft_engine.proofs.DrainLemmas.{apply_so, next_refused, room_so}
use Rattle.raft_engine.proofs.engine.apply_batch.Goals as goal

pub returns-clause-ok : goal.returns-clause-ok
returns-clause-ok c = apply_so c.apply_append_writes.result Appending c.drain.result c.args.batch.now.items c.args.accessor.now c.apply_append_writes.new.self c.drain.ensures.items c.drain.ensures.len c.apply_append_writes.ensures.ok

pub returns-clause-room : goal.returns-clause-room
returns-clause-room c = λ accepted.
    room_so c.accepted_items_lack_room_alone.ensures c.apply_append_writes.result c.drain.result c.args.batch.now.items c.args.accessor.now c.apply_append_writes.new.self c.drain.ensures.items accepted
    c.apply_append_writes.ensures.refused

pub returns-clause-fault : goal.returns-clause-fault
returns-clause-fault c =
    next_refused c.apply_append_writes.result Appending c.drain.result c.args.batch.now.items c.args.accessor.now c.apply_append_writes.new.self c.drain.ensures.items c.apply_append_writes.ensures.refused
