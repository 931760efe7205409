use Rattle.raft_ffi.proofs.read_queue.stop_error.Goals as goal

pub returns-clause-unreadable : goal.returns-clause-unreadable
returns-clause-unreadable c = c.in-Err.ensures.refused c.in_ok-unless_memory-in-Err.ensures.ok
