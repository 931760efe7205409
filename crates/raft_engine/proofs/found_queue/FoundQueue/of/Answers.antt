use Rattle.raft_engine.proofs.found_queue.FoundQueue.of.Goals as goal

pub returns-clause-ok : goal.returns-clause-ok
returns-clause-ok c = record {
  consecutive = c.in_ok-check_numbers.ensures.ok;
  whole = c.in_ok-segments.ensures.whole;
  known = c.in_ok-known.ensures.ok;
  room = c.in_ok-known.ensures.room;
}
