use Rattle.std.proofs.Common.{refl}
use Rattle.raft_replay.proofs.scheduled.schedule_fault.Goals as goal

pub returns-clause-none : goal.returns-clause-none
returns-clause-none c = record {
  of_queue = c.in_default.ensures.none.2;
  some_worker = c.in_default.ensures.none.0;
  few_workers = c.in_default.ensures.none.1;
  known_workers = c.if-not-are_known_workers.ensures.0 refl;
  plan_fits = c.if-not-fits_piece_count.ensures.0 refl;
}
