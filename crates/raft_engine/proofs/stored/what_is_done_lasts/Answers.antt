use Rattle.raft_engine.proofs.LastingLemmas.{done_lasts}
use Rattle.raft_engine.proofs.stored.what_is_done_lasts.Goals as goal

pub returns : goal.returns
returns c = done_lasts c.files_that_are_left_hold_what_may_be_left.ensures c.files_that_stand_hold_a_prefix.ensures.all c.unforged_files_hold_what_may_be_left.ensures
