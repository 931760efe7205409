use Rattle.raft_engine_prefixes.proofs.DoneLemmas.{left_of_done}
use Rattle.raft_engine_prefixes.proofs.done.files_that_are_left_hold_what_may_be_left.Goals as goal

pub returns : goal.returns
returns c = left_of_done
