use Rattle.raft_engine_prefixes.proofs.AnyDoneLemmas.{any_left_of_done}
use Rattle.raft_engine_prefixes.proofs.any_tails.unforged_files_hold_what_may_be_left.Goals as goal

pub returns : goal.returns
returns c = any_left_of_done
