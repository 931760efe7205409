use Rattle.raft_history.proofs.EffectFileLemmas.{least_of_both, none_below}
use Rattle.raft_history.proofs.histories.no_record_of_both_queues_is_below_the_least_file.Goals as goal

pub returns : goal.returns
returns c = record { equal = least_of_both; lowest = λ h g tables cleaned s a t b r p. none_below p _ (least_of_both h g tables cleaned s a t b r) }
