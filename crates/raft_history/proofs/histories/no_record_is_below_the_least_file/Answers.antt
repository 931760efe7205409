use Rattle.raft_history.proofs.EffectFileLemmas.{least_read, none_below}
use Rattle.raft_history.proofs.histories.no_record_is_below_the_least_file.Goals as goal

pub returns : goal.returns
returns c = record { equal = least_read; lowest = λ q h tables cleaned s a one r p. none_below p _ (least_read q h tables cleaned s a one r) }
