use Rattle.raft_history.proofs.SoundLemmas.{append_apart}
use Rattle.raft_history.proofs.histories.histories_of_the_append_queue_are_apart.Goals as goal

pub returns : goal.returns
returns c = λ h s. record { each = append_apart 0 h s.files }
