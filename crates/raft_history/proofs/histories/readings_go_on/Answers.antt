use Rattle.raft_history.proofs.ReadingLemmas.{goes_on_sound, goes_on_reading}
use Rattle.raft_history.proofs.histories.readings_go_on.Goals as goal

pub returns : goal.returns
returns c = record { sound = goes_on_sound; reading = goes_on_reading }
