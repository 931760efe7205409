use Rattle.raft_history.proofs.ReadingLemmas.{entry_stands, pair_stands}
use Rattle.raft_history.proofs.histories.last_words_stand.Goals as goal

pub returns : goal.returns
returns c = record { entries = entry_stands; keys = pair_stands }
