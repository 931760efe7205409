use Rattle.raft_history.proofs.ReadingLemmas.{same_tables, same_cleaned}
use Rattle.raft_history.proofs.histories.readings_agree.Goals as goal

pub returns : goal.returns
returns c = record { tables = same_tables; cleaned = same_cleaned }
