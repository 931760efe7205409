use Rattle.raft_table.proofs.Facts.{last_entry_stands, last_pair_stands}
use Rattle.raft_table.proofs.memtable.change.last_words_stand.Goals as goal

pub returns : goal.returns
returns c = record { entries = λ id i t ss. last_entry_stands i id t ss; keys = λ q id key t ss. last_pair_stands q key id t ss }
