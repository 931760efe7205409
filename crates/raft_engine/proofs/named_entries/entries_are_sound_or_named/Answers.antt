use Rattle.raft_engine.proofs.NamedLemmas.{entries_named}
use Rattle.raft_engine.proofs.named_entries.entries_are_sound_or_named.Goals as goal

pub returns : goal.returns
returns c = entries_named
