use Rattle.raft_engine_laws.proofs.ContentLemmas.{block_is_read, added_bytes}
use Rattle.raft_engine_laws.proofs.contents.written_entries_are_read.Goals as goal

pub returns-clause-block : goal.returns-clause-block
returns-clause-block c = block_is_read

pub returns-clause-entries : goal.returns-clause-entries
returns-clause-entries c = added_bytes
