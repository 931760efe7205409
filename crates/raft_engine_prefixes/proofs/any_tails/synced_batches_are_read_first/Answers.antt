use Rattle.raft_engine_prefixes.proofs.AnyTailLemmas.{any_begins, reads_prefix, reads_synced}
use Rattle.raft_engine_prefixes.proofs.any_tails.synced_batches_are_read_first.Goals as goal

pub returns-clause-first : goal.returns-clause-first
returns-clause-first c = reads_prefix

pub returns-clause-begin : goal.returns-clause-begin
returns-clause-begin c = any_begins

pub returns-clause-read : goal.returns-clause-read
returns-clause-read c = reads_synced
