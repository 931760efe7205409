use Rattle.raft_engine_prefixes.proofs.PlaceLemmas.{bytes_stay}
use Rattle.raft_engine_prefixes.proofs.ToldLemmas.{told_before, both_told_before}
use Rattle.raft_engine_prefixes.proofs.contents.told_contents_last.Goals as goal

pub returns-clause-bytes : goal.returns-clause-bytes
returns-clause-bytes c = bytes_stay

pub returns-clause-queue : goal.returns-clause-queue
returns-clause-queue c = told_before

pub returns-clause-both : goal.returns-clause-both
returns-clause-both c = both_told_before
