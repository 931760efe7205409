use Rattle.raft_engine_prefixes.proofs.ToldLemmas.{told_by_files}
use Rattle.raft_engine_prefixes.proofs.contents.files_tell_contents.Goals as goal

pub returns : goal.returns
returns c = told_by_files
