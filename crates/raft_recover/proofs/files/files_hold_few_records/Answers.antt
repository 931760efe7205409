use Rattle.raft_recover.proofs.FewFileLemmas.{small_files}
use Rattle.raft_recover.proofs.files.files_hold_few_records.Goals as goal

pub returns : goal.returns
returns c = small_files
