use Rattle.raft_engine_prefixes.proofs.Common.{◌<◌, ◌≤◌, FileId}
use Rattle.raft_engine_prefixes.proofs.FileLemmas.{files_fine}
use Rattle.raft_engine_prefixes.proofs.prefixes.batches_lie_in_their_files.Goals as goal

pub returns-clause-below : goal.returns-clause-below
returns-clause-below c = λ queue version n files h held below. files_fine (λ (id : FileId). id.seq < n) queue version files h held below

pub returns-clause-from : goal.returns-clause-from
returns-clause-from c = λ queue version n files h held above. files_fine (λ (id : FileId). n ≤ id.seq) queue version files h held above
