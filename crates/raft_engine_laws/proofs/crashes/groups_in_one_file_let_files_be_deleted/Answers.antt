use Rattle.raft_engine_laws.proofs.GroupFiles.{no_files_end, more_files_end}
use Rattle.raft_engine_laws.proofs.crashes.groups_in_one_file_let_files_be_deleted.Goals as goal

pub returns-clause-none : goal.returns-clause-none
returns-clause-none c = no_files_end

pub returns-clause-more : goal.returns-clause-more
returns-clause-more c = more_files_end
