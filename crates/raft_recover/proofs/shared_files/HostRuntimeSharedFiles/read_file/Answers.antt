use Rattle.raft_recover.proofs.NamedFileLemmas.{appended}
use Rattle.raft_recover.proofs.shared_files.HostRuntimeSharedFiles.read_file.Goals as goal

pub returns-clause-ok : goal.returns-clause-ok
returns-clause-ok c = appended c.args.bytes.now.items c.read_to_end.new.buf.items c.in_ok-read_to_end.ensures.appends
