use Rattle.raft_report.proofs.Common.{rules}
use Rattle.raft_report.proofs.LineLemmas.{no_files_is}
use Rattle.raft_report.proofs.json_files.append_json_no_files.Goals as goal

pub returns : goal.returns
returns c = rw (no_files_is c.args.queue) (search rules)
