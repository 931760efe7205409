use Rattle.raft_report.proofs.Common.{rules}
use Rattle.raft_report.proofs.LineLemmas.{missing_is}
use Rattle.raft_report.proofs.json_files.append_json_missing_line.Goals as goal

pub returns : goal.returns
returns c = rw (missing_is c.args.queue c.args.numbers) (search rules)
