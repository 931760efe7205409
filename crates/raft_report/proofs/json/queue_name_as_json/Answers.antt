use Rattle.raft_report.proofs.Common.{rules, serde_json_on_literals}
use Rattle.raft_report.proofs.json.queue_name_as_json.Goals as goal

pub returns-in-Append : goal.returns-in-Append
unfolding serde_json_on_literals
returns-in-Append c = search rules

pub returns-in-Rewrite : goal.returns-in-Rewrite
unfolding serde_json_on_literals
returns-in-Rewrite c = search rules
