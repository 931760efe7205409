use Rattle.raft_report.proofs.Common.{rules, serde_json_on_literals}
use Rattle.raft_report.proofs.json_items.append_command.Goals as goal

pub returns-in-Clean : goal.returns-in-Clean
unfolding serde_json_on_literals
returns-in-Clean c = search rules

pub returns-in-Compact : goal.returns-in-Compact
unfolding serde_json_on_literals
returns-in-Compact c = search rules

pub returns-in-Truncate : goal.returns-in-Truncate
unfolding serde_json_on_literals
returns-in-Truncate c = search rules
