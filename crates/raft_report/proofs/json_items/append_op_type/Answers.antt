use Rattle.raft_report.proofs.Common.{rules, serde_json_on_literals}
use Rattle.raft_report.proofs.json_items.append_op_type.Goals as goal

pub returns-in-Put : goal.returns-in-Put
unfolding serde_json_on_literals
returns-in-Put c = search rules

pub returns-in-Del : goal.returns-in-Del
unfolding serde_json_on_literals
returns-in-Del c = search rules
