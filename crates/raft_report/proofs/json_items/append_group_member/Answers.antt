use Rattle.raft_report.proofs.Common.{rules, serde_json_on_literals}
use Rattle.raft_report.proofs.json_items.append_group_member.Goals as goal

pub returns-in-Some-Begin : goal.returns-in-Some-Begin
unfolding serde_json_on_literals
returns-in-Some-Begin c = search rules

pub returns-in-Some-Middle : goal.returns-in-Some-Middle
unfolding serde_json_on_literals
returns-in-Some-Middle c = search rules

pub returns-in-Some-End : goal.returns-in-Some-End
unfolding serde_json_on_literals
returns-in-Some-End c = search rules
