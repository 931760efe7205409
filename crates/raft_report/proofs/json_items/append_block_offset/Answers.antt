use Rattle.raft_report.proofs.Common.{rules, serde_json_on_literals}
use Rattle.raft_report.proofs.json_items.append_block_offset.Goals as goal

pub returns-in-Some : goal.returns-in-Some
unfolding serde_json_on_literals
returns-in-Some c = search rules

pub returns-in-None : goal.returns-in-None
unfolding serde_json_on_literals
returns-in-None c = search rules
