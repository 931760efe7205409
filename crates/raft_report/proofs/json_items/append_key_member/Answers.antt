use Rattle.raft_report.proofs.Common.{rules, serde_json_on_literals}
use Rattle.raft_report.proofs.json_items.append_key_member.Goals as goal

pub returns : goal.returns
unfolding serde_json_on_literals
returns c = search rules
