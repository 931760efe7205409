use Rattle.raft_report.proofs.Common.{refl, on_ok_weaker, json_line, place_data}
use Rattle.raft_report.proofs.json_dump.JsonDumpDumpForm.append_damage.Goals as goal

pub returns : goal.returns
returns c = on_ok_weaker c.append_json_damage_line.result (λ ended. record { text = json_line (place_data c.args.part.now c.args.at c.args.reason.now); is_text = refl; behind = ended }) c.append_json_damage_line.ensures
