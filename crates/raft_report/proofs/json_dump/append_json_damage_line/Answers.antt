use Rattle.raft_report.proofs.Common.{rules, string_bytes, on_ok_weaker}
use Rattle.raft_report.proofs.LineLemmas.{place_added}
use Rattle.raft_report.proofs.json_dump.append_json_damage_line.Goals as goal

pub returns : goal.returns
returns c =
    on_ok_weaker c.writeln.result
    (λ ended. place_added c.args.part.now c.args.at c.args.reason.now (string_bytes c.in_ok-why.why) (string_bytes c.args.text.now) (string_bytes c.append_place_members.new.text) (string_bytes c.writeln.new.self) c.in_ok-why.ensures c.in_ok-append_place_members.ensures ended)
    (search rules)
