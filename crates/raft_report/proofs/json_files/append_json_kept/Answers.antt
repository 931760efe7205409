use Rattle.raft_report.proofs.Common.{rules, string_bytes, on_ok_weaker}
use Rattle.raft_report.proofs.LineLemmas.{kept_added}
use Rattle.raft_report.proofs.json_files.append_json_kept.Goals as goal

pub returns : goal.returns
returns c =
    on_ok_weaker c.writeln.result (λ ended. kept_added c.args.len c.args.path.now (string_bytes c.in_ok-path.path) (string_bytes c.args.text.now) (string_bytes c.writeln.new.self) c.in_ok-path.ensures ended) (search rules)
