use Rattle.raft_report.proofs.Common.{rules, option_copied, string_bytes, on_ok_weaker}
use Rattle.raft_report.proofs.LineLemmas.{use_added}
use Rattle.raft_report.proofs.json_tables.append_json_file_use.Goals as goal

pub returns : goal.returns
returns c =
    on_ok_weaker c.push_str.result
    (λ ended. use_added c.args.queue c.args.size.now (option_copied c.args.file_use) (string_bytes c.args.text.now) (string_bytes c.write.new.self) (string_bytes c.append_region_numbers.new.text) (string_bytes c.push_str.new.self) (search rules) c.in_ok-append_region_numbers.ensures ended)
    (search rules)
