use Rattle.raft_report.proofs.Common.{rules, string_bytes, on_ok_weaker}
use Rattle.raft_report.proofs.LineLemmas.{read_added}
use Rattle.raft_report.proofs.json_items.append_read_entry.Goals as goal

pub returns : goal.returns
returns c =
    on_ok_weaker c.write.result (λ ended. read_added c.args.index c.args.bytes.now (string_bytes c.in_ok-bytes.bytes) (string_bytes c.args.text.now) (string_bytes c.write.new.self) c.in_ok-bytes.ensures ended) (search rules)
