use Rattle.raft_report.proofs.Common.{rules, string_bytes, on_ok_weaker}
use Rattle.raft_report.proofs.LineLemmas.{unreadable_added}
use Rattle.raft_report.proofs.json_files.append_unreadable_batch.Goals as goal

pub returns : goal.returns
returns c =
    on_ok_weaker c.write.result (λ ended. unreadable_added c.args.offset c.args.reason.now (string_bytes c.in_ok-why.why) (string_bytes c.args.text.now) (string_bytes c.write.new.self) c.in_ok-why.ensures ended) (search rules)
