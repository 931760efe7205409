use Rattle.raft_inspect.proofs.Common.{◌++◌, codes, string_bytes, on_ok_weaker, reason_text}
use Rattle.raft_inspect.proofs.TextLemmas.{two_added}
use Rattle.raft_inspect.proofs.report.append_refusal.Goals as goal

pub returns : goal.returns
returns c =
    on_ok_weaker c.append_reason_line.result
    (λ ended. two_added (string_bytes c.args.text.now) (codes "opening: refused: ") (reason_text c.args.error.now ++ codes "\n") (string_bytes c.push_str.new.self) (string_bytes c.append_reason_line.new.text)
    c.in_ok-push_str.ensures.bytes ended)
    c.append_reason_line.ensures
