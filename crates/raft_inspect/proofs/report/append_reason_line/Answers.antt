use Rattle.raft_inspect.proofs.Common.{◌++◌, codes, string_bytes, on_ok_weaker, reason_text}
use Rattle.raft_inspect.proofs.TextLemmas.{if_appended, two_added}
use Rattle.raft_inspect.proofs.report.append_reason_line.Goals as goal

pub returns : goal.returns
returns c =
    let mid = string_bytes c.append_reason.new.text in
    let new = string_bytes c.push_str.new.self in
    on_ok_weaker c.push_str.result (λ ended. two_added (string_bytes c.args.text.now) (reason_text c.args.reason.now) (codes "\n") mid new c.in_ok-append_reason.ensures ended)
    (if_appended c.push_str.result new (mid ++ codes "\n") mid c.push_str.ensures.bytes)
