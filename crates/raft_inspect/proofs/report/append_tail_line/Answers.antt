use Rattle.raft_inspect.proofs.Common.{◌++◌, codes, string_bytes, on_ok_weaker, reason_text, tail_words}
use Rattle.raft_inspect.proofs.TextLemmas.{two_added}
use Rattle.raft_inspect.proofs.report.append_tail_line.Goals as goal

pub returns : goal.returns
returns c =
    on_ok_weaker c.append_reason_line.result
    (λ ended. two_added (string_bytes c.args.text.now) (tail_words c.args.queue c.args.tail.now) (reason_text c.args.tail.now.error ++ codes "\n") (string_bytes c.append_tail_words.new.text)
    (string_bytes c.append_reason_line.new.text) c.in_ok-append_tail_words.ensures ended)
    c.append_reason_line.ensures
