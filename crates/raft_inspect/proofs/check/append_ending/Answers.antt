use Rattle.raft_inspect.proofs.Common.{◌++◌, codes, string_bytes, on_ok_weaker, Append, Rewrite, empty_line, opening_text, verdict_word}
use Rattle.raft_inspect.proofs.TextLemmas.{four_added}
use Rattle.raft_inspect.proofs.check.append_ending.Goals as goal

pub returns : goal.returns
returns c =
    let found = c.args.found.now in
    on_ok_weaker c.append_verdict.result
    (λ ended. four_added (string_bytes c.args.text.now) (empty_line Append found.append_files) (empty_line Rewrite found.rewrite_files) (opening_text found.opening) (verdict_word c.args.found.now ++ codes "\n")
    (string_bytes c.append_no_files_if_empty.new.text) (string_bytes c.append_no_files_if_empty-2.new.text) (string_bytes c.append_opening.new.text) (string_bytes c.append_verdict.new.text) c.in_ok-append_no_files_if_empty.ensures c.in_ok-append_no_files_if_empty-2.ensures
    c.in_ok-append_opening.ensures ended)
    c.append_verdict.ensures
