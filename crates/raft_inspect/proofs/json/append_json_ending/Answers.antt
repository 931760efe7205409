use Rattle.raft_inspect.proofs.Common.{string_bytes, on_ok_weaker, Append, Rewrite, json_line, verdict_word, empty_json, opening_json, verdict_data}
use Rattle.raft_inspect.proofs.TextLemmas.{four_added}
use Rattle.raft_inspect.proofs.json.append_json_ending.Goals as goal

pub returns : goal.returns
returns c =
    let found = c.args.found.now in
    on_ok_weaker c.append_json_verdict.result
    (λ ended. four_added (string_bytes c.args.text.now) (empty_json Append found.append_files) (empty_json Rewrite found.rewrite_files) (opening_json found.opening) (json_line (verdict_data (verdict_word c.args.found.now)))
    (string_bytes c.append_json_no_files_if_empty.new.text) (string_bytes c.append_json_no_files_if_empty-2.new.text) (string_bytes c.append_json_opening.new.text) (string_bytes c.append_json_verdict.new.text) c.in_ok-append_json_no_files_if_empty.ensures c.in_ok-append_json_no_files_if_empty-2.ensures
    c.in_ok-append_json_opening.ensures ended)
    c.append_json_verdict.ensures
