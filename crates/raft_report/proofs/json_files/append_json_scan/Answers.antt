use Rattle.raft_report.proofs.Common.{◌++◌, ◌∙◌, ℕ, List, Option, ap, append_assoc, string_bytes, on_ok_weaker, missing_between, json_line, missing_json, scan_data}
use Rattle.raft_report.proofs.json_files.append_json_scan.Goals as goal

pub returns : goal.returns
returns c =
    let old = string_bytes c.args.text.now in
    let line = json_line (scan_data c.args.queue c.args.scan.now) in
    on_ok_weaker c.append_json_file.result
    (λ ended. ended
    ∙ ap (λ (t : List ℕ). t ++ line) (c.in_ok-append_json_missing_if_any.ensures ∙ ap (λ (numbers : Option (ℕ × ℕ)). old ++ missing_json c.args.queue numbers) c.missing_between.ensures)
    ∙ append_assoc old (missing_json c.args.queue (missing_between c.args.last c.args.scan.now.seq)) line)
    c.append_json_file.ensures
