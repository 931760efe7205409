use Rattle.raft_survey.proofs.Common.{◌++◌, ◌∙◌, ℕ, List, Option, ap, flat_map, string_bytes, on_ok_weaker, four_added, missing_between, Damage, damage_line, file_line, missing_line, unseen_line}
use Rattle.raft_survey.proofs.report.append_scan.Goals as goal

pub returns : goal.returns
returns c =
    let scan = c.args.scan.now in
    let line = damage_line c.args.queue scan.seq scan.len in
    on_ok_weaker c.append_unsearched_if_any.result
    (λ ended. four_added (string_bytes c.args.text.now) (missing_line c.args.queue (missing_between c.args.last scan.seq)) (file_line c.args.queue scan) (flat_map line scan.damages.items) (unseen_line c.args.queue scan)
    (string_bytes c.append_missing_if_any.new.text) (string_bytes c.append_file_line.new.text) (string_bytes c.append_damage_lines.new.text) (string_bytes c.append_unsearched_if_any.new.text)
    (c.in_ok-append_missing_if_any.ensures ∙ ap (λ (numbers : Option (ℕ × ℕ)). string_bytes c.args.text.now ++ missing_line c.args.queue numbers) c.missing_between.ensures)
    c.in_ok-append_file_line.ensures
    (c.in_ok-append_damage_lines.ensures ∙ ap (λ (ds : List Damage). string_bytes c.append_file_line.new.text ++ flat_map line ds) c.as_slice.ensures.value) ended)
    c.append_unsearched_if_any.ensures
