use Rattle.raft_report.proofs.Common.{◌++◌, ◌∙◌, List, ap, map, rules, string_bytes, on_ok_weaker, Damage, list_of, damage_data, compact_text}
use Rattle.raft_report.proofs.LineLemmas.{scan_added}
use Rattle.raft_report.proofs.json_files.append_json_file.Goals as goal

pub returns : goal.returns
returns c =
    on_ok_weaker c.writeln.result
    (λ ended. scan_added c.args.queue c.args.scan.now (string_bytes c.args.text.now) (string_bytes c.write.new.self) (string_bytes c.append_damage_list.new.text) (string_bytes c.writeln.new.self) c.in_ok-write.ensures.bytes
    (c.in_ok-append_damage_list.ensures ∙ ap (λ (ds : List Damage). string_bytes c.write.new.self ++ compact_text (list_of (map damage_data ds))) c.as_slice.ensures.value) ended)
    (search rules)
