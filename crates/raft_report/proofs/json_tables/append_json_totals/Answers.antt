use Rattle.raft_report.proofs.Common.{◌++◌, ◌∙◌, ℕ, List, ap, map, rules, string_bytes, on_ok_weaker, count, list_of, compact_text}
use Rattle.raft_report.proofs.LineLemmas.{totals_added}
use Rattle.raft_report.proofs.json_tables.append_json_totals.Goals as goal

pub returns : goal.returns
returns c =
    on_ok_weaker c.writeln.result
    (λ ended. totals_added c.args.accessor.now (string_bytes c.args.text.now) (string_bytes c.push_str.new.self) (string_bytes c.append_numbers.new.text) (string_bytes c.writeln.new.self) c.in_ok-push_str.ensures.bytes
    (c.in_ok-append_numbers.ensures ∙ ap (λ (ns : List ℕ). string_bytes c.push_str.new.self ++ compact_text (list_of (map count ns))) c.cleaned_regions.ensures) ended)
    (search rules)
