use Rattle.raft_report.proofs.Common.{rules, string_bytes, on_ok_weaker, comma_if}
use Rattle.raft_report.proofs.LineLemmas.{key_value_added}
use Rattle.raft_report.proofs.json_tables.append_pair.Goals as goal

pub returns : goal.returns
returns c =
    on_ok_weaker c.write.result
    (λ ended. key_value_added (c.args.key.now, c.args.value.now) (comma_if c.args.later) (string_bytes c.in_ok-key.key) (string_bytes c.in_ok-value.value) (string_bytes c.args.text.now) (string_bytes c.append_comma_if.new.text) (string_bytes c.write.new.self)
    c.in_ok-key.ensures c.in_ok-value.ensures c.in_ok-append_comma_if.ensures ended)
    (search rules)
