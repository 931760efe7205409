use Rattle.raft_inspect.proofs.Common.{◌≡◌, ◌++◌, ◌∙◌, ℕ, List, ap, codes, rules, string_bytes, on_ok_weaker}
use Rattle.raft_inspect.proofs.report.append_no_cut_line.Goals as goal

pub returns : goal.returns
returns c =
    let old = string_bytes c.args.text.now in
    on_ok_weaker c.writeln.result
    (λ (ended : string_bytes c.writeln.new.self ≡ old ++ (codes "opening: would open, and cut nothing of the " ++ (c.queue_name-name.result.now ++ codes " queue\n"))).
    ended ∙ ap (λ (name : List ℕ). old ++ (codes "opening: would open, and cut nothing of the " ++ (name ++ codes " queue\n"))) c.queue_name-name.ensures)
    (search rules)
