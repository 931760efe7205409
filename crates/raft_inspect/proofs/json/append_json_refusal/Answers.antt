use Rattle.raft_inspect.proofs.Common.{◌≡◌, ◌++◌, ◌∙◌, ℕ, List, ap, codes, rules, string_bytes, sym, on_ok_weaker}
use Rattle.raft_inspect.proofs.JsonLemmas.{refused_is}
use Rattle.raft_inspect.proofs.json.append_json_refusal.Goals as goal

pub returns : goal.returns
returns c =
    let old = string_bytes c.args.text.now in
    on_ok_weaker c.writeln.result
    (λ (ended : string_bytes c.writeln.new.self ≡ old ++ (codes "{\"opening\":\"refused\",\"why\":" ++ (string_bytes c.in_ok-why.why ++ codes "}\n"))).
    ended
    ∙ ap (λ (why : List ℕ). old ++ (codes "{\"opening\":\"refused\",\"why\":" ++ (why ++ codes "}\n"))) c.in_ok-why.ensures
    ∙ ap (λ (t : List ℕ). old ++ t) (sym (refused_is c.args.error.now)))
    (search rules)
