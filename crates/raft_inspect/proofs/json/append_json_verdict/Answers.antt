use Rattle.raft_inspect.proofs.Common.{◌≡◌, ◌++◌, ◌∙◌, ◌&&◌, ℕ, List, ap, codes, rules, string_bytes, sym, on_ok_weaker, nat_eq}
use Rattle.raft_inspect.proofs.JsonLemmas.{verdict_is}
use Rattle.raft_inspect.proofs.json.append_json_verdict.Goals as goal

pub returns : goal.returns
returns c =
    let old = string_bytes c.args.text.now in
    let found = c.args.found.now in
    on_ok_weaker c.writeln.result
    (λ (ended : string_bytes c.writeln.new.self ≡ old ++ (codes "{\"verdict\":\"" ++ (c.verdict-word.result.now ++ codes "\"}\n"))).
    ended
    ∙ ap (λ (word : List ℕ). old ++ (codes "{\"verdict\":\"" ++ (word ++ codes "\"}\n"))) c.verdict-word.ensures
    ∙ ap (λ (t : List ℕ). old ++ t) (sym (verdict_is (nat_eq found.append_files 0 && nat_eq found.rewrite_files 0) found.is_sound)))
    (search rules)
