use Rattle.raft_report.proofs.Common.{◌∙◌, ℕ, List, ap, rules, string_bytes, on_ok_weaker, string, compact_text}
use Rattle.raft_report.proofs.LineLemmas.{lost_entry_added}
use Rattle.raft_report.proofs.json_items.append_lost_entry.Goals as goal

pub returns : goal.returns
returns c =
    on_ok_weaker c.write.result
    (λ ended. lost_entry_added c.args.index c.args.loss (string_bytes c.in_ok-why.why) (string_bytes c.args.text.now) (string_bytes c.write.new.self)
    (c.in_ok-why.ensures ∙ ap (λ (w : List ℕ). compact_text (string w)) c.words.ensures) ended)
    (search rules)
