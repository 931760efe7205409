use Rattle.raft_survey.proofs.Common.{◌++◌, ◌∙◌, ℕ, List, ap, append_assoc, codes, decimal, string_bytes, on_ok_weaker, loss_words, entries_words}
use Rattle.raft_survey.proofs.report.append_lost_entries.Goals as goal

pub returns : goal.returns
returns c =
    let old = string_bytes c.args.text.now in
    let mid = string_bytes c.append_entry_indexes.new.text in
    let first = entries_words c.args.first c.args.last in
    let rest = codes " of region " ++ (decimal c.args.region ++ (codes " can't be read: " ++ loss_words c.args.loss)) in
    on_ok_weaker c.append_region_and_reason.result
    (λ ended. ended
    ∙ ap (λ (why : List ℕ). mid ++ (codes " of region " ++ (decimal c.args.region ++ (codes " can't be read: " ++ why)))) c.words-why.ensures
    ∙ ap (λ (t : List ℕ). t ++ rest) c.in_ok-append_entry_indexes.ensures
    ∙ append_assoc old first rest)
    c.append_region_and_reason.ensures
