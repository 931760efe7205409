use Rattle.raft_survey.proofs.Common.{◌-◌, string_bytes, on_ok_weaker, place_words, unsearched_words}
use Rattle.raft_survey.proofs.TextLemmas.{two_added}
use Rattle.raft_survey.proofs.report.append_unsearched_line.Goals as goal

pub returns : goal.returns
returns c =
    let scan = c.args.scan.now in
    on_ok_weaker c.append_unsearched_words.result
    (λ ended. two_added (string_bytes c.args.text.now) (place_words c.args.queue scan.seq (scan.len - scan.unseen)) (unsearched_words scan.unseen) (string_bytes c.append_file_and_offset.new.text) (string_bytes c.append_unsearched_words.new.text)
    (rw c.saturating_sub.ensures at c.in_ok-append_file_and_offset.ensures) ended)
    c.append_unsearched_words.ensures
