use Rattle.raft_survey.proofs.Common.{string_bytes, on_ok_weaker, batches_words, end_words, length_words}
use Rattle.raft_survey.proofs.TextLemmas.{three_added}
use Rattle.raft_survey.proofs.report.append_file_line.Goals as goal

pub returns : goal.returns
returns c =
    let scan = c.args.scan.now in
    on_ok_weaker c.append_read_end.result
    (λ ended. three_added (string_bytes c.args.text.now) (length_words c.args.queue scan.seq scan.len) (batches_words scan.batches) (end_words scan.read) (string_bytes c.append_file_length.new.text) (string_bytes c.append_batch_count.new.text)
    (string_bytes c.append_read_end.new.text) c.in_ok-append_file_length.ensures c.in_ok-append_batch_count.ensures ended)
    c.append_read_end.ensures
