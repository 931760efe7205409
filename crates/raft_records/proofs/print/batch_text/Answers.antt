use Rattle.raft_records.proofs.Common.{◌∙◌, at_exit}
use Rattle.raft_records.proofs.PrintLemmas.{decoded_text}
use Rattle.raft_records.proofs.print.batch_text.Goals as goal

pub returns-in_err-batch-clause-refused : goal.returns-in_err-batch-clause-refused
returns-in_err-batch-clause-refused c =
    at_exit c.from_residual.result c.from_residual.ensures.1 (λ _ is. rw is c.in_err-batch.ensures.refused)

pub returns-clause-ok : goal.returns-clause-ok
returns-clause-ok c =
    let lines = rw (c.new-text.ensures.bytes, c.as_slice.ensures.value) at c.in_ok-append_lines.ensures in
    decoded_text c.args.bytes.now c.decode.new.buf.now _ _ _ _ _ c.into_items-items.result.items c.in_ok-batch.batch _ c.in_ok-batch.ensures.ok
    c.into_items-items.ensures (c.len.ensures ∙ c.into_items-items.result.ok.0) lines c.in_ok-append_counts.ensures
