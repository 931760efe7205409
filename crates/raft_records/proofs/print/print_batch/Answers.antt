use Rattle.raft_records.proofs.Common.{inr, string_bytes, subst, at_exit, signature_of, IsNoItemBatch, IsPrintFault, IsTextOf, AppendsFront}
use Rattle.raft_records.proofs.PrintLemmas.{of_input, on_both}
use Rattle.raft_records.proofs.print.print_batch.Goals as goal

pub returns-in_err-text-clause-refused : goal.returns-in_err-text-clause-refused
returns-in_err-text-clause-refused g c =
    at_exit c.from_residual-in_err-text.result c.from_residual-in_err-text.ensures.1 (λ _ is. rw is (λ io ne. of_input (λ input. IsNoItemBatch input (signature_of c.args.context.now)) (g.R.Read.remaining c.args.reader.now) _ _ _
    c.in_ok-read_to_end.ensures.bytes c.new-input.ensures.items c.as_slice.ensures.value (c.in_err-text.ensures.refused ne)))

pub returns-in_err-text-clause-fault : goal.returns-in_err-text-clause-fault
returns-in_err-text-clause-fault g c =
    at_exit c.from_residual-in_err-text.result c.from_residual-in_err-text.ensures.1 (λ _ is. rw is (λ io. of_input (λ input. IsPrintFault input (signature_of c.args.context.now) c.in_err-text.field-0.0)
    (g.R.Read.remaining c.args.reader.now) _ _ _ c.in_ok-read_to_end.ensures.bytes c.new-input.ensures.items c.as_slice.ensures.value
    c.in_err-text.ensures.fault))

pub returns-clause-silent : goal.returns-clause-silent
returns-clause-silent g c =
    on_both c.write_whole.result c.write_whole.ensures.fault c.write_whole.ensures.err (λ e io front. inr record {
      io = io;
      all_read = c.in_ok-read_to_end.ensures.end;
      text = string_bytes c.in_ok-text.text;
      of_input = of_input (λ input. IsTextOf input (signature_of c.args.context.now) (string_bytes c.in_ok-text.text))
          (g.R.Read.remaining c.args.reader.now) _ _ _ c.in_ok-read_to_end.ensures.bytes c.new-input.ensures.items c.as_slice.ensures.value
          c.in_ok-text.ensures.ok;
      cut_short = subst (AppendsFront (g.W.Write.contents c.args.writer.now) _) c.as_bytes.ensures.value front;
    })
