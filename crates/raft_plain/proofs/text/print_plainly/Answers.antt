use Rattle.raft_plain.proofs.Common.{subst, IfErr-weaker, string_bytes, on_both, AppendsFront, IsIoError}
use Rattle.raft_plain.proofs.text.print_plainly.Goals as goal

pub returns-clause-silent : goal.returns-clause-silent
returns-clause-silent g c = IfErr-weaker c.write_whole.result IsIoError _ (λ e io none. absurd (none io)) c.write_whole.ensures.fault

pub returns-clause-fault : goal.returns-clause-fault
returns-clause-fault g c = IfErr-weaker c.write_whole.result IsIoError _ (λ e io none. absurd (none io)) c.write_whole.ensures.fault

pub returns-clause-cut_short : goal.returns-clause-cut_short
returns-clause-cut_short g c =
    on_both c.write_whole.result c.write_whole.ensures.fault c.write_whole.ensures.err (λ e io front is_io. record {
      text = string_bytes c.in_ok-text.text;
      of_tables = c.in_ok-text.ensures;
      written = subst (AppendsFront (g.W.Write.contents c.args.writer.now) _) c.as_bytes.ensures.value front;
    })
