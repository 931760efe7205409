use Rattle.raft_records.proofs.Common.{at_exit}
use Rattle.raft_records.proofs.ContentLemmas.{no_entries}
use Rattle.raft_records.proofs.read_batch.items.read_content.Goals as goal

pub returns-in_err-first-in-1-clause-refused : goal.returns-in_err-first-in-1-clause-refused
returns-in_err-first-in-1-clause-refused g c =
    at_exit c.from_residual.result c.from_residual.ensures.1 (λ _ is. rw is (λ ne. no_entries c.args.start c.args.bytes.now c.in-Some.behind.now (rw c.in-1.is at c.in-Some.ensures.cases.0) (c.in_err-first-in-1.ensures.refused ne)))
