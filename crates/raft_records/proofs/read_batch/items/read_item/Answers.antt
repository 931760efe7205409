use Rattle.raft_records.proofs.Common.{at_exit}
use Rattle.raft_records.proofs.ContentLemmas.{no_region, no_content}
use Rattle.raft_records.proofs.read_batch.items.read_item.Goals as goal

pub returns-in_err-region-clause-refused : goal.returns-in_err-region-clause-refused
returns-in_err-region-clause-refused c = at_exit c.from_residual.result c.from_residual.ensures.1 (λ _ _ ne. no_region c.args.start c.args.bytes.now c.in_err-region.ensures.refused)

pub returns-in_err-content-clause-refused : goal.returns-in_err-content-clause-refused
returns-in_err-content-clause-refused c =
    at_exit c.from_residual-in_err-content.result c.from_residual-in_err-content.ensures.1 (λ _ is. rw is (λ ne. no_content c.args.start c.in_ok-region.region c.args.bytes.now c.in_ok-region.behind.now
    c.in_ok-region.ensures.ok (c.in_err-content.ensures.refused ne)))
