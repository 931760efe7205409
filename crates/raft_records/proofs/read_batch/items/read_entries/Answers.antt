use Rattle.raft_records.proofs.Common.{arith, at_exit}
use Rattle.raft_records.proofs.EntryLemmas.{no_count, no_run, no_first_index, no_tails, entries_fault}
use Rattle.raft_records.proofs.read_batch.items.read_entries.Goals as goal

pub returns-in_err-count-clause-refused : goal.returns-in_err-count-clause-refused
returns-in_err-count-clause-refused g c = at_exit c.from_residual.result c.from_residual.ensures.1 (λ _ _ ne. no_count c.args.start c.args.bytes.now c.in_err-count.ensures.refused)

pub returns-in_err-first-clause-refused : goal.returns-in_err-first-clause-refused
returns-in_err-first-clause-refused g c =
    at_exit c.from_residual-in_err-first.result c.from_residual-in_err-first.ensures.1 (λ _ _ ne. no_run c.args.start c.in_ok-count.count c.args.bytes.now c.in_ok-count.behind.now c.in_ok-count.ensures.ok
    (no_first_index c.args.start c.in_ok-count.count c.in_ok-count.behind.now (omega arith) c.in_err-first.ensures.refused))

pub returns-in_err-end-clause-refused : goal.returns-in_err-end-clause-refused
returns-in_err-end-clause-refused g c =
    at_exit c.from_residual-in_err-end.result c.from_residual-in_err-end.ensures.1 (λ _ is. rw is (λ ne. no_run c.args.start c.in_ok-count.count c.args.bytes.now c.in_ok-count.behind.now c.in_ok-count.ensures.ok
    (no_tails c.args.start c.in_ok-count.count c.in_ok-first.first c.in_ok-count.behind.now c.in_ok-first.tails.now
    (omega arith) c.in_ok-first.ensures.ok (c.in_err-end.ensures.refused ne))))

pub returns-in_err-end-clause-fault : goal.returns-in_err-end-clause-fault
returns-in_err-end-clause-fault g c =
    at_exit c.from_residual-in_err-end.result c.from_residual-in_err-end.ensures.1 (λ _ is. rw is (entries_fault c.args.start c.in_ok-count.count c.in_ok-first.first c.args.bytes.now c.in_ok-count.behind.now
    c.in_ok-first.tails.now _ (omega arith) c.in_ok-count.ensures.ok c.in_ok-first.ensures.ok c.in_err-end.ensures.fault))
