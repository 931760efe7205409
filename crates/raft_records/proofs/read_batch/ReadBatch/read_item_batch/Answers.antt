use Rattle.raft_records.proofs.Common.{subst, sym, at_exit, signature_of, FitTogether}
use Rattle.raft_records.proofs.BatchLemmas.{no_items_count, no_items, counted_read, batch_read}
use Rattle.raft_records.proofs.ReadBatchLemmas.{items_fit, shown_in_file}
use Rattle.raft_records.proofs.read_batch.ReadBatch.read_item_batch.Goals as goal

pub returns-in_err-count-clause-refused : goal.returns-in_err-count-clause-refused
returns-in_err-count-clause-refused c =
    at_exit c.from_residual-in_err-count.result c.from_residual-in_err-count.ensures.1 (λ _ _ ne. no_items_count (signature_of c.args.context.now) c.args.bytes.now c.in_ok-content.content.now
    (rw c.get_signature.ensures at c.in_ok-content.ensures.ok) c.in_err-count.ensures.refused)

pub returns-in-Err-clause-refused : goal.returns-in-Err-clause-refused
returns-in-Err-clause-refused c =
    λ ne. no_items (signature_of c.args.context.now) c.in_ok-count.count c.args.bytes.now c.in_ok-content.content.now c.in_ok-count.behind.now
    (rw c.get_signature.ensures at c.in_ok-content.ensures.ok) c.in_ok-count.ensures.ok (c.in-Err.ensures.refused ne)

pub invariant_of-self-in-Ok : goal.invariant_of-self-in-Ok
invariant_of-self-in-Ok c =
    let read = c.in-Ok.ensures.ok in
    record {
      whole = read.2.taken;
      fit = subst (FitTogether 0) (sym (read.2.shown c.args.place)) (items_fit c.args.place 0 read.1.front read.0 read.1.spells.spelled);
    }

pub returns-in-Ok-clause-ok : goal.returns-in-Ok-clause-ok
returns-in-Ok-clause-ok c =
    let read = c.in-Ok.ensures.ok in
    let rest = c.in-Ok.rest.now in
    let counted = counted_read c.in_ok-count.count c.in_ok-content.content.now c.in_ok-count.behind.now rest read.0 c.in_ok-count.ensures.ok read.1 in
    record {
      read = read.0;
      item_batch = batch_read (signature_of c.args.context.now) c.args.bytes.now c.in_ok-content.content.now rest read.0 (rw c.get_signature.ensures at c.in_ok-content.ensures.ok) counted;
      places = read.2.shown c.args.place;
    }

pub returns-in-Ok-clause-in_file : goal.returns-in-Ok-clause-in_file
returns-in-Ok-clause-in_file c =
    let read = c.in-Ok.ensures.ok in
    shown_in_file c.args.place 0 _ _ (subst (FitTogether 0) (sym (read.2.shown c.args.place)) (items_fit c.args.place 0 read.1.front read.0 read.1.spells.spelled))
