use Rattle.raft_records.proofs.Common.{ℕ, ◌+◌, ◌++◌, List, map, take, drop, ap, sym, ◌∙◌, subst, inr, length-take-le, at_exit, HasNoFront, signature_of, part_of, IsNextFault, IsItemBatch, IsItemBatchFault, placed_item, IsReadable}
use Rattle.raft_records.proofs.Common.{entries_place, uncompressed}
use Rattle.raft_records.proofs.FramedAt.{laid_at}
use Rattle.raft_records.proofs.PartLemmas.{no_header, cut_short, no_item_batch, batch_stands, batch_split}
use Rattle.raft_records.proofs.FrameLemmas.{same_compression}
use Rattle.raft_records.proofs.read_batch.ReadBatch.read_next.Goals as goal

pub returns-in_err-items_at-clause-refused : goal.returns-in_err-items_at-clause-refused
returns-in_err-items_at-clause-refused c =
    at_exit c.from_residual.result c.from_residual.ensures.1 (λ _ _ ne. subst (HasNoFront (λ bytes. IsReadable bytes (signature_of c.args.file.now))) c.split_at.ensures.back (no_header _ (signature_of
    c.args.file.now) c.in_err-items_at.ensures.refused))

pub returns-then-len-rest-clause-refused : goal.returns-then-len-rest-clause-refused
returns-then-len-rest-clause-refused c =
    λ ne. subst (HasNoFront (λ bytes. IsReadable bytes (signature_of c.args.file.now))) c.split_at.ensures.back
    (cut_short c.split_at.result.1.now _ (signature_of c.args.file.now) c.in_ok-items_at.items_at c.in_ok-items_at.len
    c.in_ok-items_at.field-0-0-1 c.in_ok-items_at.ensures.ok c.if-len-rest.true)

pub returns-in_err-read_item_batch-clause-refused :
    goal.returns-in_err-read_item_batch-clause-refused
returns-in_err-read_item_batch-clause-refused c =
    let item_batch = c.split_at-3.ensures.back ∙ ap (drop c.in_ok-items_at.items_at) c.split_at-2.ensures.front in
    at_exit c.from_residual-in_err-read_item_batch.result c.from_residual-in_err-read_item_batch.ensures.1 (λ _ is. rw is (λ ne. subst (HasNoFront (λ bytes. IsReadable bytes (signature_of c.args.file.now))) c.split_at.ensures.back
    (no_item_batch c.split_at.result.1.now _ (signature_of c.args.file.now) c.in_ok-items_at.items_at c.in_ok-items_at.len
    c.in_ok-items_at.field-0-0-1 c.in_ok-items_at.ensures.ok
    (λ items more b. c.in_err-read_item_batch.ensures.refused ne items more
    (subst (λ (xs : List ℕ). IsItemBatch xs (signature_of c.args.file.now) items more) (sym item_batch) b)))))

pub returns-in_err-read_item_batch-clause-fault : goal.returns-in_err-read_item_batch-clause-fault
returns-in_err-read_item_batch-clause-fault c =
    let item_batch = c.split_at-3.ensures.back ∙ ap (drop c.in_ok-items_at.items_at) c.split_at-2.ensures.front in
    let fault = subst (λ (xs : List ℕ). IsItemBatchFault (signature_of c.args.file.now) xs c.in_err-read_item_batch.field-0.0) item_batch c.in_err-read_item_batch.ensures.fault in
    at_exit c.from_residual-in_err-read_item_batch.result c.from_residual-in_err-read_item_batch.ensures.1 (λ _ is. rw is (subst (λ (xs : List ℕ). IsNextFault (signature_of c.args.file.now) xs
    c.in_err-read_item_batch.field-0.0) c.split_at.ensures.back (inr (inr (record {
      offset = c.in_ok-items_at.items_at;
      len = c.in_ok-items_at.len;
      header = record { compression = c.in_ok-items_at.field-0-0-1; rest = c.in_ok-items_at.field-0-1.now; header = c.in_ok-items_at.ensures.ok };
      whole = c.if-len-rest.false;
      fault = fault;
    })))))

pub returns-clause-ok : goal.returns-clause-ok
returns-clause-ok c =
    let item_batch = c.split_at-3.ensures.back ∙ ap (drop c.in_ok-items_at.items_at) c.split_at-2.ensures.front in
    let part = part_of c.args.file.now c.args.offset c.args.bytes.now in
    let read = c.in_ok-read_item_batch.ensures.ok in
    let free = c.in_ok-read_item_batch.field-0.now in
    let items = subst (λ (xs : List ℕ). IsItemBatch xs (signature_of c.args.file.now) read.read free) item_batch read.item_batch in
    let frame = batch_stands c.split_at.result.1.now c.in_ok-items_at.field-0-1.now (signature_of c.args.file.now) c.in_ok-items_at.items_at
    c.in_ok-items_at.len c.in_ok-items_at.field-0-0-1 read.read free c.in_ok-items_at.ensures.ok c.if-len-rest.false items in
    laid_at (record {
      bytes = take c.in_ok-items_at.len c.split_at.result.1.now;
      read = read.read;
      offset = c.in_ok-items_at.items_at;
      frame = frame.0;
      stands = batch_split c.args.bytes.now c.args.at c.in_ok-items_at.len ∙ ap (λ (xs : List ℕ). take c.in_ok-items_at.len xs ++ drop (c.args.at + c.in_ok-items_at.len) c.args.bytes.now) (sym c.split_at.ensures.back);
      ends = ap (λ n. c.args.at + n) (sym (length-take-le c.in_ok-items_at.len c.split_at.result.1.now c.if-len-rest.false));
      places = read.places ∙ ap (λ compression. map (placed_item (entries_place part c.args.at c.in_ok-items_at.items_at) compression) read.read) (sym (same_compression frame.0.compression uncompressed));
    })
