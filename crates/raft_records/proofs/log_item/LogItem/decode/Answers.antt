use Rattle.raft_records.proofs.Common.{◌≡◌, ◌∙◌, inr, content_of, at_exit}
use Rattle.raft_records.proofs.ContentLemmas.{item_read, no_region, no_content}
use Rattle.raft_records.proofs.ReadBatchLemmas.{content_is_made, no_room_for_change}
use Rattle.raft_records.proofs.log_item.LogItem.decode.Goals as goal

pub returns-in_err-raft_group_id-clause-refused : goal.returns-in_err-raft_group_id-clause-refused
returns-in_err-raft_group_id-clause-refused c =
    at_exit c.from_residual.result c.from_residual.ensures.1 (λ _ _ ne. no_region c.args.entries_size.now c.args.buf.now.now c.in_err-raft_group_id.ensures.refused)

pub returns-in_err-read-clause-refused : goal.returns-in_err-read-clause-refused
returns-in_err-read-clause-refused c =
    at_exit c.from_residual-in_err-read.result c.from_residual-in_err-read.ensures.1 (λ _ is. rw is (λ ne. no_content c.args.entries_size.now c.in_ok-raft_group_id.raft_group_id c.args.buf.now.now c.in_ok-raft_group_id.behind.now
    c.in_ok-raft_group_id.ensures.ok (c.in_err-read.ensures.refused ne)))

pub returns-in_err-content-clause-fault : goal.returns-in_err-content-clause-fault
returns-in_err-content-clause-fault c =
    let region = c.in_ok-raft_group_id.ensures.ok in
    at_exit c.from_residual-in_err-content.result c.from_residual-in_err-content.ensures.1 (λ _ is. rw is (inr (record {
      first = region.front;
      rest = c.in_ok-raft_group_id.behind.now;
      value = c.in_ok-raft_group_id.raft_group_id;
      first_spells = region.spells;
      split = region.split;
      fault = no_room_for_change c.in_err-content.field-0.0 c.in_err-content.ensures.change c.in_ok-read.ensures.ok (rw c.in_err-content.ensures.memory tt);
    })))

pub returns-clause-ok : goal.returns-clause-ok
returns-clause-ok c =
    let r = c.in_ok-read.ensures.ok in
    let made : content_of c.in_ok-content.content ≡ r.read = c.in_ok-content.ensures.ok ∙ content_is_made r c.new-entries.ensures.items in
    rw made (item_read c.args.entries_size.now c.in_ok-raft_group_id.raft_group_id c.args.buf.now.now c.in_ok-raft_group_id.behind.now c.in_ok-read.rest.now r.read c.in_ok-raft_group_id.ensures.ok r.reads)

pub returns-clause-size : goal.returns-clause-size
returns-clause-size c =
    let r = c.in_ok-read.ensures.ok in
    let made : content_of c.in_ok-content.content ≡ r.read = c.in_ok-content.ensures.ok ∙ content_is_made r c.new-entries.ensures.items in
    rw made r.ends
