use Rattle.raft_opening.proofs.Common.{◌∙◌, refl, Append, Rewrite}
use Rattle.raft_opening.proofs.SizedReadLemmas.{both_read, both_ready, few_left}
use Rattle.raft_opening.proofs.piece_reading.read_once.Goals as goal

pub returns : goal.returns
returns g c =
    let r = c.in_ok-read.ensures.rewritten in
    let a = c.in_ok-read.ensures.appended in
    let append_left = c.as_slice-append_left.ensures.value ∙ a.sized.left in
    let rewrite_left = c.as_slice-rewrite_left.ensures.value ∙ r.sized.left in
    let append_few = few_left c.args.mode Append c.args.version a.files _ a.sized.missing _ append_left c.in_ok-check_few_bytes.ensures.ok in
    let rewrite_few = few_left c.args.mode Rewrite c.args.version r.files _ r.sized.missing _ rewrite_left c.in_ok-check_few_bytes-2.ensures.ok in
    let are = both_ready c.args.mode c.args.version a.files r.files _ _ a.sized append_few r.sized rewrite_few in
    let read = both_read c.files_hold_few_records.ensures c.args.version _ _ _ _ a.standing r.standing append_few rewrite_few _ refl (λ h is. (c.stand.ensures h is).0 c.if-not-stand.false) in (
      a.files,
      r.files,
      record {
        given = record { of_append = a.files_read; of_rewrite = r.files_read };
        accepted = (a.sized.missing.accepted, r.sized.missing.accepted);
        read = c.in_ok-reading.ensures.ok c.args.mode c.args.version a.files r.files are read;
        damaged = a.damaged;
      },
    )
