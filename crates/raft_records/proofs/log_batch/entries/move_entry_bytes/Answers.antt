use Rattle.raft_records.proofs.Common.{◌≡◌, ◌<◌, ◌≤◌, ◌∙◌, ◌++◌, List, ℕ, length, drop, ap, arith}
use Rattle.raft_records.proofs.StageLemmas.{appended, taken_over}
use Rattle.raft_records.proofs.log_batch.entries.move_entry_bytes.Goals as goal
use Rattle.raft_records.proofs.log_batch.entries.move_entry_bytes.Goals.{then-len-le-LOG_BATCH_HEADER_LEN, else-len-le-LOG_BATCH_HEADER_LEN}

pub returns-clause-joined : goal.returns-clause-joined
returns-clause-joined c =
    elim c.if-len-le-LOG_BATCH_HEADER_LEN.branch [
      | then-len-le-LOG_BATCH_HEADER_LEN w ↦
          let short : length c.args.buf.now.items ≤ 16 = omega (arith, w.if-len-le-LOG_BATCH_HEADER_LEN.true, c.len.ensures) in
          let items : c.if-len-le-LOG_BATCH_HEADER_LEN.buf.items ≡ c.args.others.now.items = ap (λ v. v.items) (w.buf-is ∙ w.swap.ensures.x_after) in
          taken_over c.args.buf.now.items c.if-len-le-LOG_BATCH_HEADER_LEN.buf.items c.args.others.now.items short items
      | else-len-le-LOG_BATCH_HEADER_LEN w ↦
          let long : 16 < length c.args.buf.now.items = omega (arith, w.if-len-le-LOG_BATCH_HEADER_LEN.false, c.len.ensures) in
          let items : c.if-len-le-LOG_BATCH_HEADER_LEN.buf.items ≡ c.args.buf.now.items ++ drop 16 c.args.others.now.items = ap (λ v. v.items)
          w.buf-is ∙ w.append_entry_bytes.ensures ∙ ap (λ (t : List ℕ). c.args.buf.now.items ++ drop 16 t) w.as_slice.ensures.value in
          appended c.args.buf.now.items c.if-len-le-LOG_BATCH_HEADER_LEN.buf.items c.args.others.now.items long items
    ]
