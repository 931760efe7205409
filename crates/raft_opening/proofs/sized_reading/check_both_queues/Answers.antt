use Rattle.raft_opening.proofs.Common.{inl, inr, err_from_is_err_and}
use Rattle.raft_opening.proofs.sized_reading.check_both_queues.Goals as goal

pub returns-in_err-append-clause-fault : goal.returns-in_err-append-clause-fault
returns-in_err-append-clause-fault g c = λ append_files rewrite_files sized.
    let p = err_from_is_err_and c.from_residual.result c.from_residual.ensures.1 in
    rw (p.1, p.2)
    (λ other. elim (c.in_err-append.ensures.fault append_files sized.of_append other) [
      | inl found ↦ inl (inl found)
      | inr unread ↦ inr unread
    ])

pub returns-in_err-rewrite-clause-fault : goal.returns-in_err-rewrite-clause-fault
returns-in_err-rewrite-clause-fault g c = λ append_files rewrite_files sized.
    let p = err_from_is_err_and c.from_residual-in_err-rewrite.result c.from_residual-in_err-rewrite.ensures.1 in
    rw (p.1, p.2)
    (λ other. elim (c.in_err-rewrite.ensures.fault rewrite_files sized.of_rewrite other) [
      | inl found ↦ inl (inr found)
      | inr unread ↦ inr unread
    ])

pub returns-in_err-append-2-clause-fault : goal.returns-in_err-append-2-clause-fault
returns-in_err-append-2-clause-fault g c = λ append_files rewrite_files sized.
    let why = rw c.in_err-append-2.was at (c.join-append.ensures.first.1 append_files sized.of_append) in
    let p = err_from_is_err_and c.from_residual-in_err-append-2.result c.from_residual-in_err-append-2.ensures.1 in
    rw (p.1, p.2)
    (λ other. elim (why other) [
      | inl found ↦ inl (inl found)
      | inr unread ↦ inr unread
    ])

pub returns-in_err-rewrite-2-clause-fault : goal.returns-in_err-rewrite-2-clause-fault
returns-in_err-rewrite-2-clause-fault g c = λ append_files rewrite_files sized.
    let why = rw c.in_err-rewrite-2.was at (c.join-append.ensures.second.1 rewrite_files sized.of_rewrite) in
    let p = err_from_is_err_and c.from_residual-in_err-rewrite-2.result c.from_residual-in_err-rewrite-2.ensures.1 in
    rw (p.1, p.2)
    (λ other. elim (why other) [
      | inl found ↦ inl (inr found)
      | inr unread ↦ inr unread
    ])
