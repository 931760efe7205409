use Rattle.raft_opening.proofs.Common.{inl, inr, IfErr-weaker, err_from_is_err_and, on_any}
use Rattle.raft_opening.proofs.RestLemmas.{not_other_so, other_so, uncut_so}
use Rattle.raft_opening.proofs.file_rest.check_rest.Goals as goal

pub returns-in_err-check_beginning-clause-refused : goal.returns-in_err-check_beginning-clause-refused
returns-in_err-check_beginning-clause-refused c = λ whole at r.
    let p = err_from_is_err_and c.from_residual.result c.from_residual.ensures.1 in
    rw (p.1, p.2) (λ other. inr (other_so whole at c.args.rest.now r _ c.offset-at.ensures.value _ (c.in_err-check_beginning.ensures.refused other)))

pub returns-in-AbsoluteConsistency-clause-refused : goal.returns-in-AbsoluteConsistency-clause-refused
returns-in-AbsoluteConsistency-clause-refused c = λ whole at r.
    rw (c.in-AbsoluteConsistency.is) (λ other. inl (tt, uncut_so whole at c.args.rest.now r _ c.offset-at.ensures.value _ c.uncut.ensures))

pub returns-in-TolerateTornTail-clause-tolerated : goal.returns-in-TolerateTornTail-clause-tolerated
returns-in-TolerateTornTail-clause-tolerated c = λ whole at r. rw (c.in-TolerateTornTail.is) (c.check_undamaged.ensures.ok whole at r)

pub returns-in-TolerateTornTail-clause-of_version : goal.returns-in-TolerateTornTail-clause-of_version
returns-in-TolerateTornTail-clause-of_version c = λ whole at r. on_any c.check_undamaged.result (not_other_so whole at c.args.rest.now r _ c.offset-at.ensures.value c.in_ok-check_beginning.ensures.ok)

pub returns-in-TolerateTornTail-clause-refused : goal.returns-in-TolerateTornTail-clause-refused
returns-in-TolerateTornTail-clause-refused c = λ whole at r.
    rw (c.in-TolerateTornTail.is) (IfErr-weaker c.check_undamaged.result _ _ (λ e why other. inl (why other)) (c.check_undamaged.ensures.refused whole at r))

pub returns-in-TolerateTailCorruption-clause-tolerated : goal.returns-in-TolerateTailCorruption-clause-tolerated
returns-in-TolerateTailCorruption-clause-tolerated c = λ whole at r. rw (c.in-TolerateTailCorruption.is) (λ d. d)

pub returns-in-TolerateTailCorruption-clause-of_version : goal.returns-in-TolerateTailCorruption-clause-of_version
returns-in-TolerateTailCorruption-clause-of_version c = λ whole at r. not_other_so whole at c.args.rest.now r _ c.offset-at.ensures.value c.in_ok-check_beginning.ensures.ok
