use Rattle.raft_inspect.proofs.Common.{subst, sym, IfOk-weaker, IsOpeningOf, Opening}
use Rattle.raft_inspect.proofs.OpeningLemmas.{opens_so, untried_so}
use Rattle.raft_inspect.proofs.opening.try_opening.Goals as goal

pub returns-in-Ok-clause-ok : goal.returns-in-Ok-clause-ok
returns-in-Ok-clause-ok g c =
    let sizes = c.args.sizes.now in
    opens_so (g.S.ReadFiles.gives c.args.source.now) (g.S.ReadFiles.may_fail c.args.source.now) c.args.version sizes.append.items sizes.rewrite.items c.args.workers c.in-Ok.reading c.tails_to_cut.result c.in-Ok.ensures.ok c.tails_to_cut.ensures.0 c.tails_to_cut.ensures.1

pub returns-in-Err-clause-ok : goal.returns-in-Err-clause-ok
returns-in-Err-clause-ok g c =
    let sizes = c.args.sizes.now in
    IfOk-weaker c.refusal_for.result _ _
    (λ opening is.
    subst (λ (o : Opening). IsOpeningOf (g.S.ReadFiles.gives c.args.source.now) (g.S.ReadFiles.may_fail c.args.source.now) c.args.version c.args.workers sizes.append.items sizes.rewrite.items o) (sym is.0)
    (is.1, is.2, c.in-Err.ensures.refused is.1))
    c.refusal_for.ensures.ok

pub returns-in-Err-clause-untried : goal.returns-in-Err-clause-untried
returns-in-Err-clause-untried g c =
    let sizes = c.args.sizes.now in
    untried_so (g.S.ReadFiles.gives c.args.source.now) (g.S.ReadFiles.may_fail c.args.source.now) c.args.version sizes.append.items sizes.rewrite.items c.args.workers c.refusal_for.result c.in-Err.error c.in-Err.ensures.refused
    c.refusal_for.ensures.same c.refusal_for.ensures.unread
