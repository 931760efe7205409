use Rattle.raft_ffi.proofs.Common.{sym, subst, AreTablesOf, HasBothRead, HasTablesRead}
use Rattle.raft_ffi.proofs.context_calls.finish_into_box.Goals as goal

pub returns-clause-ok : goal.returns-clause-ok
returns-clause-ok c =
    let made = c.in_ok-accessor.ensures in
    subst (AreTablesOf c.args.context) (sym c.in_ok-new.ensures.ok) (record { tables = made.tables; cleaned = made.cleaned; counts = made.exact_counts })

pub returns-clause-reading : goal.returns-clause-reading
unfolding HasTablesRead
returns-clause-reading c =
    subst (HasTablesRead c.args.context) (sym c.in_ok-new.ensures.ok) (λ q h exact suits. c.in_ok-accessor.ensures.reading q h exact suits)

pub returns-clause-overlaid : goal.returns-clause-overlaid
unfolding HasBothRead
returns-clause-overlaid c =
    subst (HasBothRead c.args.context) (sym c.in_ok-new.ensures.ok) (λ rewrite append both. c.in_ok-accessor.ensures.overlaid rewrite append both)
