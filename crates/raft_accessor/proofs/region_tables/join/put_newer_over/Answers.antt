use Rattle.std.proofs.Common.{Ok, Err, subst, ◌∙◌}
use Rattle.std.proofs.lemmas.Result.{err_from_is_err_and}
use Rattle.raft_accessor.specs.TableJoins.{IsPut}
use Rattle.raft_accessor.proofs.TableJoinLemmas.{ends_met}
use Rattle.raft_accessor.proofs.region_tables.join.put_newer_over.Goals as goal

pub returns-in_err-end-clause-put : goal.returns-in_err-end-clause-put
returns-in_err-end-clause-put c =
    let p = err_from_is_err_and c.from_residual.result c.from_residual.ensures.1 in
    rw (p.1, p.2) (subst (λ n. IsPut c.args.queue c.args.mark.now n c.args.stats.now (Err c.in_err-end.field-0.0) c.args.older.now c.join_under.new.self) (c.deref_mut.ensures.value ∙ c.newer.view_is)
    (record { ok = λ run. tt; answer = tt; fault = c.in_err-end.ensures.fault; few = tt }))

pub returns-clause-put : goal.returns-clause-put
returns-clause-put c = subst (λ n. IsPut c.args.queue c.args.mark.now n c.args.stats.now (Ok (c.first_index_or_zero-start.result, c.in_ok-end.end)) c.args.older.now c.join_under.new.self) (c.deref_mut.ensures.value ∙ c.newer.view_is)
    (record {
      ok = c.in_ok-end.ensures.ok;
      answer = ends_met c.args.mark.now c.args.older.now c.first_index_or_zero-start.result c.in_ok-end.end c.first_index_or_zero-start.ensures.start c.in_ok-end.ensures.end c.first_index_or_zero-start.ensures.run;
      fault = λ run. tt;
      few = c.in_ok-end.ensures.few;
    })
