use Rattle.raft_engine.proofs.Common.{err_from_is_err_and, inl, inr, Append, Rewrite}
use Rattle.raft_engine.proofs.reading.Ready.of.Goals as goal

pub into_ready-requires : goal.into_ready-requires
into_ready-requires c = let r = c.requires in (Append, r.0, r.1, r.3, r.5)

pub into_ready-requires-2 : goal.into_ready-requires-2
into_ready-requires-2 c = let r = c.requires in (Rewrite, r.0, r.2, r.4, r.6)

pub returns-in_err-append_ready-clause-fault : goal.returns-in_err-append_ready-clause-fault
returns-in_err-append_ready-clause-fault c = λ version found known fa fr ta tr.
    let p = err_from_is_err_and c.from_residual.result c.from_residual.ensures.1 in
    rw (p.1, p.2) (λ other. inl (c.in_err-append_ready.ensures.fault Append version found fa ta other))

pub returns-in_err-rewrite_ready-clause-fault : goal.returns-in_err-rewrite_ready-clause-fault
returns-in_err-rewrite_ready-clause-fault c = λ version found known fa fr ta tr.
    let p = err_from_is_err_and c.from_residual-in_err-rewrite_ready.result c.from_residual-in_err-rewrite_ready.ensures.1 in
    rw (p.1, p.2) (λ other. inr (c.in_err-rewrite_ready.ensures.fault Rewrite version known fr tr other))

pub returns-clause-ok : goal.returns-clause-ok
returns-clause-ok c = λ version found known fa fr ta tr. record {
  append = c.in_ok-append_ready.ensures.ok Append version found fa ta;
  rewrite = c.in_ok-rewrite_ready.ensures.ok Rewrite version known fr tr;
}
