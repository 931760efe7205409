use Rattle.raft_engine.proofs.Common.{err_from_is_err_and, ap, pairs_shown}
use Rattle.raft_engine.proofs.PutLemmas.{key_refused, one_put}
use Rattle.raft_engine.proofs.rewriting.put_pairs.Goals as goal

pub loop-key-preserved : goal.loop-key-preserved
loop-key-preserved c =
    one_put c.args.batch.now c.loop-key.batch c.put.new.self c.args.region c.in-Some.key.items c.in-Some.value.items (pairs_shown c.args.pairs.items)
    (pairs_shown c.loop-key.key-iterator.rest.items) (pairs_shown c.next.new.self.rest.items)
    (ap pairs_shown c.in-Some.ensures.steps.0) c.in_ok-put.ensures.ok c.in_ok-put.ensures.accepted c.loop-key.invariant

pub returns-in_err-put-clause-refused : goal.returns-in_err-put-clause-refused
returns-in_err-put-clause-refused c =
    let p = err_from_is_err_and c.from_residual.result c.from_residual.ensures.1 in
    rw (p.1, p.2) (λ some. key_refused c.args.batch.now c.loop-key.batch c.args.region c.in-Some.key.items c.in-Some.value.items (pairs_shown c.args.pairs.items)
    (pairs_shown c.loop-key.key-iterator.rest.items) (pairs_shown c.next.new.self.rest.items) _ (ap pairs_shown c.in-Some.ensures.steps.0) c.in_err-put.ensures.fault c.loop-key.invariant some)
