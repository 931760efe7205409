use Rattle.raft_shared.proofs.Common.{IfErr-weaker, on_ok_weaker, ◌∙◌, length, ap, arith, Batch}
use Rattle.raft_shared.proofs.SharedLemmas.{joined-cleans, only-memory}
use Rattle.raft_shared.proofs.slot.append_cleans.Goals as goal

pub returns-clause-ok : goal.returns-clause-ok
returns-clause-ok c = on_ok_weaker c.merge.result (λ e. e ∙ joined-cleans c.args.logs.now c.in_ok-cleans.cleans c.args.ids.now c.in_ok-cleans.ensures.ok) c.merge.ensures.ok

pub returns-clause-memory : goal.returns-clause-memory
returns-clause-memory c = IfErr-weaker c.merge.result _ _ (λ e h. only-memory e (λ other. omega (
  arith,
  c.is_read_again.ensures.tiled.fits,
  ap (λ (b : Batch). length
      b.entry_bytes) c.in_ok-cleans.ensures.ok,
  (h other).1,
))) c.merge.ensures.fault
