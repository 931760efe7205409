use Rattle.raft_accessor.proofs.Common.{IfOk-weaker, sym, subst, IsPermutation}
use Rattle.std.specs.FinMap as finite
use Rattle.raft_accessor.proofs.WalkLemmas.{all-kept}
use Rattle.raft_accessor.proofs.accessor.MemTableAccessor.tables.Goals as goal

pub returns-clause-tables : goal.returns-clause-tables
returns-clause-tables c = IfOk-weaker c.collect.result _ _ (λ kept p. subst (λ l. IsPermutation l (finite.values c.args.self.now.tables)) (sym (all-kept _ _ _ p.0 (λ f f' t b h. h.called.met.0) p.3)) p.2) c.collect.ensures.ok
