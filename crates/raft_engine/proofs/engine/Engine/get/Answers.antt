use Rattle.raft_engine.proofs.Common.{◌≡◌, None, subst, value_at, KeptEngine, table_in}
use Rattle.std.specs.FinMap as finite
use Rattle.raft_engine.proofs.TableLemmas.{no_value}
use Rattle.raft_engine.proofs.engine.Engine.get.Goals as goal

pub returns-in_err-get : goal.returns-in_err-get
returns-in_err-get g c =
    rw (c.from_residual.ensures)
    (subst (λ (o : KeptEngine). None ≡ value_at (table_in o c.args.region).keys c.args.key.now) c.self.view_is
    (no_value (finite.get c.self.inside.accessor.tables c.args.region) c.args.region c.args.key.now c.in_err-get.ensures.value))
