use Rattle.raft_engine.proofs.Common.{◌≡◌, [], subst, option_copied, pairs_between, KeptEngine, table_in}
use Rattle.std.specs.FinMap as finite
use Rattle.raft_engine.proofs.ReadKept.{no_pairs, none_visited}
use Rattle.raft_engine.proofs.engine.Engine.scan.Goals as goal

pub returns-in-None-clause-visits : goal.returns-in-None-clause-visits
returns-in-None-clause-visits g c =
    none_visited _ c.args.visit _
    (subst (λ (o : KeptEngine). pairs_between (option_copied c.args.start) (option_copied c.args.end) c.args.reverse (table_in o c.args.region).keys ≡ []) c.self.view_is
    (no_pairs (finite.get c.self.inside.accessor.tables c.args.region) c.args.region (option_copied c.args.start) (option_copied c.args.end) c.args.reverse c.in-None.ensures.value))
