use Rattle.raft_engine.proofs.RegionIds.{are_regions}
use Rattle.raft_engine.proofs.rewriting.regions_of.Goals as goal

pub returns-clause-ok : goal.returns-clause-ok
returns-clause-ok c =
    are_regions (λ t. t.now) c.in_ok-tables.tables.items c.as_slice.result.now c.args.accessor.now.tables c.region_ids_of.result c.as_slice.ensures.value c.in_ok-tables.ensures.tables c.region_ids_of.ensures.ok
