use Rattle.raft_plain.proofs.WaitLemmas.{region_put, region_gone}
use Rattle.raft_plain.proofs.region.set_region.Goals as goal

pub returns-in_ok-insert-in-Some-clause-ok : goal.returns-in_ok-insert-in-Some-clause-ok
returns-in_ok-insert-in-Some-clause-ok c = rw c.in-Some.is (region_put c.args.regions c.insert.new.self c.args.id c.in-Some.region c.requires c.insert.ensures.ordered c.in_ok-insert-in-Some.ensures.entries)

pub returns-in-None-clause-ok : goal.returns-in-None-clause-ok
returns-in-None-clause-ok c = rw c.in-None.is (region_gone c.args.regions c.remove.new.self c.args.id c.requires c.remove.ensures.ordered c.remove.ensures.entries)
