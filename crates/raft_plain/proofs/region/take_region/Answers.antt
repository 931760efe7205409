use Rattle.raft_plain.proofs.WaitLemmas.{region_found, region_gone}
use Rattle.raft_plain.proofs.region.take_region.Goals as goal

pub returns-clause-own : goal.returns-clause-own
returns-clause-own c = region_found c.args.regions c.args.id c.remove-own.result c.requires c.remove-own.ensures.value

pub returns-clause-others : goal.returns-clause-others
returns-clause-others c = region_gone c.args.regions c.remove-own.new.self c.args.id c.requires c.remove-own.ensures.ordered c.remove-own.ensures.entries
