use Rattle.raft_plain.proofs.WaitLemmas.{wait_found, wait_gone}
use Rattle.raft_plain.proofs.groups.take_stretch.Goals as goal

pub returns-clause-own : goal.returns-clause-own
returns-clause-own c = wait_found c.args.waiting c.args.group c.remove-own.result c.requires c.remove-own.ensures.value

pub returns-clause-others : goal.returns-clause-others
returns-clause-others c = wait_gone c.args.waiting c.remove-own.new.self c.args.group c.requires c.remove-own.ensures.ordered c.remove-own.ensures.entries
