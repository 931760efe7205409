use Rattle.raft_inspect.proofs.Common.{rules}
use Rattle.raft_inspect.proofs.JsonLemmas.{tail_is}
use Rattle.raft_inspect.proofs.json.append_json_tail_line.Goals as goal

pub returns : goal.returns
returns c = rw (tail_is c.args.queue c.args.tail.now) (search rules)
