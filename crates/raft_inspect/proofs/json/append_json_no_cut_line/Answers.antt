use Rattle.raft_inspect.proofs.Common.{rules}
use Rattle.raft_inspect.proofs.JsonLemmas.{uncut_is}
use Rattle.raft_inspect.proofs.json.append_json_no_cut_line.Goals as goal

pub returns : goal.returns
returns c = rw (uncut_is c.args.queue) (search rules)
