use Rattle.std.proofs.lemmas.Result.{IfOk-weaker}
use Rattle.raft_table.proofs.Common.{ap, ◌∙◌, filter}
use Rattle.raft_table.proofs.KeyValueCounts.{keys-shown}
use Rattle.std.specs.FinSet as finset
use Rattle.raft_table.proofs.memtable.key_values.KeyValues.keys_in.Goals as goal

pub returns : goal.returns
returns c = IfOk-weaker c.copy_keys_in.result _ _ (λ keys h. h ∙ ap (filter (finset.contains c.args.set.now)) (keys-shown c.self.inside c.args.self.now c.self.invariant c.self.view_is)) c.copy_keys_in.ensures
