use Rattle.raft_shared.proofs.Common.{item_of, writing_shown}
use Rattle.raft_shared.proofs.SharedLemmas.{one_written_so, one_refused_so}
use Rattle.raft_shared.proofs.shared_accessor.SharedAccessor.write_item.Goals as goal

pub returns-clause-ok : goal.returns-clause-ok
returns-clause-ok g c = one_written_so (writing_shown c.args.how) (item_of c.args.item) c.write_item.result _ _ c.write_item.ensures.written.ok

pub returns-clause-fault : goal.returns-clause-fault
returns-clause-fault g c = one_refused_so (writing_shown c.args.how) (item_of c.args.item) c.write_item.result _ _ c.write_item.ensures.written
