use Rattle.raft_plain.proofs.Common.{None, refl}
use Rattle.raft_plain.proofs.PairLemmas.{empty_region}
use Rattle.raft_plain.proofs.region.region_or_empty.Goals as goal

pub returns-in-None : goal.returns-in-None
returns-in-None c id =
    rw c.in-None.is (empty_region id (record { entries = c.new.result; keys = c.new-in-None.result; group = None }) c.new.ensures.items c.new-in-None.ensures.empty refl)
