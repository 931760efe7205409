use Rattle.raft_engine.proofs.BeforeLemmas.{from_before}
use Rattle.raft_engine.proofs.restarts.records_before_are_those_found.Goals as goal

pub returns : goal.returns
returns c =
    let t = c.torn_tails_are_found.ensures in
    from_before t.whole t.one_reading
