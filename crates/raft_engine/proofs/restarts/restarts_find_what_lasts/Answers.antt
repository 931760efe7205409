use Rattle.raft_engine.proofs.RestartLemmas.{found_by_restarts}
use Rattle.raft_engine.proofs.restarts.restarts_find_what_lasts.Goals as goal

pub returns : goal.returns
returns c =
    let t = c.torn_tails_are_found.ensures in
    found_by_restarts t.whole t.one_reading t.cut c.files_hold_few_records.ensures
