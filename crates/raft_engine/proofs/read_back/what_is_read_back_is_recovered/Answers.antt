use Rattle.raft_engine.proofs.RoundTripLemmas.{round_trip}
use Rattle.raft_engine.proofs.read_back.what_is_read_back_is_recovered.Goals as goal

pub returns : goal.returns
returns c =
    let t = c.torn_tails_are_found.ensures in
    round_trip t.whole t.one_reading t.cut c.files_hold_few_records.ensures c.histories_of_the_append_queue_are_apart.ensures c.readings_agree.ensures.tables c.readings_agree.ensures.cleaned
    c.files_that_stand_hold_a_prefix.ensures.front
