use Rattle.raft_engine.proofs.DoneLemmas.{put_done, sync_done}
use Rattle.raft_engine.proofs.FoundDoneLemmas.{ready_done}
use Rattle.raft_engine.proofs.FoundStoredLemmas.{found_ready, found_records, found_stored}
use Rattle.raft_engine.proofs.stored_found.found_files_are_stored.Goals as goal

pub returns-clause-ready : goal.returns-clause-ready
returns-clause-ready c =
    let done = c.asks_do_deeds.ensures in
    let put = c.asks_put_batches.ensures in
    found_ready (ready_done done.found done.found_whole done.cut done.begun put.found put.cut put.begun)

pub returns-clause-stored : goal.returns-clause-stored
returns-clause-stored c =
    let done = c.asks_do_deeds.ensures in
    let put = c.asks_put_batches.ensures in
    let told = c.told_items_take_away_the_same.ensures in
    found_stored (ready_done done.found done.found_whole done.cut done.begun put.found put.cut put.begun)
    c.what_is_done_lasts.ensures c.files_that_are_left_hold_what_may_be_left.ensures c.nothing_is_lost.ensures c.told_contents_last.ensures.both
    (put_done done.written put.written) (sync_done done.synced put.synced) done.next
    told.in_file told.status told.no_marker c.opening_is_safe.ensures.mixed c.opening_is_safe.ensures.later

pub returns-clause-records : goal.returns-clause-records
returns-clause-records c =
    let done = c.asks_do_deeds.ensures in
    let put = c.asks_put_batches.ensures in
    let told = c.told_items_take_away_the_same.ensures in
    found_records (ready_done done.found done.found_whole done.cut done.begun put.found put.cut put.begun)
    c.what_is_done_lasts.ensures c.files_that_are_left_hold_what_may_be_left.ensures c.nothing_is_lost.ensures c.told_contents_last.ensures.both
    (put_done done.written put.written) (sync_done done.synced put.synced) done.next
    told.in_file told.status told.no_marker c.opening_is_safe.ensures.mixed c.opening_is_safe.ensures.later
