use Rattle.raft_engine.proofs.DoneLemmas.{put_done}
use Rattle.raft_engine.proofs.MovedLemmas.{move_stored, put_stored, read_stored}
use Rattle.raft_engine.proofs.moved.moves_are_stored.Goals as goal

pub returns-clause-read : goal.returns-clause-read
returns-clause-read c =
    read_stored c.what_is_done_lasts.ensures c.nothing_is_lost.ensures c.told_contents_last.ensures.both c.asks_do_deeds.ensures.read_whole

pub returns-clause-moved : goal.returns-clause-moved
returns-clause-moved c version old asks base tables new seq bytes gate left t batch synced last w found m taken k =
    move_stored c.what_is_done_lasts.ensures c.nothing_is_lost.ensures c.told_contents_last.ensures.both
    (put_done c.asks_do_deeds.ensures.written c.asks_put_batches.ensures.written) c.asks_do_deeds.ensures.next
    c.placed_items_are_in_their_file.ensures c.told_contents_are_those_that_were_added.ensures.added c.told_contents_are_those_that_were_added.ensures.read c.moving_is_safe.ensures.items c.moving_is_safe.ensures.again
    version old asks base tables seq bytes gate left t batch synced last w found m k new taken

pub returns-clause-put : goal.returns-clause-put
returns-clause-put c version old asks base tables seq bytes gate left t batch synced last w found sound m k =
    put_stored c.what_is_done_lasts.ensures c.nothing_is_lost.ensures c.told_contents_last.ensures.both
    (put_done c.asks_do_deeds.ensures.written c.asks_put_batches.ensures.written) c.asks_do_deeds.ensures.next
    c.placed_items_are_in_their_file.ensures c.told_contents_are_those_that_were_added.ensures.added c.told_contents_are_those_that_were_added.ensures.read c.moving_is_safe.ensures.items c.moving_is_safe.ensures.again
    version old asks base tables seq bytes gate left t batch synced last w found m k sound
