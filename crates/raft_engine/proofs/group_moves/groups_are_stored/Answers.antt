use Rattle.raft_engine.proofs.DoneLemmas.{put_done}
use Rattle.raft_engine.proofs.GroupPuts.{group_begun, group_ended, group_gone_on, group_put}
use Rattle.raft_engine.proofs.group_moves.groups_are_stored.Goals as goal

pub returns-clause-begun : goal.returns-clause-begun
returns-clause-begun c version asks base tables seq bytes group batch last w of k =
    group_begun c.what_is_done_lasts.ensures c.nothing_is_lost.ensures c.told_contents_last.ensures.both
    (put_done c.asks_do_deeds.ensures.written c.asks_put_batches.ensures.written) c.asks_do_deeds.ensures.next c.placed_items_are_in_their_file.ensures
    version asks base tables seq bytes group batch last w c.open_groups_are_safe.ensures of k

pub returns-clause-goes_on : goal.returns-clause-goes_on
returns-clause-goes_on c version asks base tables seq bytes group batch items last w of g =
    group_gone_on c.what_is_done_lasts.ensures c.nothing_is_lost.ensures c.told_contents_last.ensures.both
    (put_done c.asks_do_deeds.ensures.written c.asks_put_batches.ensures.written) c.asks_do_deeds.ensures.next c.placed_items_are_in_their_file.ensures
    version asks base tables seq bytes group batch last w items g c.open_groups_are_safe.ensures of

pub returns-clause-ended : goal.returns-clause-ended
returns-clause-ended c version asks base tables new seq bytes group batch items synced last w of g taken moves =
    group_ended c.what_is_done_lasts.ensures c.nothing_is_lost.ensures c.told_contents_last.ensures.both
    (put_done c.asks_do_deeds.ensures.written c.asks_put_batches.ensures.written) c.asks_do_deeds.ensures.next c.placed_items_are_in_their_file.ensures
    version asks base tables seq bytes group batch last w items g c.moving_is_safe.ensures.group synced of new taken moves

pub returns-clause-put : goal.returns-clause-put
returns-clause-put c version asks base tables seq bytes group batch items synced last w of g moves =
    group_put c.what_is_done_lasts.ensures c.nothing_is_lost.ensures c.told_contents_last.ensures.both
    (put_done c.asks_do_deeds.ensures.written c.asks_put_batches.ensures.written) c.asks_do_deeds.ensures.next c.placed_items_are_in_their_file.ensures
    version asks base tables seq bytes group batch last w items g c.moving_is_safe.ensures.group synced of moves
