use Rattle.raft_engine.proofs.DeletedRewrites.{rewrite_delete_stored}
use Rattle.raft_engine.proofs.DoneLemmas.{begin_done, delete_done, first_done, none_done, put_done, sync_done, unsynced_done}
use Rattle.raft_engine.proofs.StoredLemmas.{begin_stored, delete_stored, first_stored, sync_stored, tell_stored, unsynced_stored, write_stored}
use Rattle.raft_engine.proofs.UntoldLemmas.{untold_more}
use Rattle.raft_engine.proofs.stored.asks_are_stored.Goals as goal

pub returns-clause-first : goal.returns-clause-first
returns-clause-first c =
    first_stored c.what_is_done_lasts.ensures c.nothing_is_lost.ensures c.told_contents_last.ensures.both
    (none_done c.asks_do_deeds.ensures.none c.asks_put_batches.ensures.nothing)
    (first_done c.asks_do_deeds.ensures.begun c.asks_put_batches.ensures.begun)
    c.empty_queues_are_safe.ensures

pub returns-clause-synced : goal.returns-clause-synced
returns-clause-synced c =
    sync_stored c.what_is_done_lasts.ensures c.nothing_is_lost.ensures c.told_contents_last.ensures.both
    (sync_done c.asks_do_deeds.ensures.synced c.asks_put_batches.ensures.synced)
    c.syncing_is_safe.ensures.append c.syncing_is_safe.ensures.rewrite

pub returns-clause-unsynced : goal.returns-clause-unsynced
returns-clause-unsynced c =
    unsynced_stored c.what_is_done_lasts.ensures c.nothing_is_lost.ensures c.told_contents_last.ensures.both (unsynced_done c.asks_do_deeds.ensures.unsynced_whole)

pub returns-clause-begun : goal.returns-clause-begun
returns-clause-begun c =
    begin_stored c.what_is_done_lasts.ensures c.nothing_is_lost.ensures c.told_contents_last.ensures.both
    (begin_done c.asks_do_deeds.ensures.begun c.asks_put_batches.ensures.begun c.asks_do_deeds.ensures.next)

pub returns-clause-written : goal.returns-clause-written
returns-clause-written c =
    let told = c.items_that_take_nothing_away_need_no_telling.ensures in
    write_stored c.what_is_done_lasts.ensures c.nothing_is_lost.ensures c.told_contents_last.ensures.both
    (put_done c.asks_do_deeds.ensures.written c.asks_put_batches.ensures.written) c.asks_do_deeds.ensures.next
    c.placed_items_are_in_their_file.ensures c.writing_is_safe.ensures.taking c.telling_is_safe.ensures.same
    (untold_more told.same told.placed c.what_says_the_same_is_as_untold.ensures.joined)

pub returns-clause-told : goal.returns-clause-told
returns-clause-told c =
    let told = c.told_items_take_away_the_same.ensures in
    tell_stored c.what_is_done_lasts.ensures c.nothing_is_lost.ensures c.told_contents_last.ensures.both
    (put_done c.asks_do_deeds.ensures.written c.asks_put_batches.ensures.written) c.asks_do_deeds.ensures.next
    c.telling_is_safe.ensures.told told.removals told.in_file told.status told.no_marker

pub returns-clause-deleted : goal.returns-clause-deleted
returns-clause-deleted c =
    delete_stored c.what_is_done_lasts.ensures c.nothing_is_lost.ensures c.told_contents_last.ensures.both
    (delete_done c.asks_do_deeds.ensures.deleted c.asks_put_batches.ensures.deleted)
    c.deleting_is_safe.ensures.append

pub returns-clause-rewrite_deleted : goal.returns-clause-rewrite_deleted
returns-clause-rewrite_deleted c =
    rewrite_delete_stored c.what_is_done_lasts.ensures c.nothing_is_lost.ensures c.told_contents_last.ensures.both
    (delete_done c.asks_do_deeds.ensures.deleted c.asks_put_batches.ensures.deleted)
    c.deleting_is_safe.ensures.rewrite
